-- A session with no open transaction holds no row.
use Rattle.std.proofs.Common.{◌≡◌, ◌⊎◌, ℕ, Bool, true, false, cond, not, ◌||◌, ◌==◌, List, [], ◌∷◌, ◌++◌, Option, Some, None, refl, sym, ap, ap₂, ◌∙◌, subst, inl, inr, true≢false}
use Rattle.std.proofs.lemmas.Bool.{cases_Bool, cases_eq, eq-eqb, ne_eqb, and_parts, cond-true, cond-false}
use Rattle.map_model.specs.Lists.{keep}
use Rattle.map_model.specs.Histories.{Step}
use Rattle.core_crash.specs.image_model.Entries.{Kind, Entry, is_end}
use Rattle.core_crash.specs.core_state.Openings.{Opening}
use Rattle.core_crash.specs.core_state.States.{Row, State, start}
use Rattle.core_crash.specs.core_state.Events.{Event, Mode}
use Rattle.core_crash.specs.core_state.Local.{publishes_row, is_of}
use Rattle.core_crash.specs.core_state.Needs.{is_held_by, is_reader, holds_row, may_hold, pages_of, are_hot, needs, may}
use Rattle.core_crash.specs.core_state.Steps.{locked, unlocked, happens, run, state_after}
use Rattle.core_crash.proofs.core_state.Locality.{every_local}
use Rattle.core_crash.proofs.core_state.Runs.{run_more}
use Rattle.core_calls.specs.Marks.{Mark, Began, Called, Back, Ended, mark, onto, marks}
use Rattle.core_calls.specs.Deeds.{Deed, Begun, Got, Changed, Deleted, Absent, Met, Paused, Over, Committed, Aborted, Refused, Synced, Checkpointed, put_backs, marks_of, Unsaid, reads_of, marks_for}
use Rattle.core_calls.specs.Fronts.{front}
use Rattle.core_calls.specs.Runs.{ends, EveryReleased}
use Rattle.core_calls.proofs.EntryLemmas.{entry_mark, Adds, None_new, One_new, Begin_new, adds}
use Rattle.core_calls.proofs.RunLemmas.{marks_more}

-- ## Rows of others

pub or_false : (a b : Bool) → (a || b) ≡ false → (a ≡ false) × (b ≡ false)
or_false true b h = absurd (true≢false h)
or_false false b h = (refl, h)

or_both : (a b : Bool) → a ≡ false → b ≡ false → (a || b) ≡ false
or_both a b p q = ap₂ (λ (x y : Bool). x || y) p q

-- another's lock gives w nothing
locked_other : (o : Row) (v w : ℕ) (mode : Mode) → (v ≡ w → ⊥) → holds_row o w ≡ false → holds_row (locked o v mode) w ≡ false
locked_other o v w Mode.Shared n h = go (is_held_by o.holder v) (is_reader v o.readers)
  where
    go : (a b : Bool) → holds_row (cond a o (record o { readers = cond b o.readers (v ∷ o.readers) })) w ≡ false
    go true b = h
    go false true = h
    go false false = let p = or_false (is_held_by o.holder w) (is_reader w o.readers) h in or_both (is_held_by o.holder w) ((v == w) || is_reader w o.readers) p.0 (or_both (v == w) (is_reader w o.readers) (ne_eqb v w n) p.1)
locked_other o v w Mode.Alone n h = go (is_held_by o.holder v)
  where
    go : (a : Bool) → holds_row (cond a o (record o { holder = Some v; readers = [] })) w ≡ false
    go true = h
    go false = or_both (v == w) false (ne_eqb v w n) refl

-- nor does an unlock
kept_reader : (w : ℕ) (p : ℕ → Bool) (l : List ℕ) → is_reader w l ≡ false → is_reader w (keep p l) ≡ false
kept_reader w p [] h = refl
kept_reader w p (x ∷ l) h = go (p x) (kept_reader w p l (or_false (x == w) (is_reader w l) h).1)
  where
    go : (b : Bool) → is_reader w (keep p l) ≡ false → is_reader w (cond b (x ∷ keep p l) (keep p l)) ≡ false
    go true ih = or_both (x == w) (is_reader w (keep p l)) (or_false (x == w) (is_reader w l) h).0 ih
    go false ih = ih

unlocked_off : (o : Row) (v w n : ℕ) → holds_row o w ≡ false → holds_row (unlocked o v n) w ≡ false
unlocked_off o v w n h = go (is_held_by o.holder v)
  where
    p : (is_held_by o.holder w ≡ false) × (is_reader w o.readers ≡ false)
    p = or_false (is_held_by o.holder w) (is_reader w o.readers) h

    others : is_reader w (keep (λ u. not (u == v)) o.readers) ≡ false
    others = kept_reader w (λ u. not (u == v)) o.readers p.1

    go : (b : Bool) → holds_row (cond b (record { holder = None; readers = keep (λ u. not (u == v)) o.readers; number = Rattle.std.specs.Prelude.max o.number n; log = v; read_end = o.read_end })
        (record { holder = o.holder; readers = keep (λ u. not (u == v)) o.readers; number = o.number; log = o.log; read_end = Rattle.std.specs.Prelude.max o.read_end n })) w ≡ false
    go true = others
    go false = or_both (is_held_by o.holder w) (is_reader w (keep (λ u. not (u == v)) o.readers)) p.0 others

-- ## One event

abbrev pub Free : State → ℕ → Type 0
Free s w = (s.worker w).is_open ≡ false → (i : ℕ) → holds_row (s.row i) w ≡ false

-- w locks nothing that is not open
rows_event : (g : Opening) (s : State) (e : Event) (w : ℕ) → needs g s e ≡ true → (s.worker w).is_open ≡ false → ((i : ℕ) → holds_row (s.row i) w ≡ false) → (i : ℕ) → holds_row ((happens g s e).row i) w ≡ false
rows_event g s (Event.Lock v j mode) w m c h i = elim (cases_eq i j) [
  | inl q ↦ ap (λ (o : Row). holds_row o w) (cond-true (i == j) (locked (s.row j) v mode) (s.row i) (eq-eqb i j q)) ∙ locked_other (s.row j) v w mode other (h j)
  | inr n ↦ ap (λ (o : Row). holds_row o w) (cond-false (i == j) (locked (s.row j) v mode) (s.row i) (ne_eqb i j n)) ∙ h i
]
  where
    other : v ≡ w → ⊥
    other q = true≢false (sym (and_parts (s.worker v).is_open (may_hold (s.row j) v mode) m).0 ∙ (ap (λ (u : ℕ). (s.worker u).is_open) q ∙ c))
rows_event g s (Event.Unlock v j) w m c h i = elim (cases_eq i j) [
  | inl q ↦ ap (λ (o : Row). holds_row o w) (cond-true (i == j) (unlocked (s.row j) v (s.worker v).end) (s.row i) (eq-eqb i j q)) ∙ unlocked_off (s.row j) v w (s.worker v).end (h j)
  | inr n ↦ ap (λ (o : Row). holds_row o w) (cond-false (i == j) (unlocked (s.row j) v (s.worker v).end) (s.row i) (ne_eqb i j n)) ∙ h i
]
rows_event g s e w m c h i = same (publishes_row e i) refl
  where
    same : (b : Bool) → publishes_row e i ≡ b → holds_row ((happens g s e).row i) w ≡ false
    same false q = ap (λ (o : Row). holds_row o w) ((every_local g s e).rows i q) ∙ h i
    same true q = absurd (true≢false (sym q))

-- an end is told
abbrev pub has_end : List Mark → Bool
has_end [] = false
has_end (Ended c n at ∷ ms) = true
has_end (_ ∷ ms) = has_end ms

abbrev one : Opening → State → Event → ℕ → List Mark
one g s e w = cond (is_of e w) (onto (mark g s e) []) []

end_told : (f : Rattle.page_model.specs.Nodes.Format) (K : Kind) (r : Entry) → is_end K ≡ true → has_end (onto (entry_mark f K r) []) ≡ true
end_told f Kind.Commit r e = refl
end_told f Kind.Abort r e = refl
end_told f Kind.Change r e = absurd (true≢false (sym e))
end_told f Kind.Put_back r e = absurd (true≢false (sym e))
end_told f Kind.Read r e = absurd (true≢false (sym e))
end_told f Kind.Split r e = absurd (true≢false (sym e))
end_told f Kind.Lift r e = absurd (true≢false (sym e))
end_told f Kind.Join r e = absurd (true≢false (sym e))
end_told f Kind.Drop r e = absurd (true≢false (sym e))
end_told f Kind.Purge r e = absurd (true≢false (sym e))

-- who is not open then was not open before, but for an end
closed_before : (g : Opening) (s : State) (e : Event) (w : ℕ) → Adds g s e → has_end (one g s e w) ≡ false → ((happens g s e).worker w).is_open ≡ false → (s.worker w).is_open ≡ false
closed_before g s e w (None_new q) n c = sym (q.opens w) ∙ c
closed_before g s e w (Begin_new q) n c = elim (cases_eq w q.worker) [
  | inl i ↦ absurd (true≢false (sym q.opened ∙ (ap (λ (v : ℕ). ((happens g s e).worker v).is_open) (sym i) ∙ c)))
  | inr i ↦ ap (λ (a : Rattle.core_crash.specs.core_state.States.Worker). a.is_open) (sym (q.others w i)) ∙ c
]
closed_before g s e w (One_new q) n c = elim (cases_eq w q.worker) [
  | inr i ↦ ap (λ (a : Rattle.core_crash.specs.core_state.States.Worker). a.is_open) (sym (q.others w i)) ∙ c
  | inl i ↦ elim (cases_Bool (is_end q.entry.kind)) [
    | inr k ↦ sym (q.opens_same k w) ∙ c
    | inl k ↦ absurd (true≢false (sym (end_told g.format q.entry.kind q.entry k) ∙ (sym (ap has_end (cond-true (is_of e w) (onto (mark g s e) []) [] (q.by w ∙ eq-eqb q.worker w (sym i)) ∙ ap (λ (o : Option Mark). onto o []) q.mark)) ∙ n)))
  ]
]

end_both : (a b : List Mark) → has_end (a ++ b) ≡ (has_end a || has_end b)
end_both [] b = refl
end_both (Ended c n at ∷ a) b = refl
end_both (Began n ∷ a) b = end_both a b
end_both (Called c v alone ∷ a) b = end_both a b
end_both (Back c v ∷ a) b = end_both a b

free_run : (g : Opening) (es : List Event) (s : State) (w : ℕ) → has_end (marks g s es w []) ≡ false → Free s w → Free (run g s es) w
free_run g [] s w n f = f
free_run g (e ∷ es) s w n f = go (may g s e) refl (λ t k h. free_run g es t w k h) n
  where
    parts : (t : State) (ms : List Mark) → has_end (marks g t es w ms) ≡ false → (has_end (marks g t es w []) ≡ false) × (has_end ms ≡ false)
    parts t ms h = or_false (has_end (marks g t es w [])) (has_end ms) (sym (end_both (marks g t es w []) ms) ∙ (sym (ap has_end (marks_more g t es w ms)) ∙ h))

    go : (b : Bool) → may g s e ≡ b → ((t : State) → has_end (marks g t es w []) ≡ false → Free t w → Free (run g t es) w) →
        has_end (marks g (cond b (happens g s e) s) es w (cond b (one g s e w) [])) ≡ false → Free (run g (cond b (happens g s e) s) es) w
    go false m ih h = ih s h f
    go true m ih h = ih (happens g s e) (parts (happens g s e) (one g s e w) h).0
        (λ c. let b = closed_before g s e w (adds g s e need) (parts (happens g s e) (one g s e w) h).1 c in rows_event g s e w need b (f b))
      where
        need : needs g s e ≡ true
        need = (and_parts (are_hot s (pages_of e)) (needs g s e) m).1

-- ## Outcomes

reads_end : (us : List Unsaid) → has_end (reads_of us) ≡ false
reads_end [] = refl
reads_end (u ∷ us) = reads_end us

backs_end : (bs : List Step) (ms : List Mark) → has_end (put_backs bs ++ ms) ≡ has_end ms
backs_end [] ms = refl
backs_end (b ∷ bs) ms = backs_end bs ms

no_end : (d : Deed) (us : List Unsaid) → ends d ≡ false → has_end (marks_of d ++ reads_of us) ≡ false
no_end (Begun n) us e = reads_end us
no_end (Got k v alone) us e = reads_end us
no_end (Changed k v w) us e = reads_end us
no_end (Deleted k v) us e = reads_end us
no_end (Absent k) us e = reads_end us
no_end (Met from to k v alone) us e = reads_end us
no_end (Paused from to k) us e = reads_end us
no_end (Over from to) us e = reads_end us
no_end (Synced m) us e = reads_end us
no_end (Checkpointed m) us e = reads_end us
no_end (Refused c r bs) us e = backs_end bs (reads_of us) ∙ reads_end us
no_end (Committed n at) us e = absurd (true≢false e)
no_end (Aborted c n at bs) us e = absurd (true≢false e)

pub every_released : EveryReleased
every_released l g group [] t w i c = refl
every_released l g group (x ∷ xs) t w i c = go (λ j k. every_released l g group xs t.0 w j k) (cases_eq x.outcome.session w) (cases_Bool (ends x.outcome.deed))
  where
    quiet : ((j : ℕ) → ((state_after g (front xs)).worker w).is_open ≡ false → holds_row ((state_after g (front xs)).row j) w ≡ false) → has_end (marks g (state_after g (front xs)) x.events w []) ≡ false → holds_row ((state_after g (front (x ∷ xs))).row i) w ≡ false
    quiet ih n = subst (λ (s : State). Free s w) (sym (run_more g (start g) (front xs) x.events)) (free_run g x.events (state_after g (front xs)) w n (λ k j. ih j k)) c i

    go : ((j : ℕ) → ((state_after g (front xs)).worker w).is_open ≡ false → holds_row ((state_after g (front xs)).row j) w ≡ false) → (x.outcome.session ≡ w) ⊎ (x.outcome.session ≡ w → ⊥) → (ends x.outcome.deed ≡ true) ⊎ (ends x.outcome.deed ≡ false) →
        holds_row ((state_after g (front (x ∷ xs))).row i) w ≡ false
    go ih (inl q) (inl e) = subst (λ (v : ℕ). holds_row ((state_after g (front (x ∷ xs))).row i) v ≡ false) q (t.1.released e i)
    go ih (inl q) (inr e) = quiet ih (ap has_end (t.1.told w ∙ cond-true (x.outcome.session == w) (marks_for x.outcome) [] (eq-eqb x.outcome.session w q)) ∙ no_end x.outcome.deed x.outcome.unsaid e)
    go ih (inr n) e = quiet ih (ap has_end (t.1.told w ∙ cond-false (x.outcome.session == w) (marks_for x.outcome) [] (ne_eqb x.outcome.session w n)))
