-- Outcomes one after another are outcomes to all their events.
use Rattle.std.proofs.Common.{◌≡◌, ℕ, Bool, true, false, cond, ◌||◌, ◌==◌, List, [], ◌∷◌, ◌++◌, Option, Some, None, refl, sym, ap, ap₂, ◌∙◌, inl, inr, true≢false}
use Rattle.std.proofs.lemmas.List.{append_assoc}
use Rattle.std.proofs.lemmas.Bool.{cases_Bool, cases_eq, eq-eqb, ne_eqb, cond-true, cond-false}
use Rattle.map_model.specs.declared.call.Call.TheVariants as call
use Rattle.map_model.specs.Histories.{Step}
use Rattle.core_crash.specs.core_state.Openings.{Opening}
use Rattle.core_crash.specs.core_state.States.{State, start}
use Rattle.core_crash.specs.core_state.Events.{Event}
use Rattle.core_crash.specs.core_state.Local.{is_of}
use Rattle.core_crash.specs.core_state.Needs.{may}
use Rattle.core_crash.specs.core_state.Steps.{step, run, state_after}
use Rattle.core_calls.proofs.PairLemmas.{none_behind}
use Rattle.core_calls.specs.Marks.{Mark, Began, Called, Back, Ended, mark, onto, marks}
use Rattle.core_calls.specs.Deeds.{Deed, Begun, Got, Changed, Deleted, Absent, Met, Paused, Over, Committed, Aborted, Refused, Synced, Checkpointed, asked, put_backs, marks_of, Unsaid, reads_of, Outcome, marks_for, marks_by, AreInTurn, commits, Answers}
use Rattle.core_calls.specs.Refusals.{Limits}
use Rattle.core_calls.specs.Fronts.{Done, front, outcomes}
use Rattle.core_calls.specs.Runs.{EachTells, Moment, Waiting, InHand, RunLaws, EveryRun}

-- ## One list behind another

abbrev one : Opening → State → Event → ℕ → List Mark → List Mark
one g s e w earlier = cond (may g s e) (cond (is_of e w) (onto (mark g s e) earlier) earlier) earlier

pub marks_run : (g : Opening) (s : State) (a b : List Event) (w : ℕ) (ms : List Mark) → marks g s (a ++ b) w ms ≡ marks g (run g s a) b w (marks g s a w ms)
marks_run g s [] b w ms = refl
marks_run g s (e ∷ a) b w ms = marks_run g (step g s e) a b w (one g s e w ms)

one_more : (g : Opening) (s : State) (e : Event) (w : ℕ) (ms : List Mark) → one g s e w ms ≡ one g s e w [] ++ ms
one_more g s e w ms = go (may g s e) (is_of e w) (mark g s e)
  where
    go : (a b : Bool) (o : Option Mark) → cond a (cond b (onto o ms) ms) ms ≡ cond a (cond b (onto o []) []) [] ++ ms
    go false b o = refl
    go true false o = refl
    go true true None = refl
    go true true (Some m) = refl

pub marks_more : (g : Opening) (s : State) (es : List Event) (w : ℕ) (ms : List Mark) → marks g s es w ms ≡ marks g s es w [] ++ ms
marks_more g s [] w ms = refl
marks_more g s (e ∷ es) w ms =
    ap (marks g (step g s e) es w) (one_more g s e w ms)
    ∙ (marks_more g (step g s e) es w (one g s e w [] ++ ms)
    ∙ (sym (append_assoc (marks g (step g s e) es w []) (one g s e w []) ms)
    ∙ ap (λ (l : List Mark). l ++ ms) (sym (marks_more g (step g s e) es w (one g s e w [])))))

pub marks_behind : (g : Opening) (a b : List Event) (w : ℕ) → marks g (start g) (a ++ b) w [] ≡ marks g (run g (start g) a) b w [] ++ marks g (start g) a w []
marks_behind g a b w = marks_run g (start g) a b w [] ∙ marks_more g (run g (start g) a) b w (marks g (start g) a w [])

-- ## Whole outcomes

pub in_turn_all : (l : Limits) (g : Opening) (group : ℕ) (xs : List Done) → EachTells l g group xs → AreInTurn (outcomes xs)
in_turn_all l g group [] t = tt
in_turn_all l g group (x ∷ xs) t = (in_turn_all l g group xs t.0, t.1.in_turn)

pub marks_all : (l : Limits) (g : Opening) (group : ℕ) (xs : List Done) → EachTells l g group xs → (w : ℕ) → marks g (start g) (front xs) w [] ≡ marks_by w (outcomes xs)
marks_all l g group [] t w = refl
marks_all l g group (x ∷ xs) t w =
    marks_behind g (front xs) x.events w
    ∙ (ap₂ (λ (a b : List Mark). a ++ b) (t.1.told w) (marks_all l g group xs t.0 w) ∙ go (x.outcome.session == w))
  where
    go : (b : Bool) → cond b (marks_for x.outcome) [] ++ marks_by w (outcomes xs) ≡ cond b (marks_for x.outcome ++ marks_by w (outcomes xs)) (marks_by w (outcomes xs))
    go true = refl
    go false = refl

pub answers_all : (l : Limits) (g : Opening) (group : ℕ) (xs : List Done) → EachTells l g group xs → Answers g (front xs) (outcomes xs)
answers_all l g group xs t = record { rest = λ w. []; each = marks_all l g group xs t; open_yet = λ w. refl; in_turn = in_turn_all l g group xs t }

-- ## A part of an outcome

commits_both : (a b : List Mark) → commits (a ++ b) ≡ (commits a || commits b)
commits_both [] b = refl
commits_both (Ended true n at ∷ a) b = refl
commits_both (Ended false n at ∷ a) b = commits_both a b
commits_both (Began n ∷ a) b = commits_both a b
commits_both (Called c v alone ∷ a) b = commits_both a b
commits_both (Back c v ∷ a) b = commits_both a b

commits_reads : (us : List Unsaid) → commits (reads_of us) ≡ false
commits_reads [] = refl
commits_reads (u ∷ us) = commits_reads us

commits_backs : (bs : List Step) (ms : List Mark) → commits (put_backs bs ++ ms) ≡ commits ms
commits_backs [] ms = refl
commits_backs (b ∷ bs) ms = commits_backs bs ms

-- a part that commits is the whole of a commit
pub record IsWhole (a b : List Mark) (x : Outcome) : Type 0 where
  pub none : a ≡ []
  pub is_commit : asked x.deed ≡ call.Commit

pub part : (a b : List Mark) (x : Outcome) → a ++ b ≡ marks_for x → commits b ≡ true → IsWhole a b x
part a b x e c = go x.deed refl
  where
    none : (commits (marks_for x) ≡ false) → IsWhole a b x
    none q = absurd (true≢false (sym (or_right (commits a) c) ∙ (sym (commits_both a b) ∙ (ap commits e ∙ q))))
      where
        or_right : (y : Bool) → commits b ≡ true → (y || commits b) ≡ true
        or_right true z = refl
        or_right false z = z

    at : (d : Deed) → x.deed ≡ d → commits (marks_of d ++ reads_of x.unsaid) ≡ false → IsWhole a b x
    at d q z = none (ap (λ (y : Deed). commits (marks_of y ++ reads_of x.unsaid)) q ∙ z)

    go : (d : Deed) → x.deed ≡ d → IsWhole a b x
    go (Begun n) q = at (Begun n) q (commits_reads x.unsaid)
    go (Got k v alone) q = at (Got k v alone) q (commits_reads x.unsaid)
    go (Changed k v w) q = at (Changed k v w) q (commits_reads x.unsaid)
    go (Deleted k v) q = at (Deleted k v) q (commits_reads x.unsaid)
    go (Absent k) q = at (Absent k) q (commits_reads x.unsaid)
    go (Met from to k v alone) q = at (Met from to k v alone) q (commits_reads x.unsaid)
    go (Paused from to k) q = at (Paused from to k) q (commits_reads x.unsaid)
    go (Over from to) q = at (Over from to) q (commits_reads x.unsaid)
    go (Aborted k n m bs) q = at (Aborted k n m bs) q (commits_backs bs (reads_of x.unsaid) ∙ commits_reads x.unsaid)
    go (Refused k r bs) q = at (Refused k r bs) q (commits_backs bs (reads_of x.unsaid) ∙ commits_reads x.unsaid)
    go (Synced m) q = at (Synced m) q (commits_reads x.unsaid)
    go (Checkpointed m) q = at (Checkpointed m) q (commits_reads x.unsaid)
    go (Committed n m) q = here a (e ∙ ap (λ (y : Deed). marks_of y ++ reads_of x.unsaid) q)
      where
        rest : List Mark → List Mark
        rest [] = []
        rest (y ∷ ys) = ys

        here : (z : List Mark) → z ++ b ≡ Ended true n m ∷ reads_of x.unsaid → IsWhole z b x
        here [] p = record { none = refl; is_commit = ap asked q }
        here (y ∷ ys) p = absurd (true≢false (sym (or_right (commits ys) c) ∙ (sym (commits_both ys b) ∙ (ap (λ (l : List Mark). commits (rest l)) p ∙ commits_reads x.unsaid))))
          where
            or_right : (y : Bool) → commits b ≡ true → (y || commits b) ≡ true
            or_right true z = refl
            or_right false z = z

module _ (l : Limits) (g : Opening) (group : ℕ) (earlier : List Done) (x : Done) (t : EachTells l g group (x ∷ earlier)) where
  module _ (before after : List Event) (e : x.events ≡ before ++ after) where
    s : State
    s = state_after g (front earlier)

    -- what was done by then, and what is to be done
    abbrev by : ℕ → List Mark
    by w = marks g (state_after g (front earlier)) before w []

    abbrev later : ℕ → List Mark
    later w = marks g (run g (state_after g (front earlier)) before) after w []

    both : (w : ℕ) → later w ++ by w ≡ cond (x.outcome.session == w) (marks_for x.outcome) []
    both w = sym (marks_run g (state_after g (front earlier)) before after w [] ∙ marks_more g (run g (state_after g (front earlier)) before) after w (by w))
        ∙ (ap (λ (es : List Event). marks g (state_after g (front earlier)) es w []) (sym e) ∙ t.1.told w)

    each : (w : ℕ) → marks g (start g) (front earlier ++ before) w [] ≡ by w ++ marks_by w (outcomes earlier)
    each w = marks_behind g (front earlier) before w ∙ ap (λ (ms : List Mark). by w ++ ms) (marks_all l g group earlier t.0 w)

    others : (w : ℕ) → (x.outcome.session ≡ w → ⊥) → by w ≡ []
    others w n = none_behind (later w) (by w) (both w ∙ cond-false (x.outcome.session == w) (marks_for x.outcome) [] (ne_eqb x.outcome.session w n))

    mine : later x.outcome.session ++ by x.outcome.session ≡ marks_for x.outcome
    mine = both x.outcome.session ∙ cond-true (x.outcome.session == x.outcome.session) (marks_for x.outcome) [] (eq-eqb x.outcome.session x.outcome.session refl)

    moment : Moment g (front earlier ++ before) (outcomes earlier) x.outcome
    moment = elim (cases_Bool (commits (by x.outcome.session))) [
      | inr n ↦ Waiting (record { rest = by; each = each; open_yet = quiet n; in_turn = in_turn_all l g group earlier t.0 })
      | inl c ↦ (let q = part (later x.outcome.session) (by x.outcome.session) x.outcome mine c in InHand q.is_commit (record { rest = λ w. []; each = whole q.none; open_yet = λ w. refl; in_turn = in_turn_all l g group (x ∷ earlier) t }))
    ]
      where
        quiet : commits (by x.outcome.session) ≡ false → (w : ℕ) → commits (by w) ≡ false
        quiet n w = elim (cases_eq x.outcome.session w) [ inl i ↦ ap (λ (v : ℕ). commits (by v)) (sym i) ∙ n | inr i ↦ ap commits (others w i) ]

        whole : later x.outcome.session ≡ [] → (w : ℕ) → marks g (start g) (front earlier ++ before) w [] ≡ marks_by w (x.outcome ∷ outcomes earlier)
        whole q w = each w ∙ elim (cases_eq x.outcome.session w) [
          | inl i ↦ (ap (λ (ms : List Mark). ms ++ marks_by w (outcomes earlier)) (ap by (sym i) ∙ (ap (λ (ms : List Mark). ms ++ by x.outcome.session) (sym q) ∙ mine))
              ∙ sym (cond-true (x.outcome.session == w) (marks_for x.outcome ++ marks_by w (outcomes earlier)) (marks_by w (outcomes earlier)) (eq-eqb x.outcome.session w i)))
          | inr i ↦ (ap (λ (ms : List Mark). ms ++ marks_by w (outcomes earlier)) (others w i)
              ∙ sym (cond-false (x.outcome.session == w) (marks_for x.outcome ++ marks_by w (outcomes earlier)) (marks_by w (outcomes earlier)) (ne_eqb x.outcome.session w i)))
        ]

  pub run_laws : RunLaws g earlier x
  run_laws = record { whole = answers_all l g group (x ∷ earlier) t; moments = moment }

pub every_run : EveryRun
every_run l g group earlier x t = run_laws l g group earlier x t
