-- Whether a session's transaction is open is told by the outcomes.
use Rattle.std.proofs.Common.{◌≡◌, inl, inr, ℕ, Bool, true, false, cond, ◌==◌, List, [], ◌∷◌, ◌++◌, refl, sym, ap, ◌∙◌}
use Rattle.std.proofs.lemmas.Bool.{cases_eq, cond-true, eq-eqb, ne_eqb}
use Rattle.map_model.specs.Histories.{Step}
use Rattle.map_model.specs.Lists.{upd}
use Rattle.map_model.specs.Maps.{MapAnswer}
use Rattle.paged_scans.specs.image_model.Entries.{Entry}
use Rattle.paged_scans.specs.core_state.Openings.{Opening}
use Rattle.paged_scans.specs.core_state.States.{State, Worker, start}
use Rattle.paged_scans.specs.core_state.Events.{Event}
use Rattle.paged_scans.specs.core_state.Local.{is_of}
use Rattle.paged_scans.specs.core_state.Needs.{may}
use Rattle.paged_scans.specs.core_state.Steps.{AllMet, follows, happens, put_back, run, state_after, step}
use Rattle.paged_scans.proofs.core_state.Runs.{run_more}
use Rattle.paged_scans.specs.core_calls.Deeds.{Aborted, Absent, Begun, Changed, Checkpointed, Committed, Deed, Deleted, Got, Met, Over, Paused, Refused, Synced, Unsaid, marks_for, marks_of, put_backs, reads_of}
use Rattle.paged_scans.specs.core_calls.Fronts.{Done, front}
use Rattle.paged_scans.specs.core_calls.Marks.{Mark, Began, Ended, back_in, mark, marks, met_in, onto}
use Rattle.paged_scans.specs.core_calls.Refusals.{Limits}
use Rattle.paged_scans.specs.core_calls.Runs.{Tells}

-- ## Events

-- behind an event, if it was so or not before
abbrev open_behind : ℕ → Event → Bool → Bool
open_behind w (Event.Begin v f) b = cond (w == v) true b
open_behind w (Event.End v commit f) b = cond (w == v) false b
open_behind w _ b = b

abbrev opens : ℕ → List Event → Bool → Bool
opens w [] b = b
opens w (e ∷ es) b = opens w es (open_behind w e b)

-- a worker that is as open as before
kept : (f : ℕ → Worker) (v : ℕ) (a : Worker) (w : ℕ) → a.is_open ≡ (f v).is_open → (upd f v a w).is_open ≡ (f w).is_open
kept f v a w same = elim (cases_eq w v) [
  | inl e ↦ ap (λ (b : Bool). (cond b a (f w)).is_open) (eq-eqb w v e) ∙ (same ∙ sym (ap (λ (n : ℕ). (f n).is_open) e))
  | inr n ↦ ap (λ (b : Bool). (cond b a (f w)).is_open) (ne_eqb w v n)
]

of_cond : (b : Bool) (a o : Worker) → (cond b a o).is_open ≡ cond b a.is_open o.is_open
of_cond true a o = refl
of_cond false a o = refl

one : (g : Opening) (s : State) (e : Event) (w : ℕ) → ((happens g s e).worker w).is_open ≡ open_behind w e (s.worker w).is_open
one g s (Event.Begin v f) w = of_cond (w == v) _ (s.worker w)
one g s (Event.End v commit f) w = of_cond (w == v) _ (s.worker w)
one g s (Event.Lock v i mode) w = kept s.worker v _ w refl
one g s (Event.Read v p k a) w = kept s.worker v _ w refl
one g s (Event.Next v p k a) w = go a
  where
    go : (a : MapAnswer) → ((follows g s v p a).worker w).is_open ≡ (s.worker w).is_open
    go (MapAnswer.Pair at x) = kept s.worker v _ w refl
    go (MapAnswer.Gap h) = kept s.worker v _ w refl
    go (MapAnswer.Value x) = refl
    go (MapAnswer.Was x) = refl
one g s (Event.Change v p k x) w = kept s.worker v _ w refl
one g s (Event.Put_back v p) w = go (s.worker v).changes
  where
    go : (cs : List Entry) → ((put_back g s v p cs).worker w).is_open ≡ (s.worker w).is_open
    go [] = refl
    go (c ∷ cs) = kept s.worker v _ w refl
one g s (Event.Split v l r q i) w = kept s.worker v _ w refl
one g s (Event.Lift v c) w = kept s.worker v _ w refl
one g s (Event.Join v l r q) w = kept s.worker v _ w refl
one g s (Event.Drop v c) w = kept s.worker v _ w refl
one g s (Event.Purge v p keys) w = kept s.worker v _ w refl
one g s e w = refl

pub open_run : (g : Opening) (s : State) (es : List Event) (w : ℕ) → AllMet g s es → ((run g s es).worker w).is_open ≡ opens w es (s.worker w).is_open
open_run g s [] w m = refl
open_run g s (e ∷ es) w m = open_run g (step g s e) es w m.1
    ∙ ap (opens w es) (ap (λ (u : State). (u.worker w).is_open) (cond-true (may g s e) (happens g s e) s m.0) ∙ one g s e w)

-- ## Marks

abbrev open_by : List Mark → Bool → Bool
open_by [] b = b
open_by (Began n ∷ earlier) b = true
open_by (Ended commit n at ∷ earlier) b = false
open_by (_ ∷ earlier) b = open_by earlier b

swap : (v w : ℕ) → (v == w) ≡ (w == v)
swap v w = elim (cases_eq v w) [
  | inl e ↦ eq-eqb v w e ∙ sym (eq-eqb w v (sym e))
  | inr n ↦ ne_eqb v w n ∙ sym (ne_eqb w v (λ e. n (sym e)))
]

called : (b : Bool) (ms : List Mark) (m : Mark) (o : Bool) → open_by (m ∷ ms) o ≡ open_by ms o → open_by (cond b (m ∷ ms) ms) o ≡ open_by ms o
called true ms m o q = q
called false ms m o q = refl

said : (b now : Bool) (ms : List Mark) (m : Mark) (o : Bool) → open_by (m ∷ ms) o ≡ now → open_by (cond b (m ∷ ms) ms) o ≡ cond b now (open_by ms o)
said true now ms m o q = q
said false now ms m o q = refl

silent : (b : Bool) (ms : List Mark) (o : Bool) → open_by (cond b ms ms) o ≡ open_by ms o
silent true ms o = refl
silent false ms o = refl

back : (g : Opening) (s : State) (p : ℕ) (b : Bool) (ms : List Mark) (o : Bool) (cs : List Entry) → open_by (cond b (onto (back_in g s p cs) ms) ms) o ≡ open_by ms o
back g s p b ms o [] = silent b ms o
back g s p b ms o (c ∷ cs) = called b ms _ o refl

walked : (g : Opening) (s : State) (w p : ℕ) (b : Bool) (ms : List Mark) (o : Bool) (a : MapAnswer) → open_by (cond b (onto (met_in g s w p a) ms) ms) o ≡ open_by ms o
walked g s w p b ms o (MapAnswer.Pair k v) = called b ms _ o refl
walked g s w p b ms o _ = silent b ms o

of_event : (g : Opening) (s : State) (e : Event) (w : ℕ) (ms : List Mark) (o : Bool) → open_by (cond (is_of e w) (onto (mark g s e) ms) ms) o ≡ open_behind w e (open_by ms o)
of_event g s (Event.Begin v f) w ms o = said (v == w) true ms _ o refl ∙ ap (λ (b : Bool). cond b true (open_by ms o)) (swap v w)
of_event g s (Event.Read v p k a) w ms o = called (v == w) ms _ o refl
of_event g s (Event.Next v p k a) w ms o = walked g s v p (v == w) ms o a
of_event g s (Event.Change v p k x) w ms o = called (v == w) ms _ o refl
of_event g s (Event.Put_back v p) w ms o = back g s p (v == w) ms o (s.worker v).changes
of_event g s (Event.End v commit f) w ms o = said (v == w) false ms _ o refl ∙ ap (λ (b : Bool). cond b false (open_by ms o)) (swap v w)
of_event g s e w ms o = silent (is_of e w) ms o

open_marks : (g : Opening) (s : State) (es : List Event) (w : ℕ) (ms : List Mark) (o : Bool) → AllMet g s es → open_by (marks g s es w ms) o ≡ opens w es (open_by ms o)
open_marks g s [] w ms o m = refl
open_marks g s (e ∷ es) w ms o m = open_marks g (step g s e) es w (cond (may g s e) (cond (is_of e w) (onto (mark g s e) ms) ms) ms) o m.1
    ∙ ap (opens w es) (ap (λ (b : Bool). open_by (cond b (cond (is_of e w) (onto (mark g s e) ms) ms) ms) o) m.0 ∙ of_event g s e w ms o)

-- ## Deeds

-- a deed of the session begins a transaction, or ends it
abbrev pub open_after : Deed → Bool → Bool
open_after (Begun n) b = true
open_after (Committed n at) b = false
open_after (Aborted c n at backs) b = false
open_after _ b = b

by_reads : (us : List Unsaid) (b : Bool) → open_by (reads_of us) b ≡ b
by_reads [] b = refl
by_reads (u ∷ us) b = by_reads us b

by_backs : (backs : List Step) (ms : List Mark) (b : Bool) → open_by (put_backs backs ++ ms) b ≡ open_by ms b
by_backs [] ms b = refl
by_backs (x ∷ backs) ms b = by_backs backs ms b

by_deed : (d : Deed) (us : List Unsaid) (b : Bool) → open_by (marks_of d ++ reads_of us) b ≡ open_after d b
by_deed (Begun n) us b = refl
by_deed (Got k a alone) us b = by_reads us b
by_deed (Changed k v a) us b = by_reads us b
by_deed (Deleted k a) us b = by_reads us b
by_deed (Absent k) us b = by_reads us b
by_deed (Met from to k v alone) us b = by_reads us b
by_deed (Paused from to k) us b = by_reads us b
by_deed (Over from to) us b = by_reads us b
by_deed (Committed n at) us b = refl
by_deed (Aborted c n at backs) us b = refl
by_deed (Refused c why backs) us b = by_backs backs (reads_of us) b ∙ by_reads us b
by_deed (Synced at) us b = by_reads us b
by_deed (Checkpointed at) us b = by_reads us b

-- ## Outcomes

module _ (l : Limits) (g : Opening) (group : ℕ) (xs : List Done) (x : Done) (t : Tells l g group xs x) where
  by_marks : (w : ℕ) → ((state_after g (front (x ∷ xs))).worker w).is_open ≡ open_by (cond (x.outcome.session == w) (marks_for x.outcome) []) ((state_after g (front xs)).worker w).is_open
  by_marks w =
      let s = state_after g (front xs) in
      ap (λ (u : State). (u.worker w).is_open) (run_more g (start g) (front xs) x.events)
      ∙ (open_run g s x.events w t.met
      ∙ (sym (open_marks g s x.events w [] (s.worker w).is_open t.met)
      ∙ ap (λ (ms : List Mark). open_by ms (s.worker w).is_open) (t.told w)))

  -- of its own session
  pub open_own : (w : ℕ) → w ≡ x.outcome.session → ((state_after g (front (x ∷ xs))).worker w).is_open ≡ open_after x.outcome.deed ((state_after g (front xs)).worker w).is_open
  open_own w e = by_marks w
      ∙ (ap (λ (b : Bool). open_by (cond b (marks_for x.outcome) []) ((state_after g (front xs)).worker w).is_open) (eq-eqb x.outcome.session w (sym e))
      ∙ by_deed x.outcome.deed x.outcome.unsaid ((state_after g (front xs)).worker w).is_open)

  -- and of each other
  pub open_other : (w : ℕ) → (w ≡ x.outcome.session → ⊥) → ((state_after g (front (x ∷ xs))).worker w).is_open ≡ ((state_after g (front xs)).worker w).is_open
  open_other w n = by_marks w
      ∙ ap (λ (b : Bool). open_by (cond b (marks_for x.outcome) []) ((state_after g (front xs)).worker w).is_open) (ne_eqb x.outcome.session w (λ e. n (sym e)))
