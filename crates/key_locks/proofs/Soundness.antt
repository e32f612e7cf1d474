-- The log of a stamp is a holder's.
use Rattle.std.proofs.Common.{◌≡◌, ◌==◌, ◌≤◌, ℕ, true, List, [], ◌∷◌, ◌++◌, refl, sym, ap, subst, ◌∙◌, arith}
use Rattle.std.proofs.lemmas.Bool.{cond-true, cond-false}
use Rattle.map_model.specs.Lists.{upd}
use Rattle.lean_proto.specs.core_state.Openings.{Opening}
use Rattle.lean_proto.specs.core_state.States.{Row, State}
use Rattle.lean_proto.specs.core_state.Events.{Mode}
use Rattle.lean_proto.specs.core_state.Needs as core
use Rattle.lean_proto.specs.core_state.Needs.{is_held_by}
use Rattle.lean_proto.specs.core_state.Steps as steps
use Rattle.lean_proto.specs.core_state.Steps.{happens, locked, unlocked}
use Rattle.lean_proto.proofs.core_state.Locality.{every_local}
use Rattle.lean_proto.specs.row_words.declared.event.Event.{Event}
use Rattle.lean_proto.specs.row_words.declared.event.Event.TheVariants as told
use Rattle.lean_proto.specs.row_words.declared.event.Mode.TheVariants as mode
use Rattle.lean_proto.specs.row_words.declared.given.Given.{Given}
use Rattle.lean_proto.specs.row_words.Moments.{Moment, event_of}
use Rattle.lean_proto.specs.row_words.Moments as moments
use Rattle.lean_proto.specs.row_words.Openings.{opening}
use Rattle.lean_proto.specs.row_words.Sealed.{begun, stepped, run}
use Rattle.lean_proto.proofs.row_words.Stays.{cases, here, kept}
use Rattle.lean_proto.proofs.row_words.SealedLemmas.{run_append}
use Rattle.lean_proto.specs.rows_trait.Views.{after_all}
use Rattle.key_locks.specs.Rows.{IsRow}
use Rattle.key_locks.specs.Soundness.{unbegun, EverySound}

-- ## One event

locked_log : (o : Row) (w : ℕ) (m : Mode) → (locked o w m).log ≡ o.log
locked_log o w Mode.Shared = cases (is_held_by o.holder w) (λ t. rw t refl) (λ f. rw f refl)
locked_log o w Mode.Alone = cases (is_held_by o.holder w) (λ t. rw t refl) (λ f. rw f refl)

unlocked_log : (o : Row) (w end n : ℕ) → ((u : ℕ) → is_held_by o.holder u ≡ true → u ≤ n) → o.log ≤ n → (unlocked o w end).log ≤ n
unlocked_log o w end n h l = cases (is_held_by o.holder w) (λ t. rw t (h w t)) (λ f. rw f l)

module _ (g : Opening) (s : State) (n : ℕ) (h : (i u : ℕ) → is_held_by (s.row i).holder u ≡ true → u ≤ n) (l : (i : ℕ) → (s.row i).log ≤ n) where
  -- a row of which one is another
  turned : (i j : ℕ) (o : Row) → o.log ≤ n → (upd s.row i o j).log ≤ n
  turned i j o le = cases (i == j) (λ t. subst (λ (p : Row). p.log ≤ n) (sym (here s.row i o j t)) le) (λ f. subst (λ (p : Row). p.log ≤ n) (sym (kept s.row i o j f)) (l j))

  log_happens : (e : Event) (j : ℕ) → ((happens g s (event_of e)).row j).log ≤ n
  log_happens (told.Lock w i mode.Shared) j = turned i j (locked (s.row i) w Mode.Shared) (let q = locked_log (s.row i) w Mode.Shared in let p = l i in omega arith)
  log_happens (told.Lock w i mode.Alone) j = turned i j (locked (s.row i) w Mode.Alone) (let q = locked_log (s.row i) w Mode.Alone in let p = l i in omega arith)
  log_happens (told.Unlock w i) j = turned i j (unlocked (s.row i) w (s.worker w).end) (unlocked_log (s.row i) w (s.worker w).end n (h i) (l i))
  log_happens e j = subst (λ (p : Row). p.log ≤ n) (sym ((every_local g s (event_of e)).rows j refl)) (l j)

  log_step : (e : Event) (j : ℕ) → ((steps.step g s (event_of e)).row j).log ≤ n
  log_step e j = cases (core.may g s (event_of e))
      (λ t. subst (λ (x : State). (x.row j).log ≤ n) (sym (cond-true (core.may g s (event_of e)) (happens g s (event_of e)) s t)) (log_happens e j))
      (λ f. subst (λ (x : State). (x.row j).log ≤ n) (sym (cond-false (core.may g s (event_of e)) (happens g s (event_of e)) s f)) (l j))

-- ## All events

log_all : (v : Given) (n : ℕ) (es : List Event) (m : Moment) → ((fs : List Event) (i u : ℕ) → is_held_by ((run v m fs).core.row i).holder u ≡ true → u ≤ n) → ((i : ℕ) → (m.core.row i).log ≤ n) → (i : ℕ) → ((run v m es).core.row i).log ≤ n
unfolding stepped
log_all v n [] m h l i = l i
log_all v n (e ∷ es) m h l i = log_all v n es (stepped v m e) (λ fs. h (e ∷ fs)) (λ j. log_step (opening v) m.core n (h []) l e j) i

-- the beginning of rows, by the events before it
runs : (v : Given) (es : List Event) (m : Moment) → moments.run (opening v) m es ≡ run v m es
unfolding stepped
runs v [] m = refl
runs v (e ∷ es) m = runs v es (stepped v m e)

same_run : (v : Given) (es : List Event) (m : Moment) → run (unbegun v) m es ≡ run v m es
unfolding stepped
same_run v [] m = refl
same_run v (e ∷ es) m = same_run v es (stepped v m e)

begins : (v : Given) → begun v ≡ run v (begun (unbegun v)) v.before
unfolding begun
begins v = runs v v.before (begun (unbegun v))

first_log : (v : Given) (n i : ℕ) → ((begun (unbegun v)).core.row i).log ≤ n
unfolding begun
first_log v n i = omega arith

-- every moment is one since the beginning of all
from_first : (v : Given) (es : List Event) → after_all v es ≡ after_all (unbegun v) (v.before ++ es)
from_first v es = ap (λ m. run v m es) (begins v) ∙ (sym (run_append v (begun (unbegun v)) v.before es) ∙ sym (same_run v (v.before ++ es) (begun (unbegun v))))

pub every_sound : EverySound
every_sound v are es i =
    let n = (opening v).workers in
    let u = unbegun v in
    let all = are (v.before ++ es) i in
    let log = log_all u n (v.before ++ es) (begun u) (λ fs j w h. ((are fs j).holder w h).among) (first_log v n) i in
    subst (λ (m : Moment). IsRow n (m.core.row i)) (sym (from_first v es)) (record { holder = all.holder; reader = all.reader; log = log })
