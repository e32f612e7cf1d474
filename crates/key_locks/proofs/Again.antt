-- A lock that the worker has already is taken again, where nobody else steps.
use Rattle.std.proofs.Common.{◌≡◌, ◌==◌, ◌||◌, ◌+◌, ◌≤◌, ◌<◌, ◌%◌, ℕ, Bool, true, List, [], ◌++◌, cond, Some, refl, sym, ap, subst, ◌∙◌, append-nil, arith, eq-eqb}
use Rattle.lean_proto.specs.core_state.States.{Row}
use Rattle.lean_proto.specs.core_state.Steps.{locked}
use Rattle.lean_proto.specs.row_words.declared.event.Event.{Event}
use Rattle.lean_proto.specs.row_words.declared.event.Event.TheVariants.{Lock}
use Rattle.lean_proto.specs.row_words.Moments.{Moment}
use Rattle.lean_proto.specs.row_words.Openings.{opening}
use Rattle.lean_proto.specs.row_words.Words.{lock_words}
use Rattle.lean_proto.specs.rows_trait.declared.view.View.{View}
use Rattle.lean_proto.specs.rows_trait.Views.{Shape, Spells, after_all, state, holds, held_at, latest, may}
use Rattle.lean_proto.specs.rows_trait.Turns.{Looked, Taken, Published, MayPublish, Ran}
use Rattle.lean_proto.specs.rows_trait.Causes.{HasFound}
use Rattle.lean_proto.proofs.rows_trait.Runs.{ran_append}
use Rattle.lean_proto.specs.version_latch.declared.glimpse.Moved as versions
use Rattle.lean_proto.specs.version_latch.declared.glimpse.Unheld.TheVariants as unheld
use Rattle.lean_proto.specs.version_latch.declared.glimpse.TheConstants.{LAST}
use Rattle.lean_proto.specs.version_latch.Named.{missed, checked}
use Rattle.lean_proto.specs.version_latch.Unheld.{NotHeld}
use Rattle.key_locks.specs.declared.mode.Mode.{Mode}
use Rattle.key_locks.specs.Rows.{Sized, core_mode, event_mode}
use Rattle.key_locks.specs.Inside.{IsAt, IsHeld}
use Rattle.key_locks.specs.Locking.{HasAlready, HasAgain, IsPublished, IsSpent}
use Rattle.key_locks.proofs.Calls.{published_before}
use Rattle.key_locks.proofs.Holding.{stayed_none}
use Rattle.key_locks.proofs.Lists.{at_new, holds_new}
use Rattle.key_locks.proofs.Publishing.{Publishes, lock_ready}
use Rattle.key_locks.proofs.Staying.{at_after, five_wide, spelled_words}
use Rattle.key_locks.proofs.Taking.{checked_ran, lock_met, looked_ran, taken_rest}

-- whoever is alone steps for every actor
pub own : (z : Shape) (v : View) (w : ℕ) → z.alone ≡ true → may z.alone v w ≡ true
own z v w e = ap (λ b. b || (w == v.actor)) e

-- nothing was seen
same : (alone : Bool) (v w : View) → alone ≡ true → Ran alone v [] w → state w ≡ state v
same alone v w e r = λ i. after_all (r.given i) (seen i)
  where
    seen : w.seen ≡ v.seen
    seen = r.seen ∙ (ap (λ es. v.seen ++ es) (r.all e) ∙ append-nil v.seen)

-- the version that was seen is the row's still
pub steady : (z y : Shape) (row version : ℕ) (names named : ℕ → List Event) (v u w : View) (m : versions.Moved) → z.alone ≡ true → y ≡ z → Looked z row names v version u → NotHeld y row version named u (unheld.Moved m) w → ⊥
steady z y row version names named v u w m alone shape l n = n.2.other (n.2.looked.steady (ap (λ s. s.alone) shape ∙ alone) version is)
  where
    is : latest row u.steps ≡ Some version
    is = ap (latest row) l.steps ∙ ap (λ b. cond b (Some version) (latest row v.steps)) (eq-eqb row row refl)

-- no later version was found
pub spent : (z : Shape) (w row version : ℕ) (v u x : View) → version % 2 ≡ 0 → Looked z row (missed w) v version u → HasFound row version v u → LAST ≤ version → x ≡ u → IsSpent z.alone row row v x
spent z w row version v u x even l found last is = subst (λ k. IsSpent z.alone row row v k) (sym is) (record { at = refl; ran = looked_ran z w row version v u even l; version = version; last = last; found = found })

-- the shape is the same before and after
pub taken_as : (z y : Shape) → y ≡ z → {q version : ℕ} {names : ℕ → List Event} {u x : View} → Taken z q version names u x → Taken y q version names u x
taken_as z y shape {q = q} {version = version} {names = names} {u = u} {x = x} t = subst (λ s. Taken s q version names u x) (sym shape) t

-- where the lock row stands
at_row : (z : Shape) (v : View) (w frames count i : ℕ) → Sized z v w frames count → i < count → IsAt z v (frames + i) i
at_row z v w frames count i s lt = record {
  place = ap (λ n. n + i) s.given;
  shape = s.spans.shape ∙ sym s.given;
  inside = let f = s.spans.shape in let l = s.spans.rows in omega arith;
}

module _ (z y : Shape) (q h frames count i w version : ℕ) (mode : Mode) (v u x : View) (alone : z.alone ≡ true) (shape : y ≡ z) (sized : Sized z v w frames count) (low : i < count) (is_open : ((state v).core.worker w).is_open ≡ true)
    (has : HasAlready ((state v).core.row i) w (core_mode mode)) (even : version % 2 ≡ 0) (looked : Looked z (frames + i) (missed w) v version u)
    (q_is : q ≡ frames + i) (t : Taken y q version (checked w version) u x) (h_is : h ≡ q) where
  abbrev row : ℕ
  row = frames + i

  at : IsAt z v row i
  at = at_row z v w frames count i sized low

  taken : Taken z row version (checked w version) u x
  taken = subst (λ (k : Shape × ℕ). Taken k.0 k.1 version (checked w version) u x) (λ j. (shape j, q_is j)) t

  ran : Ran z.alone v [] x
  ran = ran_append z.alone v [] u [] x (looked_ran z w row version v u even looked) (checked_ran z w version u x taken.goes)

  still : state x ≡ state v
  still = same z.alone v x alone ran

  at_x : IsAt z x row i
  at_x = at_after z z v x row i refl ran.given at

  here : holds x.held row ≡ true
  here = ap (λ hs. holds hs row) taken.held ∙ holds_new u.held row version taken.was taken.was

  held : IsHeld row taken.was x
  held = record {
    here = here;
    fresh = ap (λ hs. (held_at hs row).done) taken.held ∙ ap (λ h. h.done) (at_new u.held row version taken.was taken.was);
    now = ap (λ hs. (held_at hs row).now) taken.held ∙ ap (λ h. h.now) (at_new u.held row version taken.was taken.was);
  }

  already : HasAlready ((state x).core.row i) w (core_mode mode)
  already = subst (λ (m : Moment). HasAlready (m.core.row i) w (core_mode mode)) (sym still) has

  spelled : taken.was ≡ lock_words (opening x.given).workers ((state x).core.row i)
  spelled =
      let was : (held_at x.held row).was ≡ taken.was = ap (λ hs. (held_at hs row).was) taken.held ∙ ap (λ h. h.was) (at_new u.held row version taken.was taken.was) in
      let stands : Spells x.given (state x) 5 row taken.was = subst (λ (k : ℕ × List ℕ). Spells x.given (state x) k.0 row k.1) (λ j. (five_wide z x row i at_x j, was j)) (taken.goes.stands row here) in
      spelled_words x.given row i at_x.place (state x) taken.was (taken.size ∙ five_wide z x row i at_x) stands

  ready : Publishes z y row h i (Lock w i (event_mode mode)) (locked ((state x).core.row i) w (core_mode mode)) x x
  ready = lock_ready x i w mode at_x (own z x w alone) (lock_met (opening x.given) (state x).core w i mode (ap (λ m. (m.core.worker w).is_open) still ∙ is_open) already.may) shape (h_is ∙ q_is) (stayed_none z.alone row x here) held
      (spelled ∙ ap (λ o. lock_words (opening x.given).workers o) (sym already.same))

  pub again_event : MayPublish y h (Lock w i (event_mode mode)) x
  again_event = ready.event

  pub again_after : (k : View) (e : Event) → e ≡ Lock w i (event_mode mode) → Published y h e x k → (k.held ≡ v.held) × HasAgain z.alone w i mode v k
  again_after k e is p =
      let q = ready.after k e is p in
      let o = (state v).core.row i in
      let Q : Row × Row → Type 0 = λ a. IsPublished z.alone (Lock w i (event_mode mode)) i a.0 a.1 x k in (
        q.0 ∙ (taken_rest z row version (checked w version) u x taken ∙ looked.held),
        published_before z.alone (Lock w i (event_mode mode)) i o o v x k ran (subst Q (λ j. (row_is j, (already.same ∙ row_is) j)) q.1),
      )
    where
      row_is : (state x).core.row i ≡ (state v).core.row i
      row_is = ap (λ m. m.core.row i) still
