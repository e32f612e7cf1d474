-- How sessions stand after a lock row was given up, and after its refusal.
use Rattle.std.proofs.Common.{◌≡◌, ◌<◌, ◌≤◌, ◌+◌, ◌%◌, ◌==◌, ℕ, zero, suc, Bool, true, false, cond, List, [], ◌∷◌, ◌++◌, refl, sym, ap, subst, ◌∙◌, arith, length, set, get_or, replicate}
use Rattle.std.proofs.lemmas.List.{set-set, set-get_or, get_or-replicate, length-replicate}
use Rattle.std.specs.Prelude.{if◌then◌else◌, slice_set}
use Rattle.btree_descent.specs.core_state.Openings.{Opening}
use Rattle.btree_descent.specs.core_state.States.{State}
use Rattle.btree_descent.specs.core_state.Events as happening
use Rattle.btree_descent.specs.core_state.Needs.{may}
use Rattle.btree_descent.specs.core_state.Steps as core
use Rattle.btree_descent.specs.row_words.declared.event.Event.TheVariants as told
use Rattle.btree_descent.specs.row_words.declared.given.Given.{Given}
use Rattle.btree_descent.specs.row_words.Moments.{Moment}
use Rattle.btree_descent.specs.row_words.Openings.{opening}
use Rattle.btree_descent.specs.row_words.Sealed.{stepped}
use Rattle.btree_descent.specs.rows_trait.declared.view.Hold.{Hold}
use Rattle.btree_descent.specs.rows_trait.declared.view.View.{View}
use Rattle.btree_descent.specs.rows_trait.Views.{state, holds, without}
use Rattle.btree_descent.specs.rows_trait.Turns.{Ran}
use Rattle.key_locks.specs.declared.latches.Unlatched.{Unlatched}
use Rattle.key_locks.specs.declared.latches.Unlatched.TheVariants as unlatched
use Rattle.key_locks.specs.declared.seeing.Unseen.{Unseen}
use Rattle.key_locks.specs.declared.seeing.Unseen.TheVariants as unseen
use Rattle.key_locks.specs.Latching.{is_marked, AreLatched, NotLatched, IsGivenUp}
use Rattle.key_locks.specs.Seeing.{NotSeen}
use Rattle.row_sessions.specs.declared.session.Session.{Session}
use Rattle.row_sessions.specs.Standing.{AreSessions}
use Rattle.row_sessions.proofs.Standings.{ran_state, sessions_kept}
use Rattle.row_sessions.proofs.Locks.{none_core, miss_core}

-- ## Refusals

pub unseen_core : (worker row : ℕ) (v w : View) (e : Unseen) → NotSeen true worker row v e w → (w.given ≡ v.given) × ((state w).core ≡ (state v).core)
unseen_core worker row v w (unseen.Moved m) d = miss_core v w worker d.ran
unseen_core worker row v w (unseen.Latched l) d = miss_core v w worker d.ran

pub unlatched_core : (worker row : ℕ) (v w : View) (e : Unlatched) → NotLatched true worker row v e w → (w.given ≡ v.given) × ((state w).core ≡ (state v).core)
unlatched_core worker row v w (unlatched.Moved m) d = miss_core v w worker d.ran
unlatched_core worker row v w (unlatched.Latched l) d = miss_core v w worker d.ran
unlatched_core worker row v w (unlatched.RowSpent r) d = none_core v w d.ran

-- ## Marks and holds

-- a mark that was set and taken away
pub marks_back : (marks once twice : List Bool) (n i j : ℕ) → marks ≡ replicate n false → i < n → j ≡ i → once ≡ slice_set marks i true → twice ≡ slice_set once j false → twice ≡ marks
marks_back marks once twice n i j none lt same a b =
    let free : get_or marks i false ≡ false = ap (λ l. get_or l i false) none ∙ get_or-replicate n i false false lt in
    b ∙ (ap (λ k. set once k false) same ∙ (ap (λ l. set l i false) a ∙ (set-set marks i true false ∙ (ap (λ x. set marks i x) (sym free) ∙ set-get_or marks i false))))

-- of a row that is not held nothing is left out
without_none : (hs : List Hold) (row : ℕ) → holds hs row ≡ false → without hs row ≡ hs
without_none [] row none = refl
without_none (h ∷ hs) row none = go (h.row == row) none (without_none hs row)
  where
    go : (b : Bool) → cond b true (holds hs row) ≡ false → (holds hs row ≡ false → without hs row ≡ hs) → cond b (without hs row) (h ∷ without hs row) ≡ h ∷ hs
    go true off rest = absurd (Rattle.std.proofs.Common.true≢false off)
    go false off rest = ap (λ t. h ∷ t) (rest off)

-- no hold is left
pub held_back : (frames i n : ℕ) (marks : List Bool) (first second third : List Hold) → first ≡ [] → without second (frames + i) ≡ without first (frames + i) → without third (frames + i) ≡ without second (frames + i)
    → marks ≡ replicate n false → i < n → AreLatched frames marks third → third ≡ []
held_back frames i n marks first second third none a b free lt tied =
    let off : is_marked marks i ≡ false = ap (λ l. get_or l i false) free ∙ get_or-replicate n i false false lt in
    let long : length marks ≡ n = ap length free ∙ length-replicate n false in
    sym (without_none third (frames + i) (tied.others i (omega arith) off)) ∙ (b ∙ (a ∙ ap (λ hs. without hs (frames + i)) none))

-- ## What is given up

unlock_keeps : (g : Opening) (s : State) (w i : ℕ) → ((core.step g s (happening.Event.Unlock w i)).worker ≡ s.worker) × ((core.step g s (happening.Event.Unlock w i)).flushed ≡ s.flushed)
unlock_keeps g s w i = go (may g s (happening.Event.Unlock w i))
  where
    go : (b : Bool) → ((if b then core.happens g s (happening.Event.Unlock w i) else s).worker ≡ s.worker) × ((if b then core.happens g s (happening.Event.Unlock w i) else s).flushed ≡ s.flushed)
    go true = (refl, refl)
    go false = (refl, refl)

unlock_kept : (v : Given) (m : Moment) (w i : ℕ) → ((stepped v m (told.Unlock w i)).core.worker ≡ m.core.worker) × ((stepped v m (told.Unlock w i)).core.flushed ≡ m.core.flushed)
unfolding stepped
unlock_kept v m w i = unlock_keeps (opening v) m.core w i

-- after a latch and an unlock
pub unlocked_after : (first second third : View) (n base w i end : ℕ) (xs : List Session) → Ran true first [] second → IsGivenUp true w i end second third → AreSessions n base xs (state first)
    → (third.given ≡ first.given) × AreSessions n base xs (state third)
unlocked_after first second third n base w i end xs latched given s =
    let same = none_core first second latched in
    let state_is = ran_state second third (told.Unlock w i ∷ []) given.ran in
    let kept = unlock_kept second.given (state second) w i in (
      given.ran.given ∙ same.0,
      sessions_kept n base xs (state first) (state third)
          (ap (λ m. m.core.worker) state_is ∙ (kept.0 ∙ ap (λ c. c.worker) same.1))
          (ap (λ m. m.core.flushed) state_is ∙ (kept.1 ∙ ap (λ c. c.flushed) same.1)) s,
    )
