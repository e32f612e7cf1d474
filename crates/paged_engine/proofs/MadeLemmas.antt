-- The logs and desks that are made as a machine is opened.
use Rattle.std.proofs.Common.{◌≡◌, ⊎_elim, ◌+◌, ◌++◌, ◌∷◌, [], ℕ, List, length, slice_get, Some, Result, Ok, Err, IfOk, sym, subst, arith}
use Rattle.paged_desks.specs.disk_slots.declared.master.Master.{Master}
use Rattle.lean_disk.specs.Area.{Area}
use Rattle.recovery.proofs.LoadLemmas.{get_more}
use Rattle.paged_desks.specs.session_state.declared.session.Session.{Session}
use Rattle.run_opening.specs.Starts.{empty_log}
use Rattle.paged_desks.specs.worker_log.Kept.{IsFresh, IsInRange, IsKept, fresh_account}
use Rattle.paged_desks.specs.worker_log.Logs.{Log}
use Rattle.paged_engine.specs.Openings.{IsFurther, IsMadeBy}
use Rattle.paged_desks.specs.session_desks.declared.desk.Desk.{Desk}

-- a log that is as it should be is made
pub made_if : {E : Type 0} (n : Master) (w : ℕ) (log : Result Log E) → IfOk log (λ it. it ≡ empty_log n w) → IfOk log IsInRange → IfOk log (λ it. (area : Area) → IsFresh it area → IsKept (fresh_account area) it area) → IfOk log (IsMadeBy n w)
made_if n w (Ok it) is ranges starts = record { is = is; ranges = ranges; starts = starts }
made_if n w (Err e) is ranges starts = tt

-- one desk more
pub more_made : (n : Master) (x : Session) (desks : List Desk) (d : Desk) (number : ℕ) → length desks + 2 ≡ number → ((at : ℕ) (e : Desk) → slice_get desks at ≡ Some e → IsFurther n x (at + 2) e) → IsFurther n x number d
    → (at : ℕ) (e : Desk) → slice_get (desks ++ d ∷ []) at ≡ Some e → IsFurther n x (at + 2) e
more_made n x desks d number count made is at e same = ⊎_elim
    (λ (h : slice_get desks at ≡ Some e). made at e h)
    (λ (h : (at ≡ length desks) × (e ≡ d)). subst (λ (v : ℕ). IsFurther n x v e) (let a = h.0 in omega arith) (subst (IsFurther n x number) (sym h.1) is))
    (get_more desks d at e same)
