-- An abort that was asked, and one that is due.
use Rattle.std.proofs.Common.{◌≡◌, ℕ, Bool, true, refl, Result}
use Rattle.map_model.specs.declared.call.Answer.{Answer}
use Rattle.map_model.specs.declared.call.Call.{Call}
use Rattle.map_model.specs.declared.call.Call.TheVariants as call
use Rattle.lean_disk.specs.Story.{Story}
use Rattle.paged_scans.specs.paged_desks.Calls.{CallDoes, OnLine}
use Rattle.paged_scans.specs.paged_desks.declared.machine.PagedMachine.{PagedMachine}
use Rattle.paged_aborts.specs.Aborts.{Asked, Hindered, MayAbort}
use Rattle.buffered_engine.specs.Inside.Asks.{IsDue}
use Rattle.paged_scans.specs.engine_trait.declared.unserved.Unanswered.{Unanswered}

module _ {D : Type 0} (story : D → Story) (own : ℕ) (is_open : Bool) (a : Result Answer Unanswered) (m n : PagedMachine D) (does : (c : Call) → CallDoes story (MayAbort own is_open c) own c a m n) where
  pub asked_does : CallDoes story OnLine own call.Abort a m n
  asked_does g xs workers tied halves may = does call.Abort g xs workers tied halves (Asked may refl)

  pub due_does : is_open ≡ true → (c : Call) → CallDoes story (IsDue own c) own c a m n
  due_does opened c g xs workers tied halves due = does c g xs workers tied halves (Hindered opened due.newest due.earlier due.are due.hindered due.session)
