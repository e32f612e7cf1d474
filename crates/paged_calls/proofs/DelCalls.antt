-- A del by its answer: what a script is told, and what is left behind it.
use Rattle.std.proofs.Common.{◌≡◌, ◌⊎◌, inl, inr, ℕ, true, Option, Some, None, Result, Ok, Err, IfErr, IsErrAnd, refl, sym, subst}
use Rattle.map_model.specs.declared.call.Refusal.{Refusal}
use Rattle.map_model.specs.declared.call.Refusal.TheVariants as refusal
use Rattle.paged_desks.specs.engine_trait.Serving.{MayRefuse}
use Rattle.paged_desks.specs.engine_trait.declared.unserved.Unanswered.TheVariants as unanswered
use Rattle.paged_desks.specs.engine_trait.declared.unserved.Unserved.{Unserved}
use Rattle.paged_desks.specs.engine_trait.declared.unserved.Unserved.TheVariants as unserved
use Rattle.paged_desks.specs.engine_trait.Refusals.{clock_refusal}
use Rattle.paged_desks.specs.key_locks.declared.mode.Mode.{Mode}
use Rattle.lean_disk.specs.Story.{Story}
use Rattle.row_room.proofs.row_changes.StepLemmas.{clock_at_end}
use Rattle.row_room.specs.row_changes.Takes.{NotTaken}
use Rattle.paged_desks.specs.rows_trait.declared.view.View.{View}
use Rattle.paged_desks.specs.declared.machine.PagedMachine.{PagedMachine}
use Rattle.paged_desks.specs.Calls.{EndsWork, works_behind}
use Rattle.paged_calls.specs.Calls.{IsEarly}
use Rattle.row_walks.specs.declared.steps.At.TheVariants as begun
use Rattle.paged_calls.specs.Tidyings.{Dels}

-- ## What comes before all else

-- where its row is not to be had, it is not told early
pub untaken_late : (why : Refusal) (v w : View) (own row : ℕ) (mode : Mode) → NotTaken why v w own row mode → IsEarly (unserved.Refused why) → ⊥
untaken_late refusal.RowSpent v w own row mode n e = e
untaken_late (refusal.Conflict h) v w own row mode n e = e
untaken_late _ v w own row mode n e = absurd n

pub clock_late : (clock : ℕ) (why : Refusal) → clock_refusal clock None ≡ Some why → IsEarly (unserved.Refused why) → ⊥
clock_late clock why e = subst (λ k. IsEarly (unserved.Refused k) → ⊥) (sym (clock_at_end clock why e).is) (λ early. early)

pub dels_late : {D : Type 0} (story : D → Story) (key most : ℕ) (r : Result (Option ℕ) Unserved) (m n : PagedMachine D) → Dels story key begun.Before most r m n → IsErrAnd r IsEarly → ⊥
dels_late story key most (Ok was) m n d e = e
dels_late story key most (Err (unserved.Refused refusal.RowSpent)) m n d e = e
dels_late story key most (Err (unserved.Refused refusal.ClockSpent)) m n d e = e
dels_late story key most (Err (unserved.Unanswered unanswered.DiskFault)) m n d e = e
dels_late story key most (Err (unserved.Unanswered (unanswered.Damaged place))) m n d e = e
dels_late story key most (Err _) m n d e = absurd d

-- ## What a script is told

pub clock_comes : (workers clock : ℕ) (why : Refusal) → clock_refusal clock None ≡ Some why → MayRefuse workers (unserved.Refused why) ⊎ EndsWork (unserved.Refused why)
clock_comes workers clock why e = subst (λ k. MayRefuse workers (unserved.Refused k) ⊎ EndsWork (unserved.Refused k)) (sym (clock_at_end clock why e).is) (inl tt)

pub dels_come : {D : Type 0} (story : D → Story) (key most workers : ℕ) (r : Result (Option ℕ) Unserved) (m n : PagedMachine D) → Dels story key begun.Before most r m n → IfErr r (λ why. MayRefuse workers why ⊎ EndsWork why)
dels_come story key most workers (Ok was) m n d = tt
dels_come story key most workers (Err (unserved.Refused refusal.RowSpent)) m n d = inl tt
dels_come story key most workers (Err (unserved.Refused refusal.ClockSpent)) m n d = inl tt
dels_come story key most workers (Err (unserved.Unanswered unanswered.DiskFault)) m n d = inr refl
dels_come story key most workers (Err (unserved.Unanswered (unanswered.Damaged place))) m n d = inr refl
dels_come story key most workers (Err _) m n d = absurd d

-- the machine works on behind a clock that has come to its end
pub clock_works : (A : Type 0) (clock : ℕ) (why : Refusal) → clock_refusal clock None ≡ Some why → works_behind {A = A} (Err (unserved.Refused why)) ≡ true
clock_works A clock why e = subst (λ k. works_behind {A = A} (Err (unserved.Refused k)) ≡ true) (sym (clock_at_end clock why e).is) refl
