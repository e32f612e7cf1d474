-- A put by its answer: what a script is told, and what is left behind it.
use Rattle.std.proofs.Common.{◌≡◌, ◌⊎◌, inl, inr, ℕ, Option, Result, Ok, Err, IfErr, IsErrAnd, refl, subst}
use Rattle.map_model.specs.declared.call.Refusal.TheVariants as refusal
use Rattle.paged_desks.specs.engine_trait.Serving.{MayRefuse}
use Rattle.paged_desks.specs.engine_trait.declared.unserved.Unanswered.TheVariants as unanswered
use Rattle.paged_desks.specs.engine_trait.declared.unserved.Unserved.{Unserved}
use Rattle.paged_desks.specs.engine_trait.declared.unserved.Unserved.TheVariants as unserved
use Rattle.lean_disk.specs.Faults.{HasCause}
use Rattle.lean_disk.specs.Story.{Story}
use Rattle.row_room.specs.row_changes.declared.ways.Unmade.{Unmade}
use Rattle.row_room.specs.row_changes.declared.ways.Unmade.TheVariants as unmade
use Rattle.row_room.specs.declared.steps.Stepped.{Stepped}
use Rattle.paged_desks.specs.Calls.{EndsWork}
use Rattle.paged_desks.specs.declared.machine.PagedMachine.{PagedMachine}
use Rattle.paged_calls.specs.Calls.{IsEarly}
use Rattle.paged_calls.specs.Rounds.{Rounds, round_of}
use Rattle.paged_calls.proofs.WarmLemmas.{cause_as}

-- ## What comes before all else

pub rounds_late : {D : Type 0} (story : D → Story) (key value most : ℕ) (r : Result (Option ℕ) Unserved) (m n : PagedMachine D) → Rounds story key value most (round_of r) m n → IsErrAnd r IsEarly → ⊥
rounds_late story key value most (Ok was) m n d e = e
rounds_late story key value most (Err (unserved.Refused refusal.RowSpent)) m n d e = e
rounds_late story key value most (Err (unserved.Refused refusal.ClockSpent)) m n d e = e
rounds_late story key value most (Err (unserved.Refused refusal.TooTall)) m n d e = e
rounds_late story key value most (Err (unserved.Refused refusal.NoPages)) m n d e = e
rounds_late story key value most (Err (unserved.Unanswered unanswered.DiskFault)) m n d e = e
rounds_late story key value most (Err (unserved.Unanswered (unanswered.Damaged place))) m n d e = e
rounds_late story key value most (Err _) m n d e = absurd d

-- ## What a script is told

pub rounds_come : {D : Type 0} (story : D → Story) (key value most workers : ℕ) (r : Result (Option ℕ) Unserved) (m n : PagedMachine D) → Rounds story key value most (round_of r) m n → IfErr r (λ why. MayRefuse workers why ⊎ EndsWork why)
rounds_come story key value most workers (Ok was) m n d = tt
rounds_come story key value most workers (Err (unserved.Refused refusal.RowSpent)) m n d = inl tt
rounds_come story key value most workers (Err (unserved.Refused refusal.ClockSpent)) m n d = inl tt
rounds_come story key value most workers (Err (unserved.Refused refusal.TooTall)) m n d = inl tt
rounds_come story key value most workers (Err (unserved.Refused refusal.NoPages)) m n d = inl tt
rounds_come story key value most workers (Err (unserved.Unanswered unanswered.DiskFault)) m n d = inr refl
rounds_come story key value most workers (Err (unserved.Unanswered (unanswered.Damaged place))) m n d = inr refl
rounds_come story key value most workers (Err _) m n d = absurd d

-- it is not told that there is no engine
pub rounds_whole : {D : Type 0} (story : D → Story) (key value most : ℕ) (r : Result (Option ℕ) Unserved) (m n : PagedMachine D) → Rounds story key value most (round_of r) m n → r ≡ Err (unserved.Unanswered unanswered.Broken) → ⊥
rounds_whole story key value most r m n d e = subst (λ (q : Result (Option ℕ) Unserved). Rounds story key value most (round_of q) m n) e d

-- ## Faults

pub cause_step : (B : Type 0) (before now : ℕ) (why : Unserved) → HasCause before now (◌≡◌ {A = Result Stepped Unmade} (Err (unmade.Unserved why)) (Err (unmade.Unserved (unserved.Unanswered unanswered.DiskFault)))) → HasCause before now (◌≡◌ {A = Result B Unserved} (Err why) (Err (unserved.Unanswered unanswered.DiskFault)))
cause_step B before now why h = cause_as before now _ _ to from h
  where
    to : ◌≡◌ {A = Result Stepped Unmade} (Err (unmade.Unserved why)) (Err (unmade.Unserved (unserved.Unanswered unanswered.DiskFault))) → ◌≡◌ {A = Result B Unserved} (Err why) (Err (unserved.Unanswered unanswered.DiskFault))
    to e = cc

    from : ◌≡◌ {A = Result B Unserved} (Err why) (Err (unserved.Unanswered unanswered.DiskFault)) → ◌≡◌ {A = Result Stepped Unmade} (Err (unmade.Unserved why)) (Err (unmade.Unserved (unserved.Unanswered unanswered.DiskFault)))
    from e = cc

-- what was done is no fault
pub ok_step : (B : Type 0) (before now : ℕ) (step : Stepped) (b : B) → HasCause before now (◌≡◌ {A = Result Stepped Unmade} (Ok step) (Err (unmade.Unserved (unserved.Unanswered unanswered.DiskFault)))) → HasCause before now (◌≡◌ {A = Result B Unserved} (Ok b) (Err (unserved.Unanswered unanswered.DiskFault)))
ok_step B before now step b h = cause_as before now _ _ (λ e. absurd (never_step e)) (λ e. absurd (never e)) h
  where
    never_step : ◌≡◌ {A = Result Stepped Unmade} (Ok step) (Err (unmade.Unserved (unserved.Unanswered unanswered.DiskFault))) → ⊥
    never_step e = cc

    never : ◌≡◌ {A = Result B Unserved} (Ok b) (Err (unserved.Unanswered unanswered.DiskFault)) → ⊥
    never e = cc

-- nor is a round
pub ok_round : {A : Type 0} (a : A) (why : Unserved) → ◌≡◌ {A = Result A Unserved} (Ok a) (Err why) → ⊥
ok_round a why e = cc

pub cause_round : (B : Type 0) {A : Type 0} (before now : ℕ) (a : A) (b : B) → HasCause before now (◌≡◌ {A = Result A Unserved} (Ok a) (Err (unserved.Unanswered unanswered.DiskFault))) → HasCause before now (◌≡◌ {A = Result B Unserved} (Ok b) (Err (unserved.Unanswered unanswered.DiskFault)))
cause_round B before now a b h = cause_as before now _ _ (λ e. absurd (ok_round a (unserved.Unanswered unanswered.DiskFault) e)) (λ e. absurd (ok_round b (unserved.Unanswered unanswered.DiskFault) e)) h

-- a refusal of one kind of answer, as one of another
pub cause_kind : (A B : Type 0) (before now : ℕ) (why : Unserved) → HasCause before now (◌≡◌ {A = Result A Unserved} (Err why) (Err (unserved.Unanswered unanswered.DiskFault))) → HasCause before now (◌≡◌ {A = Result B Unserved} (Err why) (Err (unserved.Unanswered unanswered.DiskFault)))
cause_kind A B before now why h = cause_as before now _ _ to from h
  where
    to : ◌≡◌ {A = Result A Unserved} (Err why) (Err (unserved.Unanswered unanswered.DiskFault)) → ◌≡◌ {A = Result B Unserved} (Err why) (Err (unserved.Unanswered unanswered.DiskFault))
    to e = cc

    from : ◌≡◌ {A = Result B Unserved} (Err why) (Err (unserved.Unanswered unanswered.DiskFault)) → ◌≡◌ {A = Result A Unserved} (Err why) (Err (unserved.Unanswered unanswered.DiskFault))
    from e = cc
