-- Steps of a tidying: faults, and from which level a round begins.
use Rattle.std.proofs.Common.{◌≡◌, ℕ, Result, Ok, Err, sym, subst, arith}
use Rattle.paged_desks.specs.engine_trait.declared.unserved.Unanswered.TheVariants as unanswered
use Rattle.paged_desks.specs.engine_trait.declared.unserved.Unserved.{Unserved}
use Rattle.paged_desks.specs.engine_trait.declared.unserved.Unserved.TheVariants as unserved
use Rattle.lean_disk.specs.Faults.{HasCause}
use Rattle.row_room.specs.row_changes.declared.ways.Unmade.{Unmade}
use Rattle.row_room.specs.row_changes.declared.ways.Unmade.TheVariants as unmade
use Rattle.row_walks.specs.Stages.{level_of}
use Rattle.row_walks.specs.declared.steps.At.{At}
use Rattle.row_walks.specs.declared.steps.Tidied.{Tidied}
use Rattle.paged_desks.specs.declared.machine.PagedMachine.{PagedMachine}
use Rattle.paged_calls.specs.Tidyings.{HasPassed, MayDel}
use Rattle.paged_calls.proofs.WarmLemmas.{cause_as}

-- no level below the lowest one is to be passed
pub passed_first : {D : Type 0} (key : ℕ) (here : At) (m : PagedMachine D) → MayDel key here m → (level : ℕ) → level ≡ level_of here → HasPassed key here level m
passed_first key here m may level is = subst (λ (i : ℕ). HasPassed key here i m) (sym is) (record {
  from = omega arith;
  within = may.within;
  thin = λ l lo hi. absurd (let a = lo in let b = hi in omega arith);
  none = λ l lo hi. absurd (let a = lo in let b = hi in omega arith);
})

pub cause_step : (B : Type 0) (before now : ℕ) (why : Unserved) → HasCause before now (◌≡◌ {A = Result Tidied Unmade} (Err (unmade.Unserved why)) (Err (unmade.Unserved (unserved.Unanswered unanswered.DiskFault)))) → HasCause before now (◌≡◌ {A = Result B Unserved} (Err why) (Err (unserved.Unanswered unanswered.DiskFault)))
cause_step B before now why h = cause_as before now _ _ to from h
  where
    to : ◌≡◌ {A = Result Tidied Unmade} (Err (unmade.Unserved why)) (Err (unmade.Unserved (unserved.Unanswered unanswered.DiskFault))) → ◌≡◌ {A = Result B Unserved} (Err why) (Err (unserved.Unanswered unanswered.DiskFault))
    to e = cc

    from : ◌≡◌ {A = Result B Unserved} (Err why) (Err (unserved.Unanswered unanswered.DiskFault)) → ◌≡◌ {A = Result Tidied Unmade} (Err (unmade.Unserved why)) (Err (unmade.Unserved (unserved.Unanswered unanswered.DiskFault)))
    from e = cc

-- what was done is no fault
pub never_fault : (step : Tidied) → ◌≡◌ {A = Result Tidied Unmade} (Ok step) (Err (unmade.Unserved (unserved.Unanswered unanswered.DiskFault))) → ⊥
never_fault step e = cc

-- a try that was made met no fault
pub ok_try : (A B : Type 0) (before now : ℕ) (a : A) (b : B) → HasCause before now (◌≡◌ {A = Result A Unmade} (Ok a) (Err (unmade.Unserved (unserved.Unanswered unanswered.DiskFault)))) → HasCause before now (◌≡◌ {A = Result B Unserved} (Ok b) (Err (unserved.Unanswered unanswered.DiskFault)))
ok_try A B before now a b h = cause_as before now _ _ (λ e. absurd (first e)) (λ e. absurd (second e)) h
  where
    first : ◌≡◌ {A = Result A Unmade} (Ok a) (Err (unmade.Unserved (unserved.Unanswered unanswered.DiskFault))) → ⊥
    first e = cc

    second : ◌≡◌ {A = Result B Unserved} (Ok b) (Err (unserved.Unanswered unanswered.DiskFault)) → ⊥
    second e = cc

pub ok_step : (B : Type 0) (before now : ℕ) (step : Tidied) (b : B) → HasCause before now (◌≡◌ {A = Result Tidied Unmade} (Ok step) (Err (unmade.Unserved (unserved.Unanswered unanswered.DiskFault)))) → HasCause before now (◌≡◌ {A = Result B Unserved} (Ok b) (Err (unserved.Unanswered unanswered.DiskFault)))
ok_step B before now step b h = cause_as before now _ _ (λ e. absurd (never_fault step e)) (λ e. absurd (never e)) h
  where
    never : ◌≡◌ {A = Result B Unserved} (Ok b) (Err (unserved.Unanswered unanswered.DiskFault)) → ⊥
    never e = cc
