-- In which run a machine whose pages need not be in memory stands, and what a call of the session whose turn it is did in each such run.
use Rattle.std.specs.Prelude.{◌≡◌, ◌≤◌, ◌<◌, ℕ, Bool, true, false, List, [], ◌∷◌, Result, Ok, Err}
use Rattle.map_model.specs.declared.call.Answer.{Answer}
use Rattle.map_model.specs.declared.call.Call.{Call}
use Rattle.map_model.specs.declared.call.Refusal.TheVariants as refusal
use Rattle.desk_parts.specs.engine_trait.declared.unserved.Unanswered.{Unanswered}
use Rattle.desk_parts.specs.engine_trait.declared.unserved.Unanswered.TheVariants as unanswered
use Rattle.desk_parts.specs.engine_trait.declared.unserved.Unserved.{Unserved}
use Rattle.desk_parts.specs.engine_trait.declared.unserved.Unserved.TheVariants as unserved
use Rattle.desk_parts.specs.core_state.Openings.{Opening}
use Rattle.desk_parts.specs.core_state.Steps.{state_after}
use Rattle.desk_parts.specs.core_calls.Fronts.{Done, front, outcomes}
use Rattle.desk_parts.specs.disk_runs.Stands.{Known}
use Rattle.lean_disk.specs.Story.{Crash, Story}
use Rattle.desk_parts.specs.engine_calls.Clauses.{Between, IsNewLine}
use Rattle.desk_parts.specs.engine_trait.Calls.{is_half_done}
use Rattle.desk_parts.specs.engine_trait.Limits.{limits}
use Rattle.desk_parts.specs.rows_trait.declared.view.View.{View}
use Rattle.desk_parts.specs.call_parts.Deeds.{Does, Fails}
use Rattle.desk_parts.specs.call_parts.Memory.{IsOf, Memory}
use Rattle.desk_parts.specs.session_state.Ties.{Ties}
use Rattle.desk_parts.specs.session_desks.Desks.{desk_of}
use Rattle.desk_parts.specs.session_desks.Machines.{IsLogged}
use Rattle.desk_parts.specs.session_desks.Parts.{here, shape}
use Rattle.desk_parts.specs.session_desks.declared.machine.Machine.{Machine}
use Rattle.paged_desks.specs.Machines.{memory, view_of}
use Rattle.paged_desks.specs.declared.machine.PagedMachine.{PagedMachine}
use Rattle.paged_desks.specs.declared.warming.Unwarmed.{Unwarmed}
use Rattle.paged_desks.specs.declared.warming.Unwarmed.TheVariants as stopped

-- ## In a run

-- The view has seen just the events of these outcomes, and no loads of the opening are left for the next call; the logs have their records.
pub record Tied (g : Opening) (group : ℕ) (xs : List Done) (v : View) (is : Memory) : Type 0 where
  pub ties : (w : ℕ) → Ties g group xs w (is_half_done w xs) v
  pub begun : (w : ℕ) → (ties w).loads ≡ []
  pub logged : (w : ℕ) → 0 < w → w ≤ g.workers → IsLogged (state_after g (front xs)) w (is.log w)

-- the sessions say which aborts are half done
abbrev pub AreHalf : {D : Type 0} → (sessions : ℕ) → List Done → Machine D → Type 0
AreHalf sessions xs m = (w : ℕ) → 0 < w → w ≤ sessions → is_half_done w xs ≡ (desk_of (here m) m.desks.items w).session.is_half_aborted

-- ## A call

-- It was answered so, by one outcome more, to which the view is tied.
pub record DoesTied {D : Type 0} (g : Opening) (group : ℕ) (xs : List Done) (own : ℕ) (c : Call) (a : Answer) (was : Memory) (n : PagedMachine D) (old new : Story) : Type 0 where
  pub does : Does g group xs own c a was (memory n) old new
  pub tied : Tied g group (does.done ∷ xs) (view_of n) (memory n)
  pub is_half_aborted : AreHalf g.workers (does.done ∷ xs) n.machine

-- the disk stands for no run of these outcomes
abbrev pub StandsNot : (g : Opening) (group : ℕ) → List Done → Memory → Story → Type 0
StandsNot g group xs was old = (s0 : Crash) (k : Known) → Between limits g group xs s0 k old → IsOf g was k → ⊥

-- it was answered so; or the disk failed, and then this; or a page of it is damaged, and then this too, and it stood for no run
abbrev pub Comes : Result Answer Unanswered → (does : Answer → Type 0) → (fails never : Type 0) → Type 0
Comes (Ok a) does fails never = does a
Comes (Err unanswered.DiskFault) does fails never = fails
Comes (Err (unanswered.Damaged place)) does fails never = fails × never
Comes (Err unanswered.Broken) does fails never = ⊥

-- In each run of so many sessions to which the view is tied, and in which it may come, the call of session `own` did so.
abbrev pub CallDoes : {D : Type 0} → (story : D → Story) → (May : Opening → List Done → Type 0) → (own : ℕ) → Call → Result Answer Unanswered → (m n : PagedMachine D) → Type 0
CallDoes story May own c r m n = (g : Opening) (xs : List Done) → g.workers ≡ m.machine.work.session.workers → Tied g m.machine.work.session.group xs (view_of m) (memory m) → AreHalf g.workers xs m.machine → May g xs
    → Comes r (λ a. DoesTied g m.machine.work.session.group xs own c a (memory m) n (story m.machine.work.disk) (story n.machine.work.disk))
    (Fails g m.machine.work.session.group xs own c (memory m) (story m.machine.work.disk) (story n.machine.work.disk)) (StandsNot g m.machine.work.session.group xs (memory m) (story m.machine.work.disk))

-- on a new line
abbrev pub OnLine : Opening → List Done → Type 0
OnLine g xs = IsNewLine (outcomes xs)

-- behind it the machine works no longer
abbrev pub ends_work : Unserved → Bool
ends_work (unserved.Refused why) = false
ends_work (unserved.Unanswered why) = true

abbrev pub EndsWork : Unserved → Type 0
EndsWork why = ends_work why ≡ true

-- whether the machine works on
abbrev pub works_behind : {A : Type 0} → Result A Unserved → Bool
works_behind (Ok a) = true
works_behind (Err (unserved.Refused why)) = true
works_behind (Err (unserved.Unanswered why)) = false

-- why pages did not come, as a call is answered
abbrev pub unserved_of : Unwarmed → Unserved
unserved_of stopped.RowSpent = unserved.Refused refusal.RowSpent
unserved_of stopped.DiskFault = unserved.Unanswered unanswered.DiskFault
unserved_of (stopped.Damaged page) = unserved.Unanswered (unanswered.Damaged page)
unserved_of (stopped.Altered page) = unserved.Unanswered (unanswered.Damaged page)

-- ## A piece of a call

-- but for rows and seat, and the session in the store, all is as it was
pub record IsBeside {D : Type 0} (m n : PagedMachine D) : Type 0 where
  pub shape : shape n.machine ≡ shape m.machine
  pub disk : n.machine.work.disk ≡ m.machine.work.disk
  pub log : n.machine.work.log ≡ m.machine.work.log
  pub desks : n.machine.desks ≡ m.machine.desks
  pub latches : n.machine.latches ≡ m.machine.latches
  pub master : n.machine.master ≡ m.machine.master
  pub pager : n.pager ≡ m.pager

-- but for rows and seat, and the session in the store with its log and its disk, all is as it was
pub record IsAside {D : Type 0} (m n : PagedMachine D) : Type 0 where
  pub shape : shape n.machine ≡ shape m.machine
  pub desks : n.machine.desks ≡ m.machine.desks
  pub latches : n.machine.latches ≡ m.machine.latches
  pub master : n.machine.master ≡ m.machine.master
  pub pager : n.pager ≡ m.pager
