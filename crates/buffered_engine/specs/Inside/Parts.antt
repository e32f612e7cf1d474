-- What a machine is to an engine, and what a call left of it.
use Rattle.std.specs.Prelude.{◌≡◌, ◌≤◌, ℕ, List, Err, not}
use Rattle.page_model.specs.Limits.{most_sessions}
use Rattle.map_model.specs.declared.call.Call.{Call}
use Rattle.paged_scans.specs.engine_trait.declared.unserved.Unanswered.TheVariants as unanswered
use Rattle.paged_scans.specs.core_calls.Fronts.{Done}
use Rattle.paged_scans.specs.core_state.Openings.{Opening}
use Rattle.lean_disk.specs.Faults.{HasCause}
use Rattle.lean_disk.specs.Story.{Story}
use Rattle.engine_front.specs.declared.calls.Next.{Next}
use Rattle.group_commit.specs.declared.queue.End.{End}
use Rattle.paged_scans.specs.session_desks.Parts.{AreAsMany, HasTurned, SeatFits, Works, here}
use Rattle.paged_scans.specs.paged_desks.Calls.{CallDoes}
use Rattle.paged_scans.specs.paged_desks.Machines.{IsReady, view_of}
use Rattle.paged_scans.specs.paged_desks.declared.machine.PagedMachine.{PagedMachine}
use Rattle.paged_scans.specs.Calls.{IsIn}
use Rattle.paged_scans.specs.declared.scans.Scan.{Scan}
use Rattle.buffered_engine.specs.Calls.{IsTo, MayBe, is_stop}
use Rattle.buffered_engine.specs.Inside.Asks.{IsEndOf}
use Rattle.buffered_engine.specs.States.{HasRun, State}
use Rattle.buffered_engine.specs.declared.ends.Response.{Response}

-- ## Its parts

-- the engine of this machine, as its callers see it
abbrev pub state_by : {D : Type 0} → PagedMachine D → Next → Scan → List (List End) → State D
state_by m next scan ends = record {
  view = view_of m;
  disk = m.machine.work.disk;
  work = here m.machine;
  desks = m.machine.desks.items;
  master = m.machine.master;
  slots = m.pager.slots;
  works = m.machine.work.session.works;
  next = next;
  scan = scan;
  sessions = m.machine.work.session.workers;
  turn = m.machine.work.session.own;
  group = m.machine.work.session.group;
  ends = ends;
}

-- ## What holds

-- Its machine is as between two calls, and stands in a run, unless the engine works no longer: then its seat is still the rows'. Its scan tells of keys that there may be.
pub record IsEngine {D : Type 0} (story : D → Story) (m : PagedMachine D) (next : Next) (scan : Scan) (ends : List (List End)) : Type 0 where
  pub few : m.machine.work.session.workers ≤ most_sessions
  pub fits : SeatFits m.machine
  pub ready : Works m.machine → IsReady story m
  pub run : Works m.machine → HasRun (state_by m next scan ends)
  pub within : IsIn scan

-- ## Behind a call

-- the session has the turn, and else all is as it was
pub record IsTurned {D : Type 0} (session : ℕ) (m n : PagedMachine D) : Type 0 where
  pub turned : HasTurned session m.machine n.machine
  pub view : view_of n ≡ view_of m
  pub disk : n.machine.work.disk ≡ m.machine.work.disk
  pub master : n.machine.master ≡ m.machine.master
  pub group : n.machine.work.session.group ≡ m.machine.work.session.group
  pub pager : n.pager ≡ m.pager

-- A call of session `own`, which may have come to so many sessions, was answered so and did this; and what is left of the machine, which works on where there is an answer.
pub record MachineWent {D : Type 0} (story : D → Story) (faults : D → ℕ) (May : Opening → List Done → Type 0) (many own : ℕ) (c : Call) (r : Response) (m n : PagedMachine D) : Type 0 where
  pub does : CallDoes story May own c r.answer m n
  pub to : IsTo c r.answer
  pub may : MayBe many r.answer
  pub ends : IsEndOf own (view_of m) (view_of n) r.answer r.receipt
  pub ready : Works n.machine → IsReady story n
  pub fits : SeatFits n.machine
  pub session : AreAsMany m.machine n.machine
  pub works : n.machine.work.session.works ≡ not (is_stop r.answer)
  pub not_broken : r.answer ≡ Err unanswered.Broken → ⊥
  pub cause_disk_fault : HasCause (faults m.machine.work.disk) (faults n.machine.work.disk) (r.answer ≡ Err unanswered.DiskFault)
