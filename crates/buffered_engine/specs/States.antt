-- An engine as its callers see it.
use Rattle.std.specs.Prelude.{◌≡◌, ◌⊎◌, ◌≤◌, ◌<◌, ◌-◌, ℕ, Bool, true, false, List, [], ◌∷◌, length}
use Rattle.page_model.specs.Limits.{waiting_ends}
use Rattle.map_model.specs.Journals.{Name}
use Rattle.map_model.specs.declared.call.Call.TheVariants as call
use Rattle.paged_scans.specs.core_state.Openings.{Opening}
use Rattle.paged_scans.specs.core_state.Steps.{state_after}
use Rattle.paged_scans.specs.core_calls.Durables.{due}
use Rattle.paged_scans.specs.core_calls.Fronts.{Done, front, outcomes}
use Rattle.paged_scans.specs.core_calls.Refusals.{waiting}
use Rattle.paged_scans.specs.disk_slots.declared.master.Master.{Master}
use Rattle.paged_scans.specs.page_calls.declared.slots.Slot.{Slot}
use Rattle.paged_scans.specs.engine_trait.Calls.{is_half_done}
use Rattle.paged_scans.specs.call_parts.Memory.{Memory}
use Rattle.engine_front.specs.Turns.{IsNext}
use Rattle.engine_front.specs.declared.calls.Next.{Next}
use Rattle.engine_front.specs.declared.calls.Next.TheVariants.{Abort, Durables, Line, Scan}
use Rattle.group_commit.specs.Queues.{queue_of}
use Rattle.group_commit.specs.Tracks.{Tracks}
use Rattle.group_commit.specs.declared.queue.End.{End}
use Rattle.paged_scans.specs.rows_trait.declared.view.View.{View}
use Rattle.paged_scans.specs.session_desks.Desks.{desk_of, log_of}
use Rattle.paged_scans.specs.session_desks.declared.desk.Desk.{Desk}
use Rattle.paged_scans.specs.paged_desks.Calls.{Tied}
use Rattle.paged_scans.specs.Calls.{IsBehindPair, StandsAt}
use Rattle.paged_scans.specs.declared.scans.Scan as scans
use Rattle.paged_scans.specs.declared.scans.TheConstants.{PAIRS}

-- ## What it is

-- What its seat has seen, its disk, the session in the store and those at their desks, with their logs, the master that counts, and the slots of the pages; whether
-- no device has failed and no page was damaged; what may be asked next, and the newest scan; how many sessions there are, whose turn it is, and how many commits of
-- one are flushed at once; and of each session the ends that wait.
pub record State (D : Type 0) : Type 0 where
  pub view : View
  pub disk : D
  pub work : Desk
  pub desks : List Desk
  pub master : Master
  pub slots : List Slot
  pub works : Bool
  pub next : Next
  pub scan : scans.Scan
  pub sessions : ℕ
  pub turn : ℕ
  pub group : ℕ
  pub ends : List (List End)

-- what it has in memory of its disk
abbrev pub memory_in : {D : Type 0} → State D → Memory
memory_in e = record { log = log_of e.work e.desks; master = e.master; slots = e.slots }

-- how many pairs a scan may still tell
abbrev pub pairs_left : scans.Scan → ℕ
pairs_left x = PAIRS - x.met

-- ## Its run

-- on a new line, this holds: all durable lines are told
abbrev pub IsSettled : Next → (settled : Type 0) → Type 0
IsSettled Line settled = settled
IsSettled n settled = Unit {0}

-- the newest outcome is of this session
abbrev pub IsOfTurn : (turn : ℕ) → List Done → Type 0
IsOfTurn turn [] = ⊥
IsOfTurn turn (y ∷ earlier) = y.outcome.session ≡ turn

-- where an abort is due, this holds
abbrev pub WhereDue : Next → (holds : Type 0) → Type 0
WhereDue Abort holds = holds
WhereDue n holds = Unit {0}

-- where a scan goes on, this holds
abbrev pub WhereScanning : Next → (holds : Type 0) → Type 0
WhereScanning Scan holds = holds
WhereScanning n holds = Unit {0}

-- the scan of session `own` goes on: the newest outcome is a pair of it, behind which it stands
abbrev pub GoesOnAt : (own : ℕ) → scans.Scan → Opening → List Done → Type 0
GoesOnAt own x g xs = IsBehindPair own (call.Scan x.from x.to) (outcomes xs) × StandsAt own x g xs

-- It stands in this run, where these commits were told durable: it has seen just the events of the outcomes; they say what may be asked next, and an abort that is
-- due and a scan that goes on are those of the session whose turn it is; its logs have their records; and its queues have the ends that wait, and where all durable
-- lines are told no line is due, and the queues have no other ends.
pub record InRun {D : Type 0} (e : State D) (g : Opening) (xs : List Done) (names : List Name) : Type 0 where
  pub workers : g.workers ≡ e.sessions
  pub next : IsNext e.next xs
  pub turn : WhereDue e.next (IsOfTurn e.turn xs)
  pub scan : WhereScanning e.next (GoesOnAt e.turn e.scan g xs)
  pub tied : Tied g e.group xs e.view (memory_in e)
  pub tracks : Tracks g (state_after g (front xs)) names e.ends
  pub told : IsSettled e.next (due g (state_after g (front xs)) names ≡ [])
  pub settled : IsSettled e.next ((w : ℕ) → 0 < w → w ≤ g.workers → length (queue_of e.ends w) ≡ waiting g (state_after g (front xs)) w)

-- Few ends wait in a session's queue: a session in a transaction has room for one more, but where the ends are ripe and are still to be told. Behind a pair of a scan
-- and behind a conflict it has: nothing was put there since all durable lines were told.
abbrev pub HasRoom : Next → (is_open : Bool) → (queued waits : ℕ) → Type 0
HasRoom Durables true queued waits = (queued < waiting_ends) ⊎ ((queued ≤ waiting_ends) × (waits ≡ 0))
HasRoom n true queued waits = queued < waiting_ends
HasRoom n false queued waits = queued ≤ waiting_ends

-- it stands in some run, in which the aborts are half done that its sessions say
pub record HasRun {D : Type 0} (e : State D) : Type 0 where
  pub opening : Opening
  pub done : List Done
  pub names : List Name
  pub in_run : InRun e opening done names
  pub is_half_aborted : (w : ℕ) → 0 < w → w ≤ opening.workers → is_half_done w done ≡ (desk_of e.work e.desks w).session.is_half_aborted
  pub room : (w : ℕ) → 0 < w → w ≤ opening.workers → HasRoom e.next (desk_of e.work e.desks w).session.is_open (length (queue_of e.ends w)) (waiting opening (state_after opening (front done)) w)
  pub is_open : WhereDue e.next (e.work.session.is_open ≡ true)
