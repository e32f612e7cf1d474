-- A machine and its parts, as its functions name them, and what a sync left of it.
use Rattle.std.specs.Prelude.{◌≡◌, ◌-◌, ℕ, true, length}
use Rattle.lean_disk.specs.Story.{Story}
use Rattle.session_state.specs.engine_trait.Calls.{Memory}
use Rattle.session_state.specs.rows_trait.Plain.{sizes}
use Rattle.session_state.specs.rows_trait.Rule.{IsPicture, plan}
use Rattle.session_state.specs.rows_trait.Views.{Shape, state}
use Rattle.session_state.specs.worker_log.Logs.{Log}
use Rattle.session_state.specs.Opened.{plain_shape}
use Rattle.session_state.specs.declared.work.Work.{Work}
use Rattle.session_desks.specs.Desks.{AreSeated, Turned, log_of}
use Rattle.session_desks.specs.Runs.{memory_with}
use Rattle.session_desks.specs.Syncs.{AllFlushed, AreRaisedTo, AreStill, AreSynced, FlushFails, Flushed, FlushedOne, MayFlushEach, SyncFails, SyncMade}
use Rattle.session_desks.specs.Machines.{AreLogged, HasNumbers, IsMachine}
use Rattle.session_desks.specs.declared.desk.Desk.{Desk}
use Rattle.session_desks.specs.declared.machine.Machine.{Machine}

-- ## Its parts

-- the session in the store, with its log
abbrev pub in_store : {D : Type 0} → Work D → Desk
in_store st = record { session = st.session; log = st.log }

abbrev pub here : {D : Type 0} → Machine D → Desk
here m = in_store m.work

-- how many rows there are, and that nobody else steps
abbrev pub shape : {D : Type 0} → Machine D → Shape
shape m = plain_shape m.rows.frames m.rows.locks m.rows.workers

-- the log of each session
abbrev pub logs : {D : Type 0} → Machine D → ℕ → Log
logs m = log_of (here m) m.desks.items

-- what is in memory of the disk
abbrev pub memory : {D : Type 0} → Machine D → Memory
memory m = memory_with (logs m) m.master

-- ## What holds

-- no device has failed
abbrev pub Works : {D : Type 0} → Machine D → Type 0
Works m = m.work.session.works ≡ true

-- the seat is that of the rows
abbrev pub SeatFits : {D : Type 0} → Machine D → Type 0
SeatFits m = IsPicture (plan (sizes m.rows.frames m.rows.locks m.rows.workers) m.seat.view.given) m.rows.words.items m.seat.view

-- there is a desk for each session
abbrev pub IsSeated : {D : Type 0} → Machine D → Type 0
IsSeated m = AreSeated (here m) m.desks.items

-- its parts belong together
abbrev pub IsSound : {D : Type 0} → Machine D → Type 0
IsSound m = IsMachine m.rows.frames m.rows.locks m.rows.workers m.rows.words.items m.seat.view (here m) m.desks.items m.latches m.master

-- its logs have the records that the seat has seen
abbrev pub HasLogs : {D : Type 0} → Machine D → Type 0
HasLogs m = AreLogged (state m.seat.view).core (logs m) m.work.session.workers

-- each session may be flushed
abbrev pub MaySync : {D : Type 0} → Machine D → Type 0
MaySync m = MayFlushEach m.work.session.workers (here m) m.desks.items

-- nothing of its logs is left to flush
abbrev pub IsFlushed : {D : Type 0} → Machine D → Type 0
IsFlushed m = AllFlushed m.work.session.workers (logs m)

-- ## Behind a call

-- as many sessions, whose commits are flushed in such groups
abbrev pub AreAsMany : {D : Type 0} → Machine D → Machine D → Type 0
AreAsMany m n = (n.work.session.workers ≡ m.work.session.workers) × (n.work.session.group ≡ m.work.session.group)

-- the session has the turn
abbrev pub HasTurned : {D : Type 0} → (session : ℕ) → Machine D → Machine D → Type 0
HasTurned session m n = Turned session (here m) (here n) m.desks.items n.desks.items

-- ## A sync

-- its sessions are as they were, but for what they know of free pages, and how many of their commits wait for a flush
abbrev pub IsStill : {D : Type 0} → Machine D → Machine D → Type 0
IsStill m n = AreStill m.work.session.workers (here m) m.desks.items (here n) n.desks.items

-- the log of a session was flushed whole, the other ones are as they were
abbrev pub FlushesOne : {D : Type 0} → (story : D → Story) → (session : ℕ) → Machine D → Machine D → Type 0
FlushesOne story session m n = FlushedOne session m.work.session.workers m.seat.view n.seat.view (logs m) (logs n) (story m.work.disk) (story n.work.disk)

-- each log was, one after another
abbrev pub FlushesAll : {D : Type 0} → (story : D → Story) → Machine D → Machine D → Type 0
FlushesAll story m n = Flushed m.work.session.workers m.work.session.workers m.seat.view n.seat.view (logs m) (logs n) (story m.work.disk) (story n.work.disk)

-- a device failed at one of these
abbrev pub FailsToFlush : {D : Type 0} → (story : D → Story) → Machine D → Machine D → Type 0
FailsToFlush story m n = FlushFails m.work.session.workers m.seat.view (logs m) (story m.work.disk) (story n.work.disk)

-- sessions and logs are raised to a number
abbrev pub IsRaised : {D : Type 0} → Machine D → Machine D → (number : ℕ) → Type 0
IsRaised m n number = AreRaisedTo m.work.session.workers (here m) m.desks.items (here n) n.desks.items number

-- behind the flushes of a sync too
abbrev pub IsSynced : {D : Type 0} → Machine D → Machine D → (number : ℕ) → Type 0
IsSynced m n number = AreSynced m.work.session.workers (here m) m.desks.items (here n) n.desks.items number

-- the master has numbers without the last event, the sync, too: so a cut may follow
abbrev pub HasNumbersToCut : {D : Type 0} → Machine D → Type 0
HasNumbersToCut m = HasNumbers m.master (length m.seat.view.seen - 1) m.work.session.workers

-- all of a sync was done
abbrev pub MakesSync : {D : Type 0} → (story : D → Story) → Machine D → Machine D → (number : ℕ) → Type 0
MakesSync story m n number = SyncMade story m.work.session.workers number m.seat.view n.seat.view (memory m) (memory n) m.work.disk n.work.disk

-- a device failed in it
abbrev pub FailsToSync : {D : Type 0} → (story : D → Story) → Machine D → Machine D → Type 0
FailsToSync story m n = SyncFails m.work.session.workers m.seat.view (memory m) (story m.work.disk) (story n.work.disk)
