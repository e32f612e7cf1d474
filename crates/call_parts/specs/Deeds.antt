-- What a call of an engine did, where pages come and go: its answer, by which events, what is in memory then, for what its disk stands, and what a crash at any
-- moment of it leaves.
use Rattle.std.specs.Prelude.{◌≡◌, ◌⊎◌, ◌≤◌, ◌<◌, ◌++◌, ℕ, Bool, true, false, List, Some, length}
use Rattle.map_model.specs.Lists.{any}
use Rattle.map_model.specs.declared.call.Answer.{Answer}
use Rattle.map_model.specs.declared.call.Answer.TheVariants as answer
use Rattle.map_model.specs.declared.call.Call.{Call}
use Rattle.map_model.specs.declared.call.Refusal.{Refusal}
use Rattle.map_model.specs.declared.call.Refusal.TheVariants as refusal
use Rattle.session_state.specs.core_state.Openings.{Opening}
use Rattle.session_state.specs.core_state.Events.{Event}
use Rattle.session_state.specs.core_state.Local.{is_sync}
use Rattle.session_state.specs.core_state.States.{State}
use Rattle.session_state.specs.core_state.Steps.{state_after}
use Rattle.session_state.specs.core_calls.Deeds.{answered, asked}
use Rattle.session_state.specs.core_calls.Fronts.{Done, front, outcomes}
use Rattle.session_state.specs.core_calls.Runs.{Tells}
use Rattle.session_state.specs.core_calls.Steps.{call_behind, is_structure}
use Rattle.session_state.specs.disk_runs.Masters.{IsNoEarlier}
use Rattle.session_state.specs.disk_runs.Stands.{Known}
use Rattle.lean_disk.specs.Moments.{LeavesOnly}
use Rattle.lean_disk.specs.Story.{Crash, Story}
use Rattle.session_state.specs.run_crashes.Lines.{CallLeaves}
use Rattle.session_state.specs.worker_log.Logs.{Log}
use Rattle.session_state.specs.engine_calls.Clauses.{Between, CallAnswers}
use Rattle.session_state.specs.engine_trait.Calls.{is_half_done}
use Rattle.session_state.specs.engine_trait.Limits.{limits}
use Rattle.session_state.specs.engine_trait.Logs.{Logs}
use Rattle.session_state.specs.engine_trait.Refusals.{IsRefusedFor, refusal_in}
use Rattle.call_parts.specs.Areas.{Around, Beside, is_save}
use Rattle.call_parts.specs.Memory.{IsOf, Memory}
use Rattle.call_parts.specs.Rooms.{ChangesTree, IsRoomFor, NoneGoesFor, grows, makes_sync, may_save, may_sync, most_of}

-- ## The answer

-- a leaf is read again
abbrev pub is_fetch : Event → Bool
is_fetch (Event.Fetch p pairs) = true
is_fetch _ = false

-- That there is no room for the key of a call is sure where no tombstone of the key's leaf can go, and no log is flushed for a page, behind which some may; and where the rows
-- began faithful, or no leaf was read again: else the key's leaf may have other entries by then.
pub record IsSureOfRoom (g : Opening) (s : State) (c : Call) (es : List Event) : Type 0 where
  pub none : NoneGoesFor g s c
  pub quiet : any makes_sync es ≡ false
  pub same : (g.faithful ≡ true) ⊎ (any is_fetch es ≡ false)

-- What the tests say before a call is its answer.
abbrev pub IsSure : Opening → State → Call → List Event → Refusal → Type 0
IsSure g s c es refusal.TooTall = IsSureOfRoom g s c es
IsSure g s c es refusal.NoPages = IsSureOfRoom g s c es
IsSure g s c es why = Unit {0}

-- that there is no room is told only where no tombstone can go
abbrev pub HasNoneToGo : Opening → State → Call → Refusal → Type 0
HasNoneToGo g s c refusal.TooTall = NoneGoesFor g s c
HasNoneToGo g s c refusal.NoPages = NoneGoesFor g s c
HasNoneToGo g s c why = Unit {0}

-- It is this refusal, or one that comes before it: a latch is spent, or a sync for a page of the call has brought the clock to its end.
abbrev pub IsRefusedOr : Refusal → Answer → Type 0
IsRefusedOr why a = (a ≡ answer.Refused why) ⊎ ((a ≡ answer.Refused refusal.RowSpent) ⊎ (a ≡ answer.Refused refusal.ClockSpent))

-- In the state behind all events of the call, with the log as it was before it, a refusal has its cause; it comes where the state before them has one, and then
-- no page is given to the tree, and where it is sure the tree is as it was. A put makes room for its key, a del tidies, and no call else changes the tree.
pub record Answers (g : Opening) (xs : List Done) (x : Done) (was : Log) : Type 0 where
  -- they are few, so in a run of fewer than 2^40 lines, and of fewer than 2^34 steps of scans and aborts behind them, no latch is ever spent
  pub few : length x.events ≤ most_of (asked x.outcome.deed)
  pub refused : (why : Refusal) → answered x.outcome.deed ≡ answer.Refused why
      → IsRefusedFor g (state_after g (front xs ++ x.events)) x.outcome.session (is_half_done x.outcome.session xs) was (call_behind (outcomes xs) (asked x.outcome.deed)) why
  pub kept : (why : Refusal) → answered x.outcome.deed ≡ answer.Refused why → HasNoneToGo g (state_after g (front xs ++ x.events)) (call_behind (outcomes xs) (asked x.outcome.deed)) why
  pub refuses : (why : Refusal) → IsSure g (state_after g (front xs)) (call_behind (outcomes xs) (asked x.outcome.deed)) x.events why
      → refusal_in g (state_after g (front xs)) x.outcome.session (is_half_done x.outcome.session xs) was (call_behind (outcomes xs) (asked x.outcome.deed)) ≡ Some why
      → IsRefusedOr why (answered x.outcome.deed)
  pub still : (why : Refusal) → refusal_in g (state_after g (front xs)) x.outcome.session (is_half_done x.outcome.session xs) was (call_behind (outcomes xs) (asked x.outcome.deed)) ≡ Some why → any grows x.events ≡ false
  pub stays : (why : Refusal) → IsSure g (state_after g (front xs)) (call_behind (outcomes xs) (asked x.outcome.deed)) x.events why
      → refusal_in g (state_after g (front xs)) x.outcome.session (is_half_done x.outcome.session xs) was (call_behind (outcomes xs) (asked x.outcome.deed)) ≡ Some why
      → any is_structure x.events ≡ false
  pub room : ChangesTree x.outcome.session g (state_after g (front xs)) (call_behind (outcomes xs) (asked x.outcome.deed)) x.events

-- ## The disk

-- The disk stands for its events too; at every moment a crash leaves what one after the first of them does, and the areas in which it does nothing are as they were.
pub record Keeps (g : Opening) (group : ℕ) (xs : List Done) (x : Done) (s0 : Crash) (k : Known) (is : Memory) (old new : Story) : Type 0 where
  pub answers : CallAnswers limits g group xs x s0 k old new
  pub memory : IsOf g is answers.known
  pub within : LeavesOnly old new (Beside g.workers (any is_save x.events) (any is_sync x.events) old)

-- A device failed: a crash leaves what one before the call does, or behind some first events by which it moved pages, changed the tree, put changes back or flushed logs; or
-- what one after the first events of a call that would be answered so.
pub data Stops (g : Opening) (group : ℕ) (xs : List Done) (own : ℕ) (c : Call) (s0 : Crash) (k : Known) (old new : Story) : Type 0 where
  Nothing : (es : List Event) → IsRoomFor g xs own (call_behind (outcomes xs) c) es → LeavesOnly old new (CallLeaves g xs es s0 k.master) → Stops g group xs own c s0 k old new
  Part : (x : Done) → asked x.outcome.deed ≡ c → x.outcome.session ≡ own → Tells limits g group xs x → length x.events ≤ most_of c → LeavesOnly old new (CallLeaves g xs x.events s0 k.master) → Stops g group xs own c s0 k old new

-- and the areas in which it does nothing are as they were
pub record Leaves (g : Opening) (group : ℕ) (xs : List Done) (own : ℕ) (c : Call) (s0 : Crash) (k : Known) (old new : Story) : Type 0 where
  pub stops : Stops g group xs own c s0 k old new
  pub within : LeavesOnly old new (Beside g.workers (may_save xs c) (may_sync g xs own c) old)

-- ## A call

-- One outcome more happened in the run: it is told by its events, which had the need of each, and of which the logs have the records.
pub record Happens (g : Opening) (group : ℕ) (xs : List Done) (x : Done) (was is : Memory) : Type 0 where
  pub tells : Tells limits g group xs x
  pub how : Answers g xs x (was.log x.outcome.session)
  pub logs : (w : ℕ) → 0 < w → w ≤ g.workers → Logs w g (state_after g (front xs)) x.events (was.log w) (is.log w)
  -- a sync alone writes the next master, each sync one at most
  pub master : any is_sync x.events ≡ false → is.master ≡ was.master
  pub no_earlier : IsNoEarlier x.events was.master is.master

-- Session `own` asked it, or for 0 nobody did, and was answered so: by one outcome more.
pub record Does (g : Opening) (group : ℕ) (xs : List Done) (own : ℕ) (c : Call) (a : Answer) (was is : Memory) (old new : Story) : Type 0 where
  pub done : Done
  pub session : done.outcome.session ≡ own
  pub asked_is : asked done.outcome.deed ≡ c
  pub answer_is : answered done.outcome.deed ≡ a
  pub happens : Happens g group xs done was is
  pub frame : Around g.workers (any is_save done.events) (any is_sync done.events) old new
  pub keeps : (s0 : Crash) (k : Known) → Between limits g group xs s0 k old → IsOf g was k → Keeps g group xs done s0 k is old new

-- It was not, since its disk failed.
pub record Fails (g : Opening) (group : ℕ) (xs : List Done) (own : ℕ) (c : Call) (was : Memory) (old new : Story) : Type 0 where
  pub frame : Around g.workers (may_save xs c) (may_sync g xs own c) old new
  pub leaves : (s0 : Crash) (k : Known) → Between limits g group xs s0 k old → IsOf g was k → Leaves g group xs own c s0 k old new
