-- How a sync goes on: it flushes the log of one session after another, and then writes the next master; and what that comes to.
use Rattle.std.specs.Prelude.{◌≡◌, ◌⊎◌, ◌≤◌, ◌<◌, ◌+◌, ◌^◌, ◌++◌, ◌&&◌, ◌||◌, ◌==◌, max, ℕ, suc, Bool, true, false, List, [], ◌∷◌, get_or, length}
use Rattle.map_model.specs.Lists.{all, any}
use Rattle.session_state.specs.core_state.Events as happening
use Rattle.session_state.specs.core_state.Needs.{may}
use Rattle.session_state.specs.core_state.Openings.{Opening}
use Rattle.session_state.specs.core_state.States as core
use Rattle.session_state.specs.core_state.Steps.{AllMet, state_after}
use Rattle.session_state.specs.core_calls.Fronts.{Done, front}
use Rattle.session_state.specs.core_calls.LogEvents.{AreFlushes, IsSync}
use Rattle.lean_disk.specs.Moments.{CrashIn, Framed, LeavesOnly}
use Rattle.lean_disk.specs.Story.{Story}
use Rattle.session_state.specs.disk_slots.declared.master.Master.{Master}
use Rattle.session_state.specs.disk_runs.MasterLaws.{raised}
use Rattle.session_state.specs.disk_runs.Masters.{IsNoEarlier}
use Rattle.session_state.specs.log_calls.Calls.{Anything}
use Rattle.session_state.specs.log_calls.Syncs.{KeepsEither, SyncsOn}
use Rattle.session_state.specs.log_calls.Wholes.{FlushesWhole, flush_of}
use Rattle.session_state.specs.engine_trait.Areas.{Around}
use Rattle.session_state.specs.engine_trait.Calls.{Memory}
use Rattle.session_state.specs.engine_trait.Logs.{Logs}
use Rattle.session_state.specs.row_opening.Openings.{Opens}
use Rattle.session_state.specs.row_words.declared.event.Event as told
use Rattle.session_state.specs.row_words.declared.given.Given.{Given}
use Rattle.session_state.specs.row_words.Moments.{events_of}
use Rattle.session_state.specs.row_words.Openings.{opening}
use Rattle.session_state.specs.rows_trait.declared.view.View.{View}
use Rattle.session_state.specs.rows_trait.Views.{state}
use Rattle.session_state.specs.worker_log.Logs.{Log}
use Rattle.session_state.specs.Ties.{Behind}
use Rattle.session_state.specs.Syncs.{HasSynced, MayFlush, finds_room, flushed_of, flushes_of, synced_session}
use Rattle.session_desks.specs.Desks.{desk_of}
use Rattle.session_desks.specs.Runs.{EachBreaks, EachFlushes, EachGoes, memory_with}
use Rattle.session_desks.specs.declared.desk.Desk.{Desk}

-- the rows began as an opening of the core, with no more pages than there may be
pub record HasOpening (v : Given) : Type 0 where
  pub opening : Opening
  pub opens : Opens opening v
  pub few : length v.pages ≤ 2 ^ 16

-- the greatest of a clock and those of these sessions
abbrev pub greatest : ℕ → List Desk → ℕ
greatest n [] = n
greatest n (d ∷ ds) = greatest (max n d.session.clock.clock) ds

-- the desk's log ends at n
abbrev pub ends_at : ℕ → Desk → Bool
ends_at n d = d.log.last == n

-- this log does, and those at the desks
abbrev pub all_end_at : (n : ℕ) → Log → List Desk → Bool
all_end_at n log desks = (log.last == n) && all (ends_at n) desks

-- each log of so many does: none has a last number below it
abbrev pub AllEndAt : (many n : ℕ) → (logs : ℕ → Log) → Type 0
AllEndAt many n logs = (w : ℕ) → 0 < w → w ≤ many → (logs w).last ≡ n

-- the next master of a run, with this floor
abbrev pub next_with : Master → ℕ → Master
next_with m floor = record m { sequence = m.sequence + 1; floor = floor }

-- a session and its log behind a sync up to this number
abbrev pub raised_desk : Desk → ℕ → Desk
raised_desk d n = record { session = synced_session d.session n; log = raised d.log n }

-- so is each
pub record AreRaised (old new : List Desk) (n : ℕ) : Type 0 where
  pub count : length new ≡ length old
  pub each : (i : ℕ) (d : Desk) → i < length old → get_or new i d ≡ raised_desk (get_or old i d) n

-- at every moment of it a crash leaves what one does before the sync or behind it, and the other areas as they were
pub record IsWriting (m : Master) (old new : Story) : Type 0 where
  pub either : KeepsEither m old new
  pub frame : Framed 0 old new
  pub within : LeavesOnly old new (CrashIn old 0 Anything)

-- ## Flushes

-- the log of session `own` was flushed whole, and the other ones are as they were
pub record FlushedOne (own many : ℕ) (v w : View) (was is : ℕ → Log) (old new : Story) : Type 0 where
  pub given : w.given ≡ v.given
  pub seen : w.seen ≡ v.seen ++ flushes_of own (was own)
  pub core : events_of (flushes_of own (was own)) ≡ flush_of own (was own)
  pub met : AllMet (opening v.given) (state v).core (flush_of own (was own))
  pub after : is own ≡ flushed_of (was own)
  pub last : (is own).last ≡ (was own).last
  pub flushed : (is own).flushed ≡ (is own).last
  pub others : (u : ℕ) → 0 < u → u ≤ many → (u ≡ own → ⊥) → is u ≡ was u
  pub whole : FlushesWhole own (was own) (is own) old new

-- The logs of the first sessions, so many, were flushed whole, one after another; so it is in each run.
pub record Flushed (count many : ℕ) (v w : View) (was is : ℕ → Log) (old new : Story) : Type 0 where
  pub events : List told.Event
  pub given : w.given ≡ v.given
  pub seen : w.seen ≡ v.seen ++ events
  pub flushes : AreFlushes (events_of events)
  pub few : length (events_of events) ≤ count
  pub last : (u : ℕ) → 0 < u → u ≤ many → (is u).last ≡ (was u).last
  pub flushed : (u : ℕ) → 0 < u → u ≤ count → (is u).flushed ≡ (is u).last
  pub others : (u : ℕ) → count < u → u ≤ many → is u ≡ was u
  pub after : (u : ℕ) → 0 < u → u ≤ count → is u ≡ flushed_of (was u)
  pub logs : (u : ℕ) → 0 < u → u ≤ many → (g : Opening) (s : core.State) → Logs u g s (events_of events) (was u) (is u)
  pub entries : (state w).core.entries ≡ (state v).core.entries
  pub around : Around many true old new
  pub behind : (g : Opening) (xs : List Done) (first : List happening.Event) → Behind g xs first v → Behind g xs (first ++ events_of events) w
  pub goes : EachFlushes count many v was is (events_of events) old new

-- a device failed at a flush, behind those of some first sessions
pub record FlushFails (many : ℕ) (v : View) (was : ℕ → Log) (old new : Story) : Type 0 where
  pub events : List happening.Event
  pub flushes : AreFlushes events
  pub few : length events ≤ many
  pub met : (g : Opening) (xs : List Done) (first : List happening.Event) → Behind g xs first v → AllMet g (state_after g (front xs)) (first ++ events)
  pub around : Around many true old new
  pub leaves : (m : Master) → EachBreaks many v (memory_with was m) events old new

-- ## Sessions

-- no abort is half done
abbrev pub AreWhole : (many : ℕ) → (work : Desk) → (desks : List Desk) → Type 0
AreWhole many work desks = (w : ℕ) → 0 < w → w ≤ many → (desk_of work desks w).session.is_half_aborted ≡ false

abbrev pub is_half_desk : Desk → Bool
is_half_desk d = d.session.is_half_aborted

-- one is
abbrev pub has_half : (work : Desk) → (desks : List Desk) → Bool
has_half work desks = work.session.is_half_aborted || any is_half_desk desks

-- each may be flushed: what it has still to put back finds room behind that
abbrev pub MayFlushEach : (many : ℕ) → (work : Desk) → (desks : List Desk) → Type 0
MayFlushEach many work desks = (w : ℕ) → 0 < w → w ≤ many → MayFlush (desk_of work desks w).session (desk_of work desks w).log

abbrev pub finds_room_desk : Desk → Bool
finds_room_desk d = finds_room d.session d.log

-- whether each may
abbrev pub all_find_room : (work : Desk) → (desks : List Desk) → Bool
all_find_room work desks = finds_room_desk work && all finds_room_desk desks

-- of each session only what it knows of free pages, and how many of its commits wait for a flush, may have changed
abbrev pub AreStill : (many : ℕ) → (store0 : Desk) → (desks0 : List Desk) → (store1 : Desk) → (desks1 : List Desk) → Type 0
AreStill many store0 desks0 store1 desks1 = (w : ℕ) → 0 < w → w ≤ many
    → (desk_of store1 desks1 w).session ≡ record (desk_of store0 desks0 w).session { free = (desk_of store1 desks1 w).session.free; unflushed = (desk_of store1 desks1 w).session.unflushed }

-- and the clocks are raised to the number of a sync
abbrev pub AreSynced : (many : ℕ) → (store0 : Desk) → (desks0 : List Desk) → (store1 : Desk) → (desks1 : List Desk) → (n : ℕ) → Type 0
AreSynced many store0 desks0 store1 desks1 n = (w : ℕ) → 0 < w → w ≤ many → ((desk_of store0 desks0 w).session.clock.clock ≤ n)
    × ((desk_of store1 desks1 w).session ≡ record (desk_of store0 desks0 w).session { clock = record (desk_of store0 desks0 w).session.clock { clock = n }; free = (desk_of store1 desks1 w).session.free; unflushed = 0 })

-- nothing of the logs is left to flush
abbrev pub AllFlushed : (many : ℕ) → (log : ℕ → Log) → Type 0
AllFlushed many log = (w : ℕ) → 0 < w → w ≤ many → (log w).flushed ≡ (log w).last

-- sessions and logs are raised to the number
abbrev pub AreRaisedTo : (many : ℕ) → (store0 : Desk) → (desks0 : List Desk) → (store1 : Desk) → (desks1 : List Desk) → (n : ℕ) → Type 0
AreRaisedTo many store0 desks0 store1 desks1 n = (w : ℕ) → 0 < w → w ≤ many → desk_of store1 desks1 w ≡ raised_desk (desk_of store0 desks0 w) n

-- ## The sync

-- The next master was written where some log's last number is below the number, and there alone.
pub data IsWritten {D : Type 0} (story : D → Story) (many n : ℕ) (logs : ℕ → Log) (master next : Master) (old new : D) : Type 0 where
  Still : AllEndAt many n logs → new ≡ old → next ≡ master → IsWritten story many n logs master next old new
  Wrote : (AllEndAt many n logs → ⊥) → SyncsOn (next_with master n) (story old) (story new) → IsWriting (next_with master n) (story old) (story new) → next ≡ next_with master n → IsWritten story many n logs master next old new

-- Behind flushes, as a sync up to n asks.
pub record MeetsSync (many n : ℕ) (master : Master) (u : View) (logs : ℕ → Log) : Type 0 where
  pub met : may (opening u.given) (state u).core (happening.Event.Sync n) ≡ true
  pub within : (w : ℕ) → 0 < w → w ≤ many → (logs w).last ≤ n
  -- each log is flushed up to its last number, as the core says
  pub counted : (w : ℕ) → 0 < w → w ≤ many → (state u).core.flushed w ≡ (logs w).last
  pub low : n < 2 ^ 64
  pub small : master.sequence + 1 < 2 ^ 63

-- A sync up to n as one part of a call: by flushes and then the sync, each met; and in each run the disk has gone on by them.
pub record SyncGoes (many n : ℕ) (v w : View) (was is : Memory) (old new : Story) : Type 0 where
  pub events : List told.Event
  pub given : w.given ≡ v.given
  pub seen : w.seen ≡ v.seen ++ events
  pub are : IsSync n (events_of events)
  pub few : length (events_of events) ≤ suc many
  pub behind : (g : Opening) (xs : List Done) (first : List happening.Event) → Behind g xs first v → Behind g xs (first ++ events_of events) w
  pub logs : (u : ℕ) → 0 < u → u ≤ many → (g : Opening) (s : core.State) → Logs u g s (events_of events) (was.log u) (is.log u)
  pub after : (u : ℕ) → 0 < u → u ≤ many → is.log u ≡ raised (flushed_of (was.log u)) n
  pub no_earlier : IsNoEarlier (events_of events) was.master is.master
  pub around : Around many true old new
  pub goes : EachGoes many v was is (events_of events) old new

-- The log of each session was flushed, and then all were synced up to n.
pub record SyncMade {D : Type 0} (story : D → Story) (many n : ℕ) (v w : View) (was is : Memory) (old new : D) : Type 0 where
  pub view : View
  pub logs : ℕ → Log
  pub between : D
  pub flushed : Flushed many many v view was.log logs (story old) (story between)
  pub ready : MeetsSync many n was.master view logs
  pub synced : HasSynced view w n
  pub raised : (a : ℕ) → 0 < a → a ≤ many → is.log a ≡ raised (logs a) n
  pub written : IsWritten story many n logs was.master is.master between new
  pub whole : SyncGoes many n v w was is (story old) (story new)

-- A device failed, at a flush or at the master: these are the flushes so far, or they and the sync, each met.
pub record SyncFails (many : ℕ) (v : View) (was : Memory) (old new : Story) : Type 0 where
  pub events : List happening.Event
  pub are : AreFlushes events ⊎ ((n : ℕ) × IsSync n events)
  pub few : length events ≤ suc many
  pub met : (g : Opening) (xs : List Done) (first : List happening.Event) → Behind g xs first v → AllMet g (state_after g (front xs)) (first ++ events)
  pub around : Around many true old new
  pub leaves : EachBreaks many v was events old new
