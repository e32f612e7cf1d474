-- What a step of a call shows, of itself alone, to be a part of the call.
use Rattle.std.specs.Prelude.{◌≡◌, ◌≤◌, ◌<◌, ◌++◌, ◌==◌, ℕ, Bool, true, false, List, [], ◌∷◌}
use Rattle.map_model.specs.Lists.{all, any}
use Rattle.session_state.specs.core_state.Openings.{Opening}
use Rattle.session_state.specs.core_state.Events as happening
use Rattle.session_state.specs.core_state.Local.{is_sync}
use Rattle.session_state.specs.core_state.States.{State}
use Rattle.session_state.specs.core_state.Steps.{AllMet, happens}
use Rattle.session_state.specs.disk_image.Records.{entry_of}
use Rattle.session_state.specs.disk_runs.Moments.{LeavesSome}
use Rattle.session_state.specs.core_calls.Fronts.{Done, front}
use Rattle.session_state.specs.disk_runs.Masters.{IsNoEarlier}
use Rattle.session_state.specs.disk_runs.Stands.{Known, Stands}
use Rattle.lean_disk.specs.Moments.{LeavesOnly}
use Rattle.lean_disk.specs.Story.{Crash, Story}
use Rattle.session_state.specs.log_calls.Calls.{FlushesOn, StagesOn}
use Rattle.session_state.specs.log_record.declared.record.Record.{Record}
use Rattle.page_calls.specs.Calls.{IsOn}
use Rattle.page_calls.specs.declared.slots.Slot.{Slot}
use Rattle.session_state.specs.row_opening.Openings.{Opens}
use Rattle.session_state.specs.row_words.declared.event.Event.{Event}
use Rattle.session_state.specs.row_words.declared.event.Event.TheVariants as told
use Rattle.session_state.specs.row_words.Moments.{event_of, events_of}
use Rattle.session_state.specs.row_words.Openings.{opening}
use Rattle.session_state.specs.rows_trait.declared.view.View.{View}
use Rattle.session_state.specs.rows_trait.Views.{state}
use Rattle.session_state.specs.engine_calls.Moves.{Moved}
use Rattle.session_state.specs.engine_calls.Parts.{Passes}
use Rattle.session_state.specs.engine_trait.Areas as areas
use Rattle.session_state.specs.engine_trait.Calls as resident
use Rattle.session_state.specs.engine_trait.Logs.{Logs}
use Rattle.session_state.specs.Staging.{KeepsLog}
use Rattle.session_state.specs.Ties.{Behind}
use Rattle.session_state.specs.worker_log.Calls.{After, flushed_log}
use Rattle.session_state.specs.worker_log.Logs.{Log}
use Rattle.call_parts.specs.Areas.{Apart, is_save}
use Rattle.call_parts.specs.Memory.{Memory}

-- ## What is seen

-- these events were seen next, each where its need was met
pub record Sees (events : List Event) (v w : View) : Type 0 where
  pub given : w.given ≡ v.given
  pub seen : w.seen ≡ v.seen ++ events
  pub met : AllMet (opening v.given) (state v).core (events_of events)

-- some of them first, up to a view, and then the others
pub record SeesBetween (first later : List Event) (v w : View) : Type 0 where
  pub between : View
  pub before : Sees first v between
  pub behind : Sees later between w

-- ## A record

-- the event enters a record of session `own`
abbrev pub is_entered : (own : ℕ) → happening.Event → Bool
is_entered own (happening.Event.Change w p k v) = w == own
is_entered own (happening.Event.Put_back w p) = w == own
is_entered own (happening.Event.Split w l r q i) = w == own
is_entered own (happening.Event.Lift w c) = w == own
is_entered own (happening.Event.Join w l r q) = w == own
is_entered own (happening.Event.Drop w c) = w == own
is_entered own (happening.Event.Purge w p keys) = w == own
is_entered own (happening.Event.End w commit f) = w == own
is_entered own _ = false

-- behind the view v it enters this one
pub record Enters (own : ℕ) (event : Event) (v : View) (entry : Record) : Type 0 where
  pub of_own : is_entered own (event_of event) ≡ true
  pub entry_is : (happens (opening v.given) (state v).core (event_of event)).entries ≡ entry_of own entry ∷ (state v).core.entries

-- Such an event was seen next, and its record was staged.
pub record Stages (own : ℕ) (event : Event) (v w : View) (was is : Log) (old new : Story) : Type 0 where
  pub sees : Sees (event ∷ []) v w
  pub entry : Record
  pub enters : Enters own event v entry
  pub after : After entry was is
  pub stands : StagesOn own entry was is old new
  pub keeps : KeepsLog own was old new

-- ## A flush

-- A flush of the session's log up to this number was seen next, and it was done.
pub record Flushes (own number : ℕ) (v w : View) (was is : Log) (old new : Story) : Type 0 where
  pub sees : Sees (told.Flush own number ∷ []) v w
  pub within : number ≤ was.last
  pub after : is ≡ flushed_log was
  pub stands : FlushesOn own was is old new
  pub keeps : KeepsLog own was old new

-- ## Pages

-- a page comes into a frame, leaves it, is about to leave it or to stay, or is saved; a cold leaf is read again, and has these entries from then on; the epoch goes on;
-- or a row is given up as it stood
abbrev pub moves_page : happening.Event → Bool
moves_page (happening.Event.Fetch p pairs) = true
moves_page (happening.Event.Load p f) = true
moves_page (happening.Event.Cool p) = true
moves_page (happening.Event.Rescue p) = true
moves_page (happening.Event.Save p) = true
moves_page (happening.Event.Evict p) = true
moves_page happening.Event.Tick = true
moves_page (happening.Event.Miss w) = true
moves_page _ = false

-- Behind es more happened in a run over the disk, of whose pages this was known: it goes on behind that, and of all but the pages the same is known.
pub record Ran (g : Opening) (es more : List happening.Event) (s0 : Crash) (x : Known) (is : List Slot) (old new : Story) : Type 0 where
  pub any_moment : LeavesOnly old new (LeavesSome g es more s0 x.master)
  pub known : Known
  pub master : known.master ≡ x.master
  pub log : known.log ≡ x.log
  pub on : IsOn g (es ++ more) s0 known is new

-- what has happened by a view, from where the core began
abbrev pub told_by : View → List happening.Event
told_by v = events_of v.given.before ++ events_of v.seen

-- Pages were moved by these events, in each run over the disk.
pub record Moves (many : ℕ) (events : List Event) (v w : View) (was : Memory) (is : List Slot) (old new : Story) : Type 0 where
  pub sees : Sees events v w
  pub moves : all moves_page (events_of events) ≡ true
  pub apart : Apart many (any is_save (events_of events)) false old new
  pub ran : (g : Opening) (s0 : Crash) (x : Known) → Opens g v.given → IsOn g (told_by v) s0 x was.slots old → x.master ≡ was.master → Ran g (told_by v) (events_of events) s0 x is old new

-- A device failed while pages were moved.
pub record Breaks (many : ℕ) (events : List happening.Event) (v : View) (was : Memory) (old new : Story) : Type 0 where
  pub apart : Apart many true false old new
  pub ran : (g : Opening) (s0 : Crash) (x : Known) → Opens g v.given → IsOn g (told_by v) s0 x was.slots old → x.master ≡ was.master → LeavesOnly old new (LeavesSome g (told_by v) events s0 x.master)

-- ## Where no page is touched

-- what an engine whose pages are all in memory has in memory of its disk
abbrev pub resident_of : Memory → resident.Memory
resident_of m = record { log = m.log; master = m.master }

-- the same, with this of it
abbrev pub with_resident : resident.Memory → Memory → Memory
with_resident r m = record m { log = r.log; master = r.master }

-- In a run, from where the disk stands: it goes on so, in the words of such an engine.
pub record StillGoes (g : Opening) (xs : List Done) (first es : List happening.Event) (s0 : Crash) (a : Known) (is : resident.Memory) (old new : Story) : Type 0 where
  pub known : Known
  pub moved : Moved g xs first es s0 a known old new
  pub is_of : resident.IsOf g is known
  pub firm : known.firm ≡ a.firm
  pub late : known.late ≡ a.late
  pub within : LeavesOnly old new (areas.Beside g.workers (any is_sync es) old)

-- or it failed
pub record StillFails (g : Opening) (xs : List Done) (first es : List happening.Event) (s0 : Crash) (a : Known) (syncs : Bool) (old new : Story) : Type 0 where
  pub passes : Passes g xs first es s0 a old new
  pub within : LeavesOnly old new (areas.Beside g.workers syncs old)

-- By these events, as of flushes and a sync, it went on in each run.
pub record Still (many : ℕ) (events : List Event) (v w : View) (was : Memory) (is : resident.Memory) (old new : Story) : Type 0 where
  pub given : w.given ≡ v.given
  pub seen : w.seen ≡ v.seen ++ events
  pub behind : (g : Opening) (xs : List Done) (first : List happening.Event) → Behind g xs first v → Behind g xs (first ++ events_of events) w
  pub unsaved : any is_save (events_of events) ≡ false
  pub around : areas.Around many (any is_sync (events_of events)) old new
  pub master : any is_sync (events_of events) ≡ false → is.master ≡ was.master
  pub no_earlier : IsNoEarlier (events_of events) was.master is.master
  pub logs : (w : ℕ) → 0 < w → w ≤ many → (g : Opening) (s : State) → Logs w g s (events_of events) (was.log w) (is.log w)
  pub goes : (g : Opening) (xs : List Done) (first : List happening.Event) → g.workers ≡ many → Behind g xs first v → (s0 : Crash) (a : Known) → Stands g (front xs ++ first) s0 a old → resident.IsOf g (resident_of was) a
      → StillGoes g xs first (events_of events) s0 a is old new

-- or it failed
pub record StillBreaks (many : ℕ) (syncs : Bool) (events : List happening.Event) (v : View) (was : Memory) (old new : Story) : Type 0 where
  pub around : areas.Around many syncs old new
  pub fails : (g : Opening) (xs : List Done) (first : List happening.Event) → g.workers ≡ many → Behind g xs first v → (s0 : Crash) (a : Known) → Stands g (front xs ++ first) s0 a old → resident.IsOf g (resident_of was) a
      → StillFails g xs first events s0 a syncs old new
