-- How parts of a call come about, how one goes on behind another, and how a call ends by them. The stories of a law are parameters, since a law over all is too large.
use Rattle.std.specs.Prelude.{◌≡◌, ◌≤◌, ◌<◌, ◌++◌, ◌||◌, ℕ, Bool, true, false, List, [], ◌∷◌, length}
use Rattle.map_model.specs.Lists.{all, any}
use Rattle.map_model.specs.declared.call.Answer.{Answer}
use Rattle.map_model.specs.declared.call.Call.{Call}
use Rattle.session_state.specs.core_state.Openings.{Opening}
use Rattle.session_state.specs.core_state.Events as happening
use Rattle.session_state.specs.core_state.Local.{is_sync}
use Rattle.session_state.specs.core_state.Steps.{at_pages}
use Rattle.session_state.specs.core_calls.Deeds.{answered, asked}
use Rattle.session_state.specs.core_calls.Fronts.{Done, outcomes}
use Rattle.session_state.specs.core_calls.Runs.{Tells}
use Rattle.session_state.specs.core_calls.Steps.{call_behind}
use Rattle.session_state.specs.disk_runs.Quiet.{is_quiet}
use Rattle.lean_disk.specs.Moments.{CrashIn, Framed, LeavesOnly, OnlyReads}
use Rattle.lean_disk.specs.Story.{Story}
use Rattle.session_state.specs.log_calls.Calls.{Anything}
use Rattle.session_state.specs.log_calls.Wholes.{EndsInRecord}
use Rattle.session_state.specs.log_record.declared.record.Record.{Record}
use Rattle.page_calls.specs.declared.slots.Slot.{Slot}
use Rattle.session_state.specs.row_words.declared.event.Event.{Event}
use Rattle.session_state.specs.row_words.declared.event.Event.TheVariants as told
use Rattle.session_state.specs.row_words.Moments.{events_of}
use Rattle.session_state.specs.row_words.Openings.{opening}
use Rattle.session_state.specs.rows_trait.declared.view.View.{View}
use Rattle.session_state.specs.rows_trait.Views.{state}
use Rattle.session_state.specs.worker_log.Logs.{Log}
use Rattle.session_state.specs.engine_calls.Entries.{abort_record, change_record, commit_record}
use Rattle.session_state.specs.engine_trait.Calls as resident
use Rattle.session_state.specs.engine_trait.Calls.{is_half_done}
use Rattle.session_state.specs.engine_trait.Limits.{limits}
use Rattle.session_state.specs.Staging.{KeepsLog}
use Rattle.session_state.specs.Syncs.{FlushesOwn, flushes_of}
use Rattle.session_state.specs.Ties.{Behind, Ties}
use Rattle.session_state.specs.declared.session.Session.{Session}
use Rattle.call_parts.specs.Areas.{Apart, is_save}
use Rattle.call_parts.specs.Deeds.{Answers, Does, Fails}
use Rattle.call_parts.specs.Memory.{IsSame, Memory, with_own, with_slots}
use Rattle.call_parts.specs.Parts.{Failed, Part}
use Rattle.call_parts.specs.Rooms.{IsRoomFor, may_save, may_sync, most_of}
use Rattle.call_parts.specs.Steps.{Breaks, Enters, Flushes, Moves, Sees, SeesBetween, Stages, Still, StillBreaks, with_resident}

-- ## What is seen, and which records are entered

-- of events that are seen one after another
pub record SightLaws (first later : List Event) (v u w : View) : Type 0 where
  pub split : Sees (first ++ later) v w → SeesBetween first later v w
  pub join : Sees first v u → Sees later u w → Sees (first ++ later) v w

abbrev pub EverySight : Type 0
EverySight = (first later : List Event) (v u w : View) → SightLaws first later v u w

-- the records of a change and of an end
pub record EnterLaws (own : ℕ) (v : View) : Type 0 where
  pub change : (page key value : ℕ) (entry : Record) → entry ≡ change_record (opening v.given) (state v).core (at_pages (state v).core own ((state v).core.worker own) (page ∷ [])) page key value → Enters own (told.Change own page key value) v entry
  pub commit : (floor : ℕ) (entry : Record) → entry ≡ commit_record ((state v).core.worker own) floor → Enters own (told.End own true floor) v entry
  pub abort : (floor : ℕ) (entry : Record) → entry ≡ abort_record ((state v).core.worker own) floor → Enters own (told.End own false floor) v entry

abbrev pub EveryEnter : Type 0
EveryEnter = (own : ℕ) (v : View) → EnterLaws own v

-- ## Steps

-- of an engine of so many logs, from the view v on
pub record StepLaws (many : ℕ) (v w : View) (was : Memory) (old new : Story) : Type 0 where
  -- nothing happened
  pub none : Part many [] v v was was old old
  -- events that the disk does not see, and of which no log has a record
  pub rest : (es : List Event) → Sees es v w → all is_quiet (events_of es) ≡ true → Part many es v w was was old old
  -- for these the disk was read
  pub reads : (es : List Event) → Sees es v w → all is_quiet (events_of es) ≡ true → OnlyReads old new → Part many es v w was was old new
  -- pages were moved
  pub pages : (es : List Event) (slots : List Slot) → length was.slots ≡ was.master.pages → Moves many es v w was slots old new → Part many es v w was (with_slots slots was) old new
  pub breaks : (es : List happening.Event) → length was.slots ≡ was.master.pages → Breaks many es v was old new → Failed many true false es v was old new

-- of a session, on its log
pub record OwnLaws (many own : ℕ) (v w : View) (was : Memory) (log : Log) (old new : Story) : Type 0 where
  -- one event, which enters a record
  pub stage : (e : Event) → Stages own e v w (was.log own) log old new → Part many (e ∷ []) v w was (with_own own log was) old new
  -- a flush up to a number, as of a commit
  pub flush : (number : ℕ) → Flushes own number v w (was.log own) log old new → Part many (told.Flush own number ∷ []) v w was (with_own own log was) old new
  -- a flush of all that the log has, if it has something new
  pub whole : (x y : Session) → x.own ≡ own → EndsInRecord (state v).core own (was.log own) → FlushesOwn v w x y (was.log own) log old new → KeepsLog own (was.log own) old new
      → Part many (flushes_of own (was.log own)) v w was (with_own own log was) old new
  -- the log's device failed
  pub fails : KeepsLog own (was.log own) old new → Failed many false false [] v was old new

-- that touches no page, as a sync of all logs
pub record StillLaws (many : ℕ) (v w : View) (was : Memory) (old new : Story) : Type 0 where
  pub goes : (es : List Event) (is : resident.Memory) → Still many es v w was is old new → Part many es v w was (with_resident is was) old new
  pub breaks : (syncs : Bool) (es : List happening.Event) → StillBreaks many syncs es v was old new → Failed many false syncs es v was old new

-- In which areas a step works, where its device is called.
pub record AreaLaws (many : ℕ) (old new : Story) : Type 0 where
  pub reads : OnlyReads old new → Apart many false false old new
  pub pages : Framed 1 old new → LeavesOnly old new (CrashIn old 1 Anything) → Apart many true false old new
  -- it works in no more than these
  pub wider : (a b c d : Bool) → (a ≡ true → c ≡ true) → (b ≡ true → d ≡ true) → Apart many a b old new → Apart many c d old new

-- whatever its engine is
abbrev pub EveryStep : (old new : Story) → Type 0
EveryStep old new = (many : ℕ) (v w : View) (was : Memory) → StepLaws many v w was old new

abbrev pub EveryOwn : (old new : Story) → Type 0
EveryOwn old new = (many own : ℕ) (v w : View) (was : Memory) (log : Log) → 0 < own → own ≤ many → (opening v.given).workers ≡ many → OwnLaws many own v w was log old new

abbrev pub EveryStill : (old new : Story) → Type 0
EveryStill old new = (many : ℕ) (v w : View) (was : Memory) → (opening v.given).workers ≡ many → StillLaws many v w was old new

abbrev pub EveryArea : (old new : Story) → Type 0
EveryArea old new = (many : ℕ) → AreaLaws many old new

-- ## One behind another

-- From v a part went on to u, by what is in memory between; and what came behind it.
pub record JoinLaws (many : ℕ) (es : List Event) (v u w : View) (was between is : Memory) (old mid new : Story) : Type 0 where
  -- the view stands behind its events
  pub behind : Part many es v u was between old mid → (g : Opening) (xs : List Done) (first : List happening.Event) → Behind g xs first v → Behind g xs (first ++ events_of es) u
  pub join : (later : List Event) → Part many es v u was between old mid → Part many later u w between is mid new → Part many (es ++ later) v w was is old new
  pub failed : (saves syncs : Bool) (later : List happening.Event) → Part many es v u was between old mid → Failed many saves syncs later u between mid new
      → Failed many (any is_save (events_of es) || saves) (any is_sync (events_of es) || syncs) (events_of es ++ later) v was old new

abbrev pub EveryJoin : (old mid new : Story) → Type 0
EveryJoin old mid new = (many : ℕ) (es : List Event) (v u w : View) (was between is : Memory) → JoinLaws many es v u w was between is old mid new

-- A part is one whatever memory is written so, of as many logs as the rows have workers.
pub record MemoryLaws (many : ℕ) (v w : View) (was is was_too is_too : Memory) (old new : Story) : Type 0 where
  pub part : (es : List Event) → Part many es v w was is old new → Part many es v w was_too is_too old new
  pub failed : (saves syncs : Bool) (es : List happening.Event) → Failed many saves syncs es v was old new → Failed many saves syncs es v was_too old new

abbrev pub EveryMemory : (old new : Story) → Type 0
EveryMemory old new = (many : ℕ) (v w : View) (was is was_too is_too : Memory) → (opening v.given).workers ≡ many → IsSame many was was_too → IsSame many is is_too → MemoryLaws many v w was is was_too is_too old new

-- ## How a call ends

-- In a run in which session `own` asks this, or for 0 nobody does, from the view v on, with this in memory.
pub record EndLaws (many : ℕ) (g : Opening) (group : ℕ) (xs : List Done) (own : ℕ) (c : Call) (v : View) (was : Memory) (old new : Story) : Type 0 where
  -- it is answered by the events of a part, and so by this outcome
  pub does : (es : List Event) (w : View) (is : Memory) (x : Done) (a : Answer) → Part many es v w was is old new → x.events ≡ events_of es → x.outcome.session ≡ own → asked x.outcome.deed ≡ c → answered x.outcome.deed ≡ a
      → Tells limits g group xs x → Answers g xs x (was.log own) → (d : Does g group xs own c a was is old new) × (d.done ≡ x)
  -- its view is tied to one outcome more
  pub ties : (es : List Event) (w : View) (is : Memory) (x : Done) (half : Bool) → Part many es v w was is old new → x.events ≡ events_of es → Tells limits g group xs x → is_half_done own (x ∷ xs) ≡ half → Ties g group (x ∷ xs) own half w
  -- it fails, where these events have done nothing but that; or as the first part of one that would be answered so
  pub fails : (saves syncs : Bool) (es : List happening.Event) → Failed many saves syncs es v was old new → (saves ≡ true → may_save xs c ≡ true) → (syncs ≡ true → may_sync g xs own c ≡ true)
      → IsRoomFor g xs own (call_behind (outcomes xs) c) es → Fails g group xs own c was old new
  pub stops : (saves syncs : Bool) (es rest : List happening.Event) (x : Done) → Failed many saves syncs es v was old new → (saves ≡ true → may_save xs c ≡ true) → (syncs ≡ true → may_sync g xs own c ≡ true)
      → es ++ rest ≡ x.events → x.outcome.session ≡ own → asked x.outcome.deed ≡ c → Tells limits g group xs x → length x.events ≤ most_of c → Fails g group xs own c was old new

-- where no loads of the opening are left, of as many logs as the rows have workers
abbrev pub EveryEnd : (old new : Story) → Type 0
EveryEnd old new = (many : ℕ) (g : Opening) (group : ℕ) (xs : List Done) (own : ℕ) (half : Bool) (c : Call) (v : View) (was : Memory) (t : Ties g group xs own half v) → t.loads ≡ [] → (opening v.given).workers ≡ many → EndLaws many g group xs own c v was old new
