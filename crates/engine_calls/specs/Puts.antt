-- A get, a put and a del. Before its own step a call may bring pages into frames, and miss; a change may make room in the tree.
use Rattle.std.specs.Prelude.{◌≡◌, ◌≤◌, ◌<◌, ℕ, Bool, true, false, List, [], ◌∷◌, ◌++◌, Option, None, Some}
use Rattle.run_crashes.specs.image_model.Entries.{Kind}
use Rattle.map_model.specs.declared.call.Call.{Call}
use Rattle.map_model.specs.declared.call.Call.TheVariants as call
use Rattle.map_model.specs.Lists.{any}
use Rattle.run_crashes.specs.core_state.Openings.{Opening}
use Rattle.run_crashes.specs.core_state.Events.{Event, Mode}
use Rattle.run_crashes.specs.core_state.Needs.{is_held_by, value_in}
use Rattle.run_crashes.specs.core_state.Steps.{AllMet, at_pages, state_after, write_entry}
use Rattle.lean_disk.specs.Story.{Crash, Story}
use Rattle.run_crashes.specs.log_record.declared.record.Record.{Record}
use Rattle.run_crashes.specs.disk_image.Records.{entry_of}
use Rattle.run_crashes.specs.worker_log.Logs.{Log}
use Rattle.run_crashes.specs.core_calls.Deeds.{Absent, Changed, Deed, Deleted, Got, marks_by}
use Rattle.run_crashes.specs.core_calls.Fronts.{Done, front, outcomes}
use Rattle.run_crashes.specs.core_calls.LogEvents.{IsPressed, SyncsWhere}
use Rattle.run_crashes.specs.core_calls.Marks.{is_half}
use Rattle.run_crashes.specs.core_calls.Refusals.{Limits}
use Rattle.run_crashes.specs.core_calls.Steps.{is_step, is_structure}
use Rattle.run_crashes.specs.disk_runs.Stands.{Known}
use Rattle.log_calls.specs.Calls.{StagesOn}
use Rattle.engine_calls.specs.Clauses.{Between, CallAnswers, CallStops, IsNewLine, OnLog}
use Rattle.engine_calls.specs.Parts.{Gone, behind_first}

-- session w takes the key's row, with other events before it and behind it
abbrev pub taking : Opening → (w key : ℕ) → Mode → (before between : List Event) → List Event
taking g w key mode before between = before ++ Event.Lock w (g.row_of key) mode ∷ between

-- no change of the session was put back
abbrev pub IsWhole : List Done → ℕ → Type 0
IsWhole xs w = is_half (marks_by w (outcomes xs)) ≡ false

-- ## A read

-- behind these events session w reads the key in a leaf, and finds this
abbrev pub read_by : Deed → List Event → (w page key : ℕ) → Option ℕ → Done
read_by d first w page key value = record { outcome = record { session = w; deed = d; unsaid = [] }; events = first ++ Event.Read w page key value ∷ [] }

-- What the body shows of call c: it is asked on a new line; to take the key's row is its one step, the tree stays as it is, and at the logs there are whole syncs alone, each where a page that
-- the call needs finds no frame; the need of each event is met, the leaf says this of the key, and no abort is half done.
pub record IsRead (g : Opening) (xs : List Done) (c : Call) (mode : Mode) (before between : List Event) (w page key : ℕ) (value : Option ℕ) : Type 0 where
  pub line : IsNewLine (outcomes xs)
  pub before_steps : any is_step before ≡ false
  pub between_steps : any is_step between ≡ false
  pub structure : any is_structure (taking g w key mode before between) ≡ false
  pub syncs : SyncsWhere (IsPressed g c) g (state_after g (front xs)) false (taking g w key mode before between)
  pub met : AllMet g (state_after g (front xs)) (taking g w key mode before between ++ Event.Read w page key value ∷ [])
  pub value_is : value ≡ value_in g.format ((behind_first g xs (taking g w key mode before between)).page page).node key
  pub whole : IsWhole xs w

-- its row is held alone there
abbrev pub is_alone : Opening → List Done → List Event → (w key : ℕ) → Bool
is_alone g xs first w key = is_held_by ((behind_first g xs first).row (g.row_of key)).holder w

-- Where the disk stands for the events before it, all clauses hold: the read itself touches no device. It is a get, or a del that finds its
-- key absent, with its row held alone.
pub record ReadLaws (l : Limits) (g : Opening) (group : ℕ) (xs : List Done) (s0 : Crash) (k : Known) (before between : List Event) (w page key : ℕ) (old new : Story) : Type 0 where
  pub get : (a : Known) (value : Option ℕ) → let first = taking g w key Mode.Shared before between in Gone g xs first s0 k old a new → IsRead g xs (call.Get key) Mode.Shared before between w page key value
      → CallAnswers l g group xs (read_by (Got key value (is_alone g xs first w key)) first w page key value) s0 k old new
  pub absent : (a : Known) → let first = taking g w key Mode.Alone before between in Gone g xs first s0 k old a new → IsRead g xs (call.Del key) Mode.Alone before between w page key None → is_alone g xs first w key ≡ true
      → CallAnswers l g group xs (read_by (Absent key) first w page key None) s0 k old new

-- in each run
abbrev pub EveryGet : (old new : Story) → Type 0
EveryGet old new = (l : Limits) (g : Opening) (group : ℕ) (xs : List Done) (s0 : Crash) (k : Known) (before between : List Event) (w page key : ℕ) → Between l g group xs s0 k old
    → ReadLaws l g group xs s0 k before between w page key old new

-- ## A change

-- behind these events session w changes the key in a leaf to this word
abbrev pub changed_by : Deed → List Event → (w page key word : ℕ) → Done
changed_by d first w page key word = record { outcome = record { session = w; deed = d; unsaid = [] }; events = first ++ Event.Change w page key word ∷ [] }

-- What the body shows of call c: it is asked on a new line; to take the key's row is its one step, beside which it may make room, and at the logs there are whole syncs alone, so placed too; the need
-- of each event is met, the leaf had this value, r is the change's record, and no abort is half done.
pub record IsWrite (g : Opening) (xs : List Done) (c : Call) (before between : List Event) (w page key word : ℕ) (was : Option ℕ) (r : Record) : Type 0 where
  pub line : IsNewLine (outcomes xs)
  pub low : 0 < w
  pub high : w ≤ g.workers
  pub before_steps : any is_step before ≡ false
  pub between_steps : any is_step between ≡ false
  pub syncs : SyncsWhere (IsPressed g c) g (state_after g (front xs)) false (taking g w key Mode.Alone before between)
  pub met : AllMet g (state_after g (front xs)) (taking g w key Mode.Alone before between ++ Event.Change w page key word ∷ [])
  pub was_is : was ≡ value_in g.format ((behind_first g xs (taking g w key Mode.Alone before between)).page page).node key
  pub whole : IsWhole xs w
  pub entry : let s = behind_first g xs (taking g w key Mode.Alone before between) in entry_of w r ≡ write_entry g Kind.Change s w (at_pages s w (s.worker w) (page ∷ [])) page key word

-- What follows from what its log says, where the disk stands for the events before the change.
pub record WriteLaws (l : Limits) (g : Opening) (group : ℕ) (xs : List Done) (s0 : Crash) (k : Known) (w : ℕ) (r : Record) (a : Known) (x : Done) (old mid new : Story) : Type 0 where
  -- the record was staged
  pub answered : (log : Log) → StagesOn w r (a.log w) log mid new → OnLog w (a.log w) mid new → CallAnswers l g group xs x s0 k old new
  -- it was not
  pub unstaged : OnLog w (a.log w) mid new → CallStops l g group xs s0 k old new

-- It is a put of a word that marks no deletion, or a del of a key that is there.
pub record PutLaws (l : Limits) (g : Opening) (group : ℕ) (xs : List Done) (s0 : Crash) (k : Known) (before between : List Event) (w page key : ℕ) (old mid new : Story) : Type 0 where
  pub put : (a : Known) (value : ℕ) (was : Option ℕ) (r : Record) → let first = taking g w key Mode.Alone before between in Gone g xs first s0 k old a mid → IsWrite g xs (call.Put key value) before between w page key value was r
      → value < g.format.dead → WriteLaws l g group xs s0 k w r a (changed_by (Changed key value was) first w page key value) old mid new
  pub del : (a : Known) (was : ℕ) (r : Record) → let first = taking g w key Mode.Alone before between in Gone g xs first s0 k old a mid → IsWrite g xs (call.Del key) before between w page key g.format.dead (Some was) r
      → WriteLaws l g group xs s0 k w r a (changed_by (Deleted key was) first w page key g.format.dead) old mid new

-- in each run
abbrev pub EveryPut : (old mid new : Story) → Type 0
EveryPut old mid new = (l : Limits) (g : Opening) (group : ℕ) (xs : List Done) (s0 : Crash) (k : Known) (before between : List Event) (w page key : ℕ) → Between l g group xs s0 k old
    → PutLaws l g group xs s0 k before between w page key old mid new
