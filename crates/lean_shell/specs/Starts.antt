-- What stands of a run's calls on the disk that it leaves.
use Rattle.std.specs.Prelude.{◌≡◌, ◌≤◌, ◌++◌, ◌+◌, ◌<◌, ◌%◌, ℕ, false, List, ◌∷◌, length, Option, Some, None}
use Rattle.buffered_engine.specs.image_model.Entries.{Contents, Entry}
use Rattle.buffered_engine.specs.image_model.Slots.{base_of}
use Rattle.lean_disk.specs.Story.{Crash, Story, areas_of}
use Rattle.buffered_engine.specs.disk_slots.declared.master.Master.{Master}
use Rattle.buffered_engine.specs.disk_image.MasterSlots.{master_on}
use Rattle.buffered_engine.specs.disk_image.Shown.{Areas, image_by, shown_by}
use Rattle.buffered_engine.specs.core_disk.Held.{IsVersion}
use Rattle.buffered_engine.specs.core_disk.MasterFloors.{IsFloorOf}
use Rattle.buffered_engine.specs.disk_runs.Masters.{IsNoEarlier}
use Rattle.buffered_engine.specs.recovery.Crashes.{IsNextOf}
use Rattle.buffered_engine.specs.recovery.Starts.{IsStartOf}
use Rattle.buffered_engine.specs.core_state.Openings.{Opening}
use Rattle.buffered_engine.specs.core_state.Events.{Event}
use Rattle.buffered_engine.specs.core_state.States.{State}
use Rattle.buffered_engine.specs.core_state.Steps.{state_after}
use Rattle.buffered_engine.specs.core_crash.Crashes.{from_head, log_of}
use Rattle.buffered_engine.specs.core_calls.Deeds.{answered, asked}
use Rattle.buffered_engine.specs.core_calls.Fronts.{Done, front, outcomes}
use Rattle.buffered_engine.specs.core_calls.Printed.{durable_lines, printed}
use Rattle.buffered_engine.specs.core_calls.Runs.{EachTells, Tells}
use Rattle.buffered_engine.specs.core_calls.Steps.{call_behind, hindered_in}
use Rattle.buffered_engine.specs.run_crashes.Lines.{FellIn, NoneStopped}
use Rattle.buffered_engine.specs.engine_trait.Limits.{limits}
use Rattle.buffered_engine.specs.call_parts.Rooms.{IsRoomFor}
use Rattle.buffered_engine.specs.paged_engine.declared.opening.Size.{Size}
use Rattle.map_model.specs.declared.call.Call.{Call}
use Rattle.map_model.specs.Journals.{Name}
use Rattle.map_model.specs.Lists.{Has}
use Rattle.map_model.specs.Outputs.{Reply, names}
use Rattle.map_model.specs.Pairings.{counted, in_turn, is_last, script_of}
use Rattle.script_lang.specs.Text.{script_lines}
use Rattle.transcripts.specs.Laws.{ComesNext}
use Rattle.transcripts.specs.Told.{ask, asked_lines, EachLineFits, LineFits}
use Rattle.transcripts.specs.Transcripts.{durables, first_lines, transcript}
use Rattle.script_run.specs.Runs.{calls_of}

-- An opening of an engine so large: at most how many sessions there are, how many changes a transaction makes, of how many pairs pages are joined, which lock row
-- a key has, and how many frames there are.
pub record IsOfSize (size : Size) (g : Opening) : Type 0 where
  pub few : g.workers ≤ size.sessions
  pub changes : g.changes ≡ 64
  pub joined : g.joined ≡ 45
  pub rows : (k : ℕ) → g.row_of k ≡ k % size.rows
  pub frames : g.frames ≡ size.frames

-- The master is the one that an opening of this disk writes, or one that the run writes behind it, by a sync among these events.
pub record IsOfOpening (m : Master) (area : Areas) (n : Master) : Type 0 where
  pub first : Master
  pub next : IsNextOf m area first
  pub events : List Event
  pub later : IsNoEarlier events first n

-- the script begins with the lines that ask these calls, for so many sessions
pub record HasLinesFor (sessions : ℕ) (input : List ℕ) (calls : List Done) : Type 0 where
  pub fits : EachLineFits sessions (script_of (calls_of calls))
  pub others : List (List ℕ)
  pub lines : script_lines input ≡ asked_lines (script_of (calls_of calls)) ++ others

-- A call behind these: the script begins with their lines and its, which is the last of theirs where it is the abort behind a conflict, or a further step of a scan;
-- and it is told by its events.
pub record IsNextCall (g : Opening) (group : ℕ) (input : List ℕ) (heard : List Done) (x : Done) : Type 0 where
  pub lines : HasLinesFor g.workers input (x ∷ heard)
  pub tells : Tells limits g group heard x

-- every call was answered
abbrev pub AllAnswered : Opening → List Done → List Event → Type 0
AllAnswered g = NoneStopped

-- what may be asked behind these: the script's next line; or what is due behind the newest, the abort of one that met a conflict, or the next step of a scan whose pair
-- was told
pub data IsAskedNext (sessions : ℕ) (input : List ℕ) (heard : List Done) (session : ℕ) (c : Call) : Type 0 where
  OfLine : LineFits sessions session c → ComesNext (script_of (calls_of heard)) (ask session c) input → IsAskedNext sessions input heard session c
  OfAbort : (y : Done) → (earlier : List Done) → heard ≡ y ∷ earlier → y.outcome.session ≡ session → hindered_in y.outcome.deed ≡ Some c → IsAskedNext sessions input heard session c
  OfScan : (y : Done) → (earlier : List Done) → heard ≡ y ∷ earlier → y.outcome.session ≡ session → asked y.outcome.deed ≡ c → is_last (answered y.outcome.deed) ≡ false → hindered_in y.outcome.deed ≡ None → IsAskedNext sessions input heard session c

-- Events of a call behind these that was not answered: they are what such a call may have done by then. A put made room for its key, a get and a del took
-- their key's row, a scan took rows and passed gaps, an abort put changes back, each with the pages that were moved for it; a sync flushed logs, and any other call did
-- nothing.
pub record IsRoomOfNext (input : List ℕ) (g : Opening) (heard : List Done) (es : List Event) : Type 0 where
  pub session : ℕ
  pub call : Call
  pub asks : IsAskedNext g.workers input heard session call
  pub room : IsRoomFor g heard session (call_behind (outcomes heard) call) es

-- The records of log w are the oldest of those that a run logs there, from the head on, with each that is flushed.
pub record IsOldestOf (s : State) (w : ℕ) (records : List Entry) : Type 0 where
  pub newer : List Entry
  pub left : List Entry
  pub logged : newer ++ left ≡ log_of w s.entries
  pub flushed : (r : Entry) → Has r (log_of w s.entries) → r.number ≤ s.flushed w → Has r left
  pub are : records ≡ from_head (s.head w) left

-- A page's base is a version that the run gave it, with a number up to the least flushed one: the start's, or one that was saved.
pub record IsBaseOf (opening : Opening) (es : List Event) (p : ℕ) (base : Option Contents) : Type 0 where
  pub page : Contents
  pub is : base ≡ Some page
  pub version : IsVersion opening es p page

-- By a master of the opening each page's base is one that the run gave it, and the records of each log are the oldest of those that a run of the core logs there: of the calls
-- of which the lines that were out tell, and of the first events of at most one more; or of such events of a call that was not answered. Those are
-- calls of this run.
pub record IsLeft (size : Size) (Such : Opening → List Done → List Event → Type 0) (AreIts : Opening → List Done → Option Done → Type 0) (m : Master) (s : Story) (input output : List ℕ) (c : Crash) : Type 0 where
  pub lines : ℕ
  pub notes : c.notes ≡ s.notes + lines
  pub n : Master
  pub counts : master_on (c.image 0) ≡ Some n
  pub of_opening : IsOfOpening m (areas_of s) n
  pub opening : Opening
  pub starts : IsStartOf m (areas_of s) opening
  pub of_size : IsOfSize size opening
  pub heard : List Done
  pub each : EachTells limits opening size.group heard
  pub told : transcript (length m.heads) input (first_lines lines output) ≡ counted (in_turn (calls_of heard))
  -- of the durable lines behind the newest of them some may be missing
  pub missing : List Name
  pub out : List Reply
  pub lines_are : durable_lines missing ++ out ≡ printed opening heard
  pub reported : durables (first_lines lines output) ≡ names out
  -- the one more, if there is one, and those of its events that happened
  pub next_one : Option Done
  pub is_next : (x : Done) → next_one ≡ Some x → IsNextCall opening size.group input heard x
  pub its : AreIts opening heard next_one
  pub behind : List Event
  pub fell : FellIn (Such opening heard) next_one behind
  -- so its sequence number is above that of the opening by no more than the syncs and cuts among these, and its floor is one of the core's state then
  pub written : of_opening.events ≡ front heard ++ behind
  pub floor : IsFloorOf opening (state_after opening (front heard ++ behind)) n.floor
  pub bases : (p : ℕ) → p < n.pages → IsBaseOf opening (front heard ++ behind) p (base_of (shown_by n c.image) p)
  pub logs : (w : ℕ) → 0 < w → w ≤ length m.heads → IsOldestOf (state_after opening (front heard ++ behind)) w ((image_by n c.image).log w)
