-- What a run can't have done, by what its records say of the disk that it began on.
use Rattle.std.specs.Prelude.{◌≡◌, ◌⊎◌, ◌<◌, ◌≤◌, ◌+◌, ◌^◌, ◌++◌, ◌||◌, ℕ, suc, Bool, true, false, List, [], ◌∷◌, length, Some}
use Rattle.map_model.specs.declared.call.Call.{Call}
use Rattle.map_model.specs.declared.call.Call.TheVariants as call
use Rattle.map_model.specs.declared.call.Answer.TheVariants as answer
use Rattle.map_model.specs.Lists.{Has, all, any}
use Rattle.map_model.specs.Maps.{MapAnswer}
use Rattle.map_model.specs.Journals.{Journal, Name, Txn, Wrote}
use Rattle.lean_shell.specs.core_calls.Deeds.{answered, asked}
use Rattle.lean_shell.specs.core_calls.Fronts.{Done}
use Rattle.lean_shell.specs.core_calls.Steps.{is_structure}
use Rattle.lean_shell.specs.image_model.Entries.{Entry, is_commit}
use Rattle.lean_shell.specs.image_model.Fair.{IsFair, after_writes}
use Rattle.lean_shell.specs.image_model.Images.{found, map_of}
use Rattle.lean_disk.specs.Area.{Write}
use Rattle.lean_disk.specs.Story.{Crash, Story, areas_of}
use Rattle.lean_shell.specs.disk_slots.declared.master.Master.{Master}
use Rattle.lean_shell.specs.disk_image.MasterSlots.{master_on}
use Rattle.lean_shell.specs.disk_image.Shown.{Areas, image_by}
use Rattle.lean_shell.specs.core_state.Openings.{Opening}
use Rattle.lean_shell.specs.core_state.Events.{Event, Mode}
use Rattle.lean_shell.specs.call_parts.Rooms.{is_paging, makes_sync}
use Rattle.lean_shell.specs.engine_front.Turns.{IsHindered, IsScanning}
use Rattle.lean_shell.specs.recovery.Opened.{IsGreatest}
use Rattle.lean_shell.specs.recovery.Telling.{TellsAll}
use Rattle.lean_shell.specs.script_lang.Lines.{Spells, line_of}
use Rattle.lean_shell.specs.script_lang.Text.{script_lines}
use Rattle.lean_shell.specs.script_lang.declared.line.Line.{Line}
use Rattle.lean_shell.specs.transcripts.Told.{ask}
use Rattle.lean_shell.specs.transcripts.Transcripts.{durables, first_lines}
use Rattle.lean_shell.specs.paged_engine.declared.opening.Size.{Size}
use Rattle.lean_shell.specs.lean_edge.Outside.{Feed, Held}
use Rattle.lean_shell.specs.Completeness.{Faults, IsComplete, IsReady, IsScript, NoneFailed}
use Rattle.lean_shell.specs.Headline.{Survives}
use Rattle.lean_shell.specs.Runs.{Counts, Executed}
use Rattle.lean_shell.specs.Starts.{IsRoomOfNext}
use Rattle.lean_shell.specs.Words.{Asks as AsksFor}
use Rattle.lean_shell.specs.declared.words.Command.TheVariants.{Run}

-- ## A crash loses nothing

-- none of these transactions writes the key
abbrev pub NoneWrites : Journal → (key : ℕ) → Type 0
NoneWrites j key = (t : Txn) → Has t j → Wrote t key → ⊥

-- A key that none of the kept transactions wrote, and so each that none wrote at all, has the value that it had on entry.
abbrev pub EveryKeyStands : Story → Type 0
EveryKeyStands s = (m : Master) (input output : List ℕ) (c : Crash) (x : Survives m s input output c) (key : ℕ) → NoneWrites x.by_then key ⊎ NoneWrites x.kept_ones key →
    map_of (image_by x.n c.image) key ≡ map_of (image_by m (areas_of s)) key

-- the call writes at the key
abbrev pub Writes : Call → ℕ → Type 0
Writes (call.Put k value) key = k ≡ key
Writes (call.Del k) key = k ≡ key
Writes _ key = ⊥

-- a line of the script asks for it, of one of so many sessions
pub record AsksToWrite (sessions : ℕ) (input : List ℕ) (key : ℕ) : Type 0 where
  pub text : List ℕ
  pub has : Has text (script_lines input)
  pub line : Line
  pub is : line_of sessions text ≡ Some line
  pub writes : Writes line.call key

-- A key that no line of the script asks to write has the value that it had on entry, wherever the crash falls.
abbrev pub EveryOtherKeyStands : Story → Type 0
EveryOtherKeyStands s = (m : Master) (input output : List ℕ) (c : Crash) (x : Survives m s input output c) (key : ℕ) → (AsksToWrite (length m.heads) input key → ⊥) →
    map_of (image_by x.n c.image) key ≡ map_of (image_by m (areas_of s)) key

-- among these records is the transaction's commit, with its number
pub record HasItsCommit (records : List Entry) (t : Txn) : Type 0 where
  pub entry : Entry
  pub has : Has entry records
  pub commit : is_commit entry.kind ≡ true
  pub session : entry.log ≡ t.session
  pub txn : entry.txn ≡ t.number
  pub at : entry.number ≡ t.at

-- A transaction of this name was committed by then, at or below the master's floor, or its commit is found in the image.
pub record IsFound (n : Master) (image : Areas) (by_then : Journal) (name : Name) : Type 0 where
  pub txn : Txn
  pub has : Has txn by_then
  pub session : txn.session ≡ name.session
  pub number : txn.number ≡ name.number
  pub commit : (txn.at ≤ n.floor) ⊎ HasItsCommit (found (image_by n image)) txn

-- So is each transaction that was told durable.
abbrev pub EveryDurableIsFound : Story → Type 0
EveryDurableIsFound s = (m : Master) (input output : List ℕ) (c : Crash) (x : Survives m s input output c) (name : Name) → Has name (durables (first_lines x.lines output)) →
    IsFound x.n c.image x.by_then name

-- ## The first calls

-- one of so many sessions
abbrev pub IsOneOf : (sessions session : ℕ) → Type 0
IsOneOf sessions session = (0 < session) × (session ≤ sessions)

-- The disk tells of its areas, with at most so many logs, and by its master no number is greater than this one, which is below the end of the clock.
pub record BeginsAt (most : ℕ) (s : Story) (base : ℕ) : Type 0 where
  pub tells : TellsAll most s
  pub m : Master
  pub master : master_on (areas_of s 0) ≡ Some m
  pub greatest : IsGreatest (image_by m (areas_of s)) base
  pub below : base < 2 ^ 62

-- A begin of a session of the disk that comes first is answered by number 1: it is not refused, whatever comes later.
abbrev pub EveryFirstBegin : Story → Type 0
EveryFirstBegin s = (size : Size) (base : ℕ) (counts : Counts) (later : List Done) (begin : Done) (x : BeginsAt size.sessions s base) → Executed size s counts (later ++ begin ∷ []) →
    IsOneOf (length x.m.heads) begin.outcome.session → asked begin.outcome.deed ≡ call.Begin → answered begin.outcome.deed ≡ answer.Begun 1

-- A commit of it behind that has the number behind the greatest.
abbrev pub EveryFirstCommit : Story → Type 0
EveryFirstCommit s = (size : Size) (base : ℕ) (counts : Counts) (later : List Done) (commit begin : Done) (x : BeginsAt size.sessions s base) → Executed size s counts (later ++ commit ∷ begin ∷ []) →
    IsOneOf (length x.m.heads) begin.outcome.session → commit.outcome.session ≡ begin.outcome.session → asked begin.outcome.deed ≡ call.Begin → asked commit.outcome.deed ≡ call.Commit →
    answered commit.outcome.deed ≡ answer.Committed 1 (suc base)

-- ## Calls that were not answered

-- a line of the script is such a call, of one of so many sessions
pub record Asks (sessions : ℕ) (Such : Call → Type 0) (input : List ℕ) : Type 0 where
  pub text : List ℕ
  pub has : Has text (script_lines input)
  pub session : ℕ
  pub call : Call
  pub spelled : Spells sessions text (record { session = session; call = call })
  pub such : Such call

abbrev pub IsPut : Call → Type 0
IsPut (call.Put key value) = Unit {0}
IsPut _ = ⊥

abbrev pub IsGet : Call → Type 0
IsGet (call.Get key) = Unit {0}
IsGet _ = ⊥

abbrev pub IsDel : Call → Type 0
IsDel (call.Del key) = Unit {0}
IsDel _ = ⊥

abbrev pub IsScan : Call → Type 0
IsScan (call.Scan from to) = Unit {0}
IsScan _ = ⊥

abbrev pub IsAbort : Call → Type 0
IsAbort call.Abort = Unit {0}
IsAbort _ = ⊥

-- a change is put back
abbrev pub is_back : Event → Bool
is_back (Event.Put_back w p) = true
is_back _ = false

-- a lock row is taken with others
abbrev pub takes_shared : Event → Bool
takes_shared (Event.Lock w i Mode.Shared) = true
takes_shared _ = false

-- so it may be where a key is looked for: a page may be moved for that, and logs be flushed
abbrev pub is_look : Event → Bool
is_look e = takes_shared e || is_paging e

-- a scan passes a gap
abbrev pub passes_gap : Event → Bool
passes_gap (Event.Next w p k (MapAnswer.Gap high)) = true
passes_gap _ = false

-- so it may be where keys are looked for, one behind another
abbrev pub is_walk : Event → Bool
is_walk e = passes_gap e || is_look e

-- Where no line is a put or a del, it leaves no change of the tree; where none is an abort and the newest call met no conflict, nothing that is put back; where none is
-- a put, a del or an abort and it met none, what may be where keys are looked for, one behind another; where none is a scan either, and none goes on, what may be where one
-- is looked for; and where none is a get either, logs were flushed alone.
pub record StoppedLaws (sessions : ℕ) (input : List ℕ) (heard : List Done) (es : List Event) : Type 0 where
  pub structure : (Asks sessions IsPut input → ⊥) → (Asks sessions IsDel input → ⊥) → any is_structure es ≡ false
  pub backs : (Asks sessions IsAbort input → ⊥) → (IsHindered heard → ⊥) → any is_back es ≡ false
  pub walks : (Asks sessions IsPut input → ⊥) → (Asks sessions IsDel input → ⊥) → (Asks sessions IsAbort input → ⊥) → (IsHindered heard → ⊥) → all is_walk es ≡ true
  pub looks : (Asks sessions IsPut input → ⊥) → (Asks sessions IsDel input → ⊥) → (Asks sessions IsScan input → ⊥) → (Asks sessions IsAbort input → ⊥) → (IsHindered heard → ⊥) → (IsScanning heard → ⊥) → all is_look es ≡ true
  pub for_sync : (Asks sessions IsPut input → ⊥) → (Asks sessions IsGet input → ⊥) → (Asks sessions IsDel input → ⊥) → (Asks sessions IsScan input → ⊥) → (Asks sessions IsAbort input → ⊥) → (IsHindered heard → ⊥) → (IsScanning heard → ⊥) → all makes_sync es ≡ true

abbrev pub EveryStoppedCall : Type 0
EveryStoppedCall = (input : List ℕ) (g : Opening) (heard : List Done) (es : List Event) → IsRoomOfNext input g heard es → StoppedLaws g.workers input heard es

-- ## A line that is left out

-- An outcome of a run on this disk is the answer to what the line asks.
pub record HasItsAnswer (size : Size) (s : Story) (text : List ℕ) : Type 0 where
  pub counts : Counts
  pub calls : List Done
  pub executed : Executed size s counts calls
  pub it : Done
  pub has : Has it calls
  pub asks : text ≡ ask it.outcome.session (asked it.outcome.deed)

-- The disk was opened, no line was refused, and none was left out.
pub record NothingLacks (size : Size) (status : ℕ) (s : Story) (input : List ℕ) : Type 0 where
  pub opened : status ≡ 7 → ⊥
  pub accepted : status ≡ 3 → ⊥
  pub each : status ≡ 0 → (text : List ℕ) → Has text (script_lines input) → HasItsAnswer size s text

-- So it is of a run of a script in the grammar on a disk that is ready, where source, sink and disk did not fail.
abbrev pub EveryLineIsAnswered : (s0 s1 : Story) → Type 0
EveryLineIsAnswered s0 s1 = (words : List (List ℕ)) (status : ℕ) (feed : Feed) (held0 held1 : Held) (before now : Faults) → (NoneFailed before now → IsComplete words status s0 s1 feed held0 held1 before now) → NoneFailed before now →
    (size : Size) (m : Master) → AsksFor words (Run size) → IsReady size.sessions m s0 → IsScript (length m.heads) feed before.source now.source → NothingLacks size status s0 feed.left

-- ## What a disk holds

-- What a read gives of an area after writes that are within it is a fair image, whatever their places and lengths: a write of several slots or
-- blocks, or several writes of one, leave no image that is not.
abbrev pub EveryReadIsFair : (size : ℕ) → (List ℕ → Type 0) → Type 0
EveryReadIsFair size IsSealed = (first : List ℕ) (writes : List Write) → ((w : Write) → Has w writes → w.0 + length w.1 ≤ length first) → IsFair size IsSealed first writes (after_writes first writes)
