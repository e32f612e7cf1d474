-- The headline: whatever script runs, the point replies of committed transactions are those of one ordered map on which they ran singly in order of
-- commit numbers; and wherever a crash falls, in a device call too, recovery gives that map after a set of them, applied in that order, that holds every
-- one reported durable and each whose write a member read or overwrote.
use Rattle.std.specs.Prelude.{◌≡◌, ◌⊎◌, ◌++◌, ◌+◌, ℕ, true, List, ◌∷◌, length, IsTrue}
use Rattle.map_model.specs.declared.call.Call.{Call}
use Rattle.map_model.specs.declared.call.Call.TheVariants.{Commit}
use Rattle.map_model.specs.declared.call.Answer.TheVariants.{Committed}
use Rattle.map_model.specs.declared.call.Answered.{Answered}
use Rattle.map_model.specs.Lists.{Has}
use Rattle.map_model.specs.Laws.{IsFalling}
use Rattle.map_model.specs.Maps.{Map}
use Rattle.map_model.specs.Journals.{Journal, Name, Txn, Serial, IsClosed, after}
use Rattle.map_model.specs.Outputs.{Reply}
use Rattle.map_model.specs.Pairings.{in_turn, script_of}
use Rattle.map_model.specs.Transcripts.{journal}
use Rattle.buffered_engine.specs.image_model.Ends.{kept}
use Rattle.buffered_engine.specs.image_model.Entries.{Entry, is_commit}
use Rattle.buffered_engine.specs.image_model.Images.{map_of, won_by, found}
use Rattle.lean_disk.specs.Moments.{LeavesOnly}
use Rattle.lean_disk.specs.Story.{Crash, Story, areas_of}
use Rattle.buffered_engine.specs.disk_slots.declared.master.Master.{Master}
use Rattle.buffered_engine.specs.disk_image.Fair.{IsFairCrash}
use Rattle.buffered_engine.specs.disk_image.Masters.{IsOfRun}
use Rattle.buffered_engine.specs.disk_image.Shown.{image_by, DiskStandsFor, IsCleanDisk}
use Rattle.script_lang.specs.Replies.{reply_line}
use Rattle.script_lang.specs.Text.{script_lines}
use Rattle.transcripts.specs.Transcripts.{asked, transcript, durables, first_lines}
use Rattle.lean_shell.specs.Crashes.{IsNear, IsUnwritten, IsYoung}

-- The transaction of this record is in hand: it is found in the image, and behind the lines of the calls that were told the script's next line is its
-- commit, whose reply is not out yet. With that reply the lines tell of all.
pub record IsInHand (workers : ℕ) (input output : List ℕ) (records : List Entry) (all : Journal) : Type 0 where
  pub end : Entry
  pub has : Has end records
  pub commit : is_commit end.kind ≡ true
  -- the calls that were told, the newest first; the script's first lines ask them, and the next one the commit
  pub calls : List Answered
  pub told : transcript workers input output ≡ in_turn calls
  pub others : List (ℕ × Call)
  pub comes : asked workers (script_lines input) ≡ script_of calls ++ (end.log, Commit) ∷ others
  pub reply : List ℕ
  pub reply_is : reply ≡ reply_line (Reply.Answered end.log (Committed end.txn end.number))
  pub next : transcript workers input (output ++ reply) ≡ in_turn (record { session = end.log; call = Commit; answer = Committed end.txn end.number } ∷ calls)
  pub all_is : all ≡ journal (transcript workers input (output ++ reply))

-- Recovery of what a crash left gives the map after the kept: those up to the master's floor, and the winners.
pub record Survives (m : Master) (s : Story) (input output : List ℕ) (c : Crash) : Type 0 where
  pub lines : ℕ
  pub notes : c.notes ≡ s.notes + lines
  pub n : Master
  pub of_run : IsOfRun m n
  -- the committed transactions by then: those of which the lines that were out tell, and the one in hand, if there is one
  pub by_then : Journal
  pub by_then_is : (by_then ≡ journal (transcript (length m.heads) input (first_lines lines output))) ⊎ IsInHand (length m.heads) input (first_lines lines output) (found (image_by n c.image)) by_then
  pub falls : IsFalling by_then
  pub serial : Serial (map_of (image_by m (areas_of s))) by_then
  pub numbers : (r : Entry) → Has r (found (image_by n c.image)) → is_commit r.kind ≡ true → (t : Txn) → Has t by_then → t.session ≡ r.log → t.number ≡ r.txn → t.at ≡ r.number
  -- the kept are closed, and hold each that was reported durable
  pub kept_ones : Journal
  pub kept_is : kept_ones ≡ kept (length n.heads) n.floor (found (image_by n c.image)) by_then
  pub closed : IsClosed by_then kept_ones
  pub reported : (name : Name) → Has name (durables (first_lines lines output)) → (t : Txn) × Has t kept_ones × (t.session ≡ name.session) × (t.number ≡ name.number)
  -- the next run can open the disk, and begin
  pub near : IsNear m s n c.image
  -- the image is clean, and stands for the map after them, by its own winners
  pub clean : IsCleanDisk n c.image
  pub stands : DiskStandsFor n c.image (after (map_of (image_by m (areas_of s))) kept_ones) (won_by (image_by n c.image))

-- a crash in a run that began at s: nothing was written and answered yet, or a fair image survives
abbrev pub RunLeaves : (m : Master) (s : Story) (input output : List ℕ) (c : Crash) → Type 0
RunLeaves m s input output c = IsUnwritten m s input output c ⊎ (IsFairCrash (length m.heads) s c → Survives m s input output c)

-- Of a run on this script, with this output in the end, on a disk that told s0 and tells s1.
pub record Headline (s0 s1 : Story) (input output : List ℕ) : Type 0 where
  pub serial : (m : Master) (map : Map) (won : List Name) → DiskStandsFor m (areas_of s0) map won → Serial map (journal (transcript (length m.heads) input output))
  pub any_moment : IsTrue s0.counts → (m : Master) → IsCleanDisk m (areas_of s0) → IsYoung m s0 → LeavesOnly s0 s1 (RunLeaves m s0 input output)
