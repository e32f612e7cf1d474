-- Crashes in a run: what a disk tells of them, and what they leave before the disk is opened.
use Rattle.std.specs.Prelude.{◌≡◌, ◌⊎◌, ◌<◌, ◌+◌, ◌^◌, ℕ, List, length, IsTrue, Option, Some}
use Rattle.lean_disk.specs.Area.{Leaves}
use Rattle.lean_disk.specs.Story.{Crash, Story, Tells, areas_of}
use Rattle.buffered_engine.specs.disk_slots.declared.master.Master.{Master}
use Rattle.buffered_engine.specs.disk_image.Fair.{IsFairCrash}
use Rattle.buffered_engine.specs.disk_image.MasterSlots.{master_on}
use Rattle.buffered_engine.specs.disk_image.Shown.{Areas, image_by}
use Rattle.buffered_engine.specs.recovery.Opened.{IsGreatest}
use Rattle.buffered_engine.specs.recovery.Crashes.{ShowsStill}
use Rattle.buffered_engine.specs.recovery.Telling.{TellsAll}
use Rattle.transcripts.specs.Transcripts.{IsQuiet, first_lines}
use Rattle.buffered_engine.specs.paged_engine.declared.opening.Size.{Size}
use Rattle.buffered_engine.specs.core_calls.Fronts.{Done}
use Rattle.buffered_engine.specs.core_state.Openings.{Opening}
use Rattle.lean_shell.specs.Starts.{IsLeft, IsOfOpening, IsRoomOfNext}

-- It tells of the areas that an opening asks for, with at most so many logs, and, with none of them split off, of crashes.
pub record TellsCrashes (most : ℕ) (s : Story) : Type 0 where
  pub all : TellsAll most s
  pub counts : IsTrue s.counts

-- what a read gives now, as if a crash had left it
abbrev pub as_read : Story → Crash
as_read s = record { notes = s.notes; writes = λ a. (s.area a).writes; image = areas_of s }

-- The numbers on entry are far from their ends.
pub record IsYoung (m : Master) (s : Story) : Type 0 where
  pub sequence : m.sequence < 2 ^ 62
  pub generation : m.generation < 2 ^ 62
  pub notes : s.notes < 2 ^ 62

-- Nothing was written yet: so many lines were out, none of which answers a call or tells of a transaction, and a crash leaves what it might have
-- left at s.
pub record IsUnwritten (m : Master) (s : Story) (input output : List ℕ) (c : Crash) : Type 0 where
  pub lines : ℕ
  pub notes : c.notes ≡ s.notes + lines
  pub quiet : IsQuiet (length m.heads) input (first_lines lines output)
  pub writes : (a : ℕ) → Tells s a → c.writes a ≡ (s.area a).writes
  pub leaves : (a : ℕ) → Tells s a → Leaves (s.area a) (c.image a)

-- No line that was out answers a call or tells of a transaction, and the disk shows what it showed on entry, or what recovery gave of it.
pub record IsNoneTold (m : Master) (s : Story) (input output : List ℕ) (n : Master) (c : Crash) : Type 0 where
  pub lines : ℕ
  pub notes : c.notes ≡ s.notes + lines
  pub quiet : IsQuiet (length m.heads) input (first_lines lines output)
  pub shows : ShowsStill m (areas_of s) n c.image

-- The master that counts is that of the disk on entry, or the one that its opening writes, or one that a sync of the run writes; and what stands of the
-- run's calls, which are these.
pub record HasMasterOf (size : Size) (AreIts : Opening → List Done → Option Done → Type 0) (m : Master) (s : Story) (input output : List ℕ) (c : Crash) : Type 0 where
  pub n : Master
  pub counts : master_on (c.image 0) ≡ Some n
  pub is : (n ≡ m) ⊎ IsOfOpening m (areas_of s) n
  pub left : IsNoneTold m s input output n c ⊎ IsLeft size (IsRoomOfNext input) AreIts m s input output c

-- so it is in a crash that leaves a fair image, once something is written
abbrev pub MasterLeaves : (size : Size) (AreIts : Opening → List Done → Option Done → Type 0) (m : Master) (s : Story) (input output : List ℕ) (c : Crash) → Type 0
MasterLeaves size AreIts m s input output c = IsUnwritten m s input output c ⊎ (IsFairCrash (length m.heads) s c → HasMasterOf size AreIts m s input output c)

-- ## Numbers

-- By the master n, no number in these bytes is above those on entry by 2^60: neither its sequence number, nor the greatest of its floor, the records and the pages.
pub record IsNear (m : Master) (s : Story) (n : Master) (image : Areas) : Type 0 where
  pub sequence : n.sequence < m.sequence + 2 ^ 60
  pub greatest : (low high : ℕ) → IsGreatest (image_by m (areas_of s)) low → IsGreatest (image_by n image) high → high < low + 2 ^ 60
