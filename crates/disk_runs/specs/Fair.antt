-- Crashes that leave fair images of a disk with so many logs.
use Rattle.std.specs.Prelude.{◌≡◌, ◌↔◌, ◌<◌, ◌≤◌, ◌*◌, ◌++◌, ℕ, suc, List, length, codes}
use Rattle.master_store.specs.image_model.Fair.{IsFair}
use Rattle.lean_disk.specs.Area.{Write}
use Rattle.lean_disk.specs.Story.{Crash, Story, Tells}
use Rattle.master_store.specs.disk_slots.Slots.{IsSealed}
use Rattle.master_store.specs.log_block.Block as blocks
use Rattle.master_store.specs.disk_image.Fair.{IsFairCrash}

-- each slot whose seal fits holds the bytes that stood there after one of the writes since, or at first
abbrev pub IsFairMaster : (first : List ℕ) (older writes : List Write) (bytes : List ℕ) → Type 0
IsFairMaster first older writes bytes = (since : List Write) → writes ≡ since ++ older → IsFair 1024 (IsSealed (codes "LEANMAST")) first since bytes

-- of the pages' area
abbrev pub IsFairPages : (first : List ℕ) (older writes : List Write) (bytes : List ℕ) → Type 0
IsFairPages first older writes bytes = (since : List Write) → writes ≡ since ++ older → IsFair 1024 (IsSealed (codes "LEANPAGE")) first since bytes

-- and each block
abbrev pub IsFairLog : (first : List ℕ) (older writes : List Write) (bytes : List ℕ) → Type 0
IsFairLog first older writes bytes = (since : List Write) → writes ≡ since ++ older → IsFair 2048 blocks.IsSealed first since bytes

-- a write of one slot, whole
pub record IsSlotWrite (w : Write) : Type 0 where
  pub slot : ℕ
  pub place : w.0 ≡ 1024 * slot
  pub whole : length w.1 ≡ 1024

-- A crash leaves a fair image of a disk of so many logs: each slot and block whose seal fits holds the bytes that stood there after a write
-- since s0, or at s0, which is what a read gave then, as if a crash had left it.
pub record IsFairFrom (logs : ℕ) (s0 c : Crash) : Type 0 where
  pub masters : IsFairMaster (s0.image 0) (s0.writes 0) (c.writes 0) (c.image 0)
  pub pages : IsFairPages (s0.image 1) (s0.writes 1) (c.writes 1) (c.image 1)
  pub log : (w : ℕ) → 0 < w → w ≤ logs → IsFairLog (s0.image (suc w)) (s0.writes (suc w)) (c.writes (suc w)) (c.image (suc w))

-- it tells of the areas of the master, of the pages and of so many logs
abbrev pub TellsAll : ℕ → Story → Type 0
TellsAll logs s = (a : ℕ) → a ≤ suc logs → Tells s a

-- s0 is the disk as a read gave it where it told s
pub record IsAsRead (s : Story) (s0 : Crash) : Type 0 where
  pub image : (a : ℕ) → s0.image a ≡ (s.area a).bytes
  pub writes : (a : ℕ) → s0.writes a ≡ (s.area a).writes

-- So fairness since a story is fairness since what a read gave there.
abbrev pub EveryFair : (s : Story) → Type 0
EveryFair s = (logs : ℕ) (s0 c : Crash) → IsAsRead s s0 → IsFairCrash logs s c ↔ IsFairFrom logs s0 c
