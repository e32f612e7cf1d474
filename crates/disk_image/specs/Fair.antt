-- Crashes that leave a fair image of a disk.
use Rattle.std.specs.Prelude.{◌≡◌, ◌<◌, ◌≤◌, ◌++◌, ℕ, suc, List, codes}
use Rattle.image_model.specs.Fair.{IsFair}
use Rattle.lean_disk.specs.Area.{Write}
use Rattle.lean_disk.specs.Story.{Crash, Story}
use Rattle.disk_slots.specs.Slots.{IsSealed}
use Rattle.log_block.specs.Block as blocks

-- Each slot and block of the master's area, of the pages' and of so many logs whose seal fits holds the bytes that stood there after a write since s,
-- or at s.
pub record IsFairCrash (logs : ℕ) (s : Story) (c : Crash) : Type 0 where
  pub masters : (since : List Write) → c.writes 0 ≡ since ++ (s.area 0).writes → IsFair 1024 (IsSealed (codes "LEANMAST")) (s.area 0).bytes since (c.image 0)
  pub pages : (since : List Write) → c.writes 1 ≡ since ++ (s.area 1).writes → IsFair 1024 (IsSealed (codes "LEANPAGE")) (s.area 1).bytes since (c.image 1)
  pub log : (w : ℕ) → 0 < w → w ≤ logs → (since : List Write) → c.writes (suc w) ≡ since ++ (s.area (suc w)).writes →
      IsFair 2048 blocks.IsSealed (s.area (suc w)).bytes since (c.image (suc w))
