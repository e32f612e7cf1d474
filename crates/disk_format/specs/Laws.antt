-- What a new disk is: clean, and of the empty map.
use Rattle.std.specs.Prelude.{◌≤◌, ◌<◌, ℕ, suc, List, [], None}
use Rattle.master_store.specs.image_model.Fair.{piece}
use Rattle.master_store.specs.log_block.Block.{IsSealed}
use Rattle.master_store.specs.disk_image.Shown.{DiskStandsFor, IsCleanDisk}
use Rattle.disk_format.specs.Formatted.{IsFormatted}
use Rattle.disk_format.specs.Fresh.{first_master}
use Rattle.disk_format.specs.declared.shape.Shape.{Shape}

-- a shape that words can ask for
pub record IsShape (shape : Shape) : Type 0 where
  pub workers : (1 ≤ shape.workers) × (shape.workers ≤ 16)
  pub pages : (16 ≤ shape.pages) × (shape.pages ≤ 4096)
  pub blocks : (64 ≤ shape.blocks) × (shape.blocks ≤ 4096)

-- no block of a ring of so many is sealed
abbrev pub HasNoBlock : ℕ → List ℕ → Type 0
HasNoBlock blocks bytes = (p : ℕ) → p < blocks → IsSealed (piece 2048 p bytes) → ⊥

-- the disk is clean, and stands for the empty map and no transaction
pub record IsNew (shape : Shape) (area : ℕ → List ℕ) : Type 0 where
  pub clean : IsCleanDisk (first_master shape) area
  pub stands : DiskStandsFor (first_master shape) area (λ _. None) []

-- So is each disk as `format` leaves it, where no log has a block yet.
abbrev pub EveryNewDisk : Type 0
EveryNewDisk = (shape : Shape) (area : ℕ → List ℕ) → IsShape shape → IsFormatted shape area → ((w : ℕ) → 0 < w → w ≤ shape.workers → HasNoBlock shape.blocks (area (suc w))) → IsNew shape area
