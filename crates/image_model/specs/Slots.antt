-- What lies in the slots and the logs of a disk, as far as seals fit, and which of it is clean.
use Rattle.std.specs.Prelude.{if◌then◌else◌, ◌≡◌, ◌<◌, ◌≤◌, ℕ, suc, Bool, ◌&&◌, ◌||◌, leb, ltb, ◌==◌, List, Option, Some, None}
use Rattle.map_model.specs.Lists.{Has}
use Rattle.page_model.specs.Nodes.{Format}
use Rattle.image_model.specs.Entries.{Entry, Contents}
use Rattle.image_model.specs.Images.{Image, IsSound, recovered_page}

-- A page slot whose seal fits and which is well formed.
pub record Slot : Type 0 where
  pub generation : ℕ
  pub page : Contents

-- What the bytes of an image show: of its master the generation and the floor; of each log the records of its longest run
-- of that generation, the newest first, and the generations of all blocks whose seals fit; of each page its two slots.
pub record Shown : Type 0 where
  pub format : Format
  pub logs : ℕ
  pub generation : ℕ
  pub floor : ℕ
  pub log : ℕ → List Entry
  pub sealed : ℕ → List ℕ
  pub slot : (page : ℕ) → (slot : ℕ) → Option Slot

-- a slot of the generation or an earlier one
abbrev pub valid : ℕ → Option Slot → Option Slot
valid generation (Some x) = if leb x.generation generation then Some x else None
valid generation None = None

-- by generation, then by number
abbrev pub is_older : Slot → Slot → Bool
is_older x y = ltb x.generation y.generation || ((x.generation == y.generation) && ltb x.page.gsn y.page.gsn)

abbrev pub newer_page : Option Slot → Option Slot → Option Contents
newer_page None None = None
newer_page (Some x) None = Some x.page
newer_page None (Some y) = Some y.page
newer_page (Some x) (Some y) = if is_older x y then Some y.page else Some x.page

-- a page's base: its valid slot of the greatest (generation, number), if it has one
abbrev pub base_of : Shown → ℕ → Option Contents
base_of s p = newer_page (valid s.generation (s.slot p 0)) (valid s.generation (s.slot p 1))

abbrev pub image_of : Shown → Image
image_of s = record { format = s.format; logs = s.logs; floor = s.floor; log = s.log; base = base_of s }

-- No rule is broken; no block is of a later generation than the master's; and a slot of a later generation is one that
-- recovery of this image writes: the recovered page, with the next generation.
pub record IsClean (s : Shown) : Type 0 where
  pub sound : IsSound (image_of s)
  pub blocks : (w generation : ℕ) → 0 < w → w ≤ s.logs → Has generation (s.sealed w) → generation ≤ s.generation
  pub slots : (p i : ℕ) (x : Slot) → p < s.format.pages → i < 2 → s.slot p i ≡ Some x → s.generation < x.generation →
      (x.generation ≡ suc s.generation) × (x.page ≡ recovered_page (image_of s) p)
