-- Which slot is a page's base.
use Rattle.std.specs.Prelude.{◌≡◌, ◌⊎◌, ◌<◌, ◌≤◌, ℕ, Some, None}
use Rattle.image_model.specs.Entries.{Contents}
use Rattle.image_model.specs.Slots.{Slot, Shown, base_of}

-- by generation, then by number
abbrev pub IsUpTo : Slot → Slot → Type 0
IsUpTo y x = (y.generation < x.generation) ⊎ ((y.generation ≡ x.generation) × (y.page.gsn ≤ x.page.gsn))

-- the page stands in a slot that is no later than the master's generation, and no such slot is newer
pub record IsNewest (s : Shown) (p : ℕ) (v : Contents) : Type 0 where
  pub place : ℕ
  pub slot : Slot
  pub there : s.slot p place ≡ Some slot
  pub is_page : slot.page ≡ v
  pub valid : slot.generation ≤ s.generation
  pub newest : (i : ℕ) (y : Slot) → i < 2 → s.slot p i ≡ Some y → y.generation ≤ s.generation → IsUpTo y slot

pub record BaseLaws (s : Shown) (p : ℕ) : Type 0 where
  pub some : (v : Contents) → base_of s p ≡ Some v → IsNewest s p v
  pub none : base_of s p ≡ None → (i : ℕ) (y : Slot) → i < 2 → s.slot p i ≡ Some y → s.generation < y.generation

abbrev pub EveryBase : Type 0
EveryBase = (s : Shown) (p : ℕ) → BaseLaws s p
