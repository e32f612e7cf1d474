-- The image that formatting leaves.
use Rattle.std.specs.Prelude.{if◌then◌else◌, ◌≡◌, ◌<◌, ◌≤◌, ℕ, true, ◌==◌, [], Some, None}
use Rattle.page_model.specs.Nodes.{Format, Node, free}
use Rattle.image_model.specs.Entries.{Contents}
use Rattle.image_model.specs.Images.{StandsFor}
use Rattle.image_model.specs.Slots.{Slot, Shown, base_of, image_of, IsClean}

-- page 0 is an empty leaf with all keys within its fences; the others are free
abbrev pub formatted_node : Format → ℕ → Node
formatted_node f p = if p == 0 then record { live = true; level = 0; low = 0; high = f.top; pairs = [] } else free

abbrev pub formatted_page : Format → ℕ → Contents
formatted_page f p = record { gsn = 0; last = 0; node = formatted_node f p }

-- each page's base is a formatted one, no slot is of a later generation, and no log has a record or a sealed block
pub record IsFormatted (s : Shown) : Type 0 where
  pub pages : (p : ℕ) → p < s.format.pages → base_of s p ≡ Some (formatted_page s.format p)
  pub beyond : (p : ℕ) → s.format.pages ≤ p → base_of s p ≡ None
  pub slots : (p i : ℕ) (x : Slot) → p < s.format.pages → i < 2 → s.slot p i ≡ Some x → x.generation ≤ s.generation
  pub logs : (w : ℕ) → 0 < w → w ≤ s.logs → s.log w ≡ []
  pub sealed : (w : ℕ) → 0 < w → w ≤ s.logs → s.sealed w ≡ []

pub record FormattedLaws (s : Shown) : Type 0 where
  pub clean : IsClean s
  pub stands : StandsFor (image_of s) (λ _. None) []

abbrev pub EveryFormatted : Type 0
EveryFormatted = (s : Shown) → 0 < s.format.pages → IsFormatted s → FormattedLaws s
