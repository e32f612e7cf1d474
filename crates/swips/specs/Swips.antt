-- The words of swips. A swip names a page by its frame where it is hot, else by its number.
use Rattle.std.specs.Prelude.{◌≡◌, ◌<◌, ◌≤◌, ◌+◌, ◌^◌, ◌⊎◌, ℕ}
use Rattle.page_model.specs.Limits.{frame_bit}
use Rattle.row_words.specs.core_state.States.{Place}
use Rattle.swips.specs.declared.swip.Swip.{Swip}
use Rattle.swips.specs.declared.swip.Swip.TheVariants.{Frame, Page}

-- a frame has the highest bit
abbrev pub word_of : Swip → ℕ
word_of (Frame f) = frame_bit + f
word_of (Page p) = p

-- the swip of page p where it stands at this place
abbrev pub swip_of : Place → ℕ → Swip
swip_of (Place.Hot f) p = Frame f
swip_of (Place.Cooling f e v) p = Page p
swip_of Place.Cold p = Page p

-- frames and pages have numbers below 2^32
abbrev pub number_of : Swip → ℕ
number_of (Frame f) = f
number_of (Page p) = p

-- the word spells the swip
pub record Spells (word : ℕ) (s : Swip) : Type 0 where
  pub spelled : word ≡ word_of s
  pub fits : number_of s < 2 ^ 32

-- the words that spell a swip
abbrev pub IsSpelling : ℕ → Type 0
IsSpelling word = (word < 2 ^ 32) ⊎ ((frame_bit ≤ word) × (word < frame_bit + 2 ^ 32))
