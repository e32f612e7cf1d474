-- Words of private functions.
use Rattle.std.specs.Prelude.{◌≡◌, ◌<◌, ◌^◌, ◌==◌, ℕ, false, List, length, map, Option, None, Some, if◌then◌else◌}
use Rattle.std.specs.List.{zip}
use Rattle.page_model.specs.Nodes.{Node}
use Rattle.cold_pages.specs.declared.kept.TheConstants.{FREE, NOBODY}
use Rattle.cold_pages.specs.declared.kept.Kept.{Kept}

-- a number, or one that stands for none
abbrev pub or_none : ℕ → Option ℕ → ℕ
or_none none None = none
or_none none (Some n) = n

abbrev pub unless : ℕ → ℕ → Option ℕ
unless none n = if n == none then None else Some n

abbrev pub byte_of : Option ℕ → ℕ
byte_of level = or_none FREE level

abbrev pub kept_level : ℕ → Option ℕ
kept_level byte = unless FREE byte

abbrev pub word_of : Option ℕ → ℕ
word_of parent = or_none NOBODY parent

abbrev pub parent_of : ℕ → Option ℕ
parent_of word = unless NOBODY word

-- what seven words say of a page
abbrev pub row : ℕ × (ℕ × (ℕ × (ℕ × (ℕ × (ℕ × ℕ))))) → Kept
row (gsn, (last, (level, (low, (high, (count, parent)))))) = record { gsn = gsn; last = last; level = kept_level level; low = low; high = high; count = count; parent = parent_of parent }

abbrev pub rows : (gsns lasts levels lows highs counts parents : List ℕ) → List Kept
rows gsns lasts levels lows highs counts parents = map row (zip gsns (zip lasts (zip levels (zip lows (zip highs (zip counts parents))))))

-- one word of each kind a page
pub record AreEven (gs ls vs ms hs cs ps : List ℕ) : Type 0 where
  pub few : length gs < 2 ^ 32
  pub lasts : length ls ≡ length gs
  pub levels : length vs ≡ length gs
  pub lows : length ms ≡ length gs
  pub highs : length hs ≡ length gs
  pub counts : length cs ≡ length gs
  pub parents : length ps ≡ length gs

-- a page that is not live, and says nothing else
pub record IsFree (v : Node) : Type 0 where
  pub live : v.live ≡ false
  pub level : v.level ≡ 0
  pub pairs : length v.pairs ≡ 0
