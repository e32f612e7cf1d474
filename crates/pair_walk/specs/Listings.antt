-- The pairs of a map, in rising order of keys.
use Rattle.std.specs.Prelude.{if◌then◌else◌, ◌≡◌, ◌<◌, ◌≤◌, ℕ, ltb, List, [], ◌∷◌}
use Rattle.map_model.specs.Maps.{Map, key_end}
use Rattle.page_model.specs.Pairs.{Pair, Rising, find}

-- these are the pairs with keys from low up to, not including, high
pub record Lists (map : Map) (low high : ℕ) (pairs : List Pair) : Type 0 where
  pub rising : Rising low pairs high
  pub all : (k : ℕ) → low ≤ k → k < high → find k pairs ≡ map k

-- these are all its pairs: their keys rise strictly, and each key has here what it has in the map
pub record ArePairsOf (map : Map) (pairs : List Pair) : Type 0 where
  pub rising : Rising 0 pairs key_end
  pub all : (k : ℕ) → find k pairs ≡ map k

-- the pairs whose words are values: those below the word of a tombstone
abbrev pub live : (dead : ℕ) → List Pair → List Pair
live dead [] = []
live dead (x ∷ xs) = if ltb x.word dead then x ∷ live dead xs else live dead xs
