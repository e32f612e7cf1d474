-- Which entries of a leaf a walk from a key on meets.
use Rattle.map_model.specs.Lists.{Has}
use Rattle.map_model.specs.Maps.{MapAnswer}
use Rattle.page_model.specs.Pairs.{Pair, Rising, find}
use Rattle.page_model.specs.Nodes.{Format}
use Rattle.core_commit.specs.core_state.Needs.{following}
use Rattle.std.specs.Prelude.{◌≡◌, ◌≤◌, ◌↔◌, ℕ, leb, ltb, List, [], ◌∷◌, None, if◌then◌else◌}

-- The keys, in their order, of the tombstones from the key on up to the first live pair, and of this pair.
abbrev pub met_keys : Format → ℕ → List Pair → List ℕ
met_keys f k [] = []
met_keys f k (x ∷ xs) = if leb k x.key then x.key ∷ (if ltb x.word f.dead then [] else met_keys f k xs) else met_keys f k xs

-- no further than the pair that follows, if one does
abbrev pub IsUpTo : MapAnswer → ℕ → Type 0
IsUpTo (MapAnswer.Pair at v) j = j ≤ at
IsUpTo _ j = Unit {0}

-- the key has an entry, from the walk's key on, and no further than the pair that follows
pub record IsMetIn (f : Format) (k : ℕ) (ps : List Pair) (high j : ℕ) : Type 0 where
  pub above : k ≤ j
  pub entry : find j ps ≡ None → ⊥
  pub before : IsUpTo (following f k ps high) j

-- these are the keys that are met
abbrev pub EveryWalk : Type 0
EveryWalk = (f : Format) (k low : ℕ) (ps : List Pair) (high j : ℕ) → Rising low ps high → Has j (met_keys f k ps) ↔ IsMetIn f k ps high j
