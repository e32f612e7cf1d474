-- The values among a leaf's first pairs.
use Rattle.std.specs.Prelude.{◌^◌, ℕ, zero, suc, ltb, List, [], ◌∷◌, if◌then◌else◌}
use Rattle.page_model.specs.Pairs.{Pair}

-- how many of the first n pairs have no tombstone
abbrev pub values_of : (n : ℕ) → List Pair → ℕ
values_of zero xs = 0
values_of (suc n) [] = 0
values_of (suc n) (x ∷ xs) = if ltb x.word (2 ^ 63) then suc (values_of n xs) else values_of n xs
