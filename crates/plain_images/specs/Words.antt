-- All words of an image as one list of pairs, and what undo makes of it.
use Rattle.std.specs.Prelude.{ℕ, zero, suc, Bool, not, ◌≤◌, ltb, List, [], ◌∷◌, if◌then◌else◌}
use Rattle.page_model.specs.Pairs.{Pair, put, keep}
use Rattle.page_model.specs.Nodes.{Format, Node, holds}
use Rattle.image_model.specs.Entries.{Entry}

-- keys rise strictly, from low on
abbrev pub IsRising : ℕ → List Pair → Type 0
IsRising low [] = Unit {0}
IsRising low (x ∷ xs) = (low ≤ x.key) × IsRising (suc x.key) xs

-- the words with those pairs of the leaf that are within its fences
abbrev pub leaf_onto : Node → List Pair → List Pair → List Pair
leaf_onto v [] ws = ws
leaf_onto v (x ∷ xs) ws = if holds v x.key then put x.key x.word (leaf_onto v xs ws) else leaf_onto v xs ws

-- those of the first n pages, where a later page stands for the keys that it holds
abbrev pub words_in : ℕ → (ℕ → Node) → List Pair
words_in zero node = []
words_in (suc p) node = leaf_onto (node p) (node p).pairs (keep (λ k. not (holds (node p) k)) (words_in p node))

abbrev pub undo_words : (Entry → Bool) → List Entry → List Pair → List Pair
undo_words lost [] ws = ws
undo_words lost (r ∷ z) ws = undo_words lost z (if lost r then put r.key r.before ws else ws)

-- those that are no tombstones
abbrev pub values_in : Format → List Pair → List Pair
values_in f [] = []
values_in f (x ∷ xs) = if ltb x.word f.dead then x ∷ values_in f xs else values_in f xs
