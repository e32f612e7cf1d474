-- Words and bytes of a list, whatever its numbers are.
use Rattle.std.specs.Prelude.{ℕ, zero, suc, Bool, true, ◌&&◌, ltb, ◌^◌, List, [], ◌∷◌, drop}
use Rattle.lean_bytes.specs.Numbers.{number_of}

-- the first n words
unfoldable pub words_in : ℕ → List ℕ → List ℕ
words_in zero bytes = []
words_in (suc n) bytes = number_of 8 bytes ∷ words_in n (drop 8 bytes)

-- each is a number below 2 ^ 64
abbrev pub are_words : List ℕ → Bool
are_words [] = true
are_words (x ∷ xs) = ltb x (2 ^ 64) && are_words xs
