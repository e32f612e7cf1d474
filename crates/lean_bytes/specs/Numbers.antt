-- Numbers as bytes, the lowest first. A list of bytes is a list of numbers below 256.
use Rattle.std.specs.Prelude.{ℕ, ◌^◌, ◌<◌, List, slice_index, drop}
use Rattle.std.specs.List.{flat_map}
use Rattle.byteorder.specs.Endian.{little_bytes, little_number}

-- the n bytes of a number
unfoldable pub number_bytes : ℕ → ℕ → List ℕ
number_bytes n x = little_bytes n x

-- the number in the first n bytes
unfoldable pub number_of : ℕ → List ℕ → ℕ
number_of n bytes = little_number n bytes

-- the number in the n bytes from a place on
abbrev pub number_at : ℕ → ℕ → List ℕ → ℕ
number_at n at bytes = number_of n (drop at bytes)

-- the bytes of a word, a number below 2 ^ 64
abbrev pub word_bytes : ℕ → List ℕ
word_bytes x = number_bytes 8 x

-- the bytes of words, one after the other
unfoldable pub words_bytes : List ℕ → List ℕ
words_bytes words = flat_map word_bytes words

-- each is a byte
pub record AreBytes (bytes : List ℕ) : Type 0 where
  pub byte : (k : ℕ) → slice_index bytes k < 256

-- each is a word
pub record AreWords (words : List ℕ) : Type 0 where
  pub word : (k : ℕ) → slice_index words k < 2 ^ 64
