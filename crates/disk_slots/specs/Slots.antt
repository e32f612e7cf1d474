-- A slot: 126 words as bytes, and a seal over them under a tag.
use Rattle.std.specs.Prelude.{◌≡◌, ℕ, List, ◌++◌, length, drop, take}
use Rattle.lean_bytes.specs.Numbers.{words_bytes, AreWords}
use Rattle.lean_bytes.specs.Seals.{seal_of}

-- the bytes of a slot
unfoldable pub slot_of : List ℕ → List ℕ → List ℕ
slot_of tag words = words_bytes words ++ seal_of tag (words_bytes words)

-- the seal fits: of 1,024 bytes the last sixteen are the seal of the others
pub record IsSealed (tag bytes : List ℕ) : Type 0 where
  pub long : length bytes ≡ 1024
  pub seal : drop 1008 bytes ≡ seal_of tag (take 1008 bytes)

-- the bytes are the slot with these words
pub record HasWords (tag bytes words : List ℕ) : Type 0 where
  pub long : length words ≡ 126
  pub fit : AreWords words
  pub spelled : bytes ≡ slot_of tag words
