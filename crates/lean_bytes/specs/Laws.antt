-- What is written is read, and what is read is what was written.
use Rattle.std.specs.Prelude.{◌≡◌, ℕ, ◌*◌, ◌^◌, ◌<◌, ◌≤◌, List, ◌++◌, length, take}
use Rattle.lean_bytes.specs.Numbers.{number_bytes, number_of, words_bytes, AreBytes, AreWords}
use Rattle.lean_bytes.specs.Seals.{seal_of}

-- of numbers of n bytes
pub record NumberLaws (n : ℕ) : Type 0 where
  pub long : (x : ℕ) → length (number_bytes n x) ≡ n
  pub read : (x : ℕ) (rest : List ℕ) → x < 256 ^ n → number_of n (number_bytes n x ++ rest) ≡ x
  pub written : (bytes : List ℕ) → n ≤ length bytes → AreBytes bytes → number_bytes n (number_of n bytes) ≡ take n bytes
  pub fits : (bytes : List ℕ) → AreBytes bytes → number_of n bytes < 256 ^ n

abbrev pub EveryNumber : Type 0
EveryNumber = (n : ℕ) → NumberLaws n

-- of words, one after the other
pub record WordLaws (words : List ℕ) : Type 0 where
  pub long : length (words_bytes words) ≡ 8 * length words
  -- words that have the same bytes are the same
  pub one : (others : List ℕ) → length words ≡ length others → AreWords words → AreWords others → words_bytes words ≡ words_bytes others → words ≡ others

abbrev pub EveryWord : Type 0
EveryWord = (words : List ℕ) → WordLaws words

-- a seal has sixteen bytes
abbrev pub EverySeal : Type 0
EverySeal = (tag bytes : List ℕ) → length (seal_of tag bytes) ≡ 16
