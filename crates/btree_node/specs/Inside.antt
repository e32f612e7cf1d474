-- Words of private functions: tests of words, places of keys, and moves of words.
use Rattle.std.specs.Prelude.{◌≡◌, ℕ, ◌+◌, ◌-◌, ◌<◌, ◌≤◌, ◌==◌, not, replicate, suc, nat_lt, nat_le, List, [], ◌∷◌, ◌++◌, length, drop, take, Bool, true, ◌&&◌, None, if◌then◌else◌}
use Rattle.page_model.specs.Pairs.{Pair, find, is_in}
use Rattle.page_model.specs.Needs.{key_at}
use Rattle.page_model.specs.Page.{Page}

abbrev pub all_zero : List ℕ → Bool
all_zero [] = true
all_zero (x ∷ xs) = (x == 0) && all_zero xs

-- the keys of the pairs in words rise strictly, from low on and below high
abbrev pub rises : ℕ → ℕ → List ℕ → Bool
rises low high [] = true
rises low high (k ∷ []) = nat_le low k && (nat_lt k high && true)
rises low high (k ∷ w ∷ ws) = nat_le low k && (nat_lt k high && rises (k + 1) high ws)

abbrev pub pair : ℕ → ℕ → Pair
pair key word = record { key = key; word = word }

-- the place of a key: how many keys stand before it
abbrev pub place : ℕ → List Pair → ℕ
place k [] = 0
place k (x ∷ xs) = if nat_lt x.key k then suc (place k xs) else 0

-- the pair i has the key
pub record IsAt (k : ℕ) (pairs : List Pair) (i : ℕ) : Type 0 where
  pub before : i ≡ place k pairs
  pub within : i < length pairs
  pub key : key_at i pairs ≡ k

-- no pair has the key, and i keys stand before it
pub record IsGap (k : ℕ) (pairs : List Pair) (i : ℕ) : Type 0 where
  pub before : i ≡ place k pairs
  pub within : i ≤ length pairs
  pub none : find k pairs ≡ None

-- a key that is none of these stays
abbrev pub stays : List ℕ → ℕ → Bool
stays keys k = not (is_in k keys)

-- the first words, then these, then zeros up to 126
abbrev pub ended : ℕ → List ℕ → List ℕ → List ℕ
ended at ws pairs = take at ws ++ (pairs ++ replicate (126 - (at + length pairs)) 0)

-- the page with its first pairs alone, and this high fence
abbrev pub shortened : Page → ℕ → ℕ → Page
shortened p kept high = record p { node = record p.node { high = high; pairs = take kept p.node.pairs } }

-- words with a gap of two from a place on: those from there up to `end` stand two further
abbrev pub spread : List ℕ → ℕ → ℕ → List ℕ
spread ws from end = take (from + 2) ws ++ (drop from (take end ws) ++ drop (end + 2) ws)
