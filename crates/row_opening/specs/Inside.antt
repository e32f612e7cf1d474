-- Words of private functions: the words of a frame row, and of a worker.
use Rattle.std.specs.Prelude.{◌≡◌, ◌<◌, ◌≤◌, ◌+◌, ◌*◌, ◌^◌, ◌⊎◌, ℕ, zero, suc, ltb, true, List, [], ◌∷◌, ◌++◌, Option, Some, None, length, replicate, slice_index, if◌then◌else◌}
use Rattle.page_model.specs.Limits.{frame_bit}
use Rattle.page_model.specs.Pairs.{Pair}
use Rattle.page_model.specs.Page.{Page, with_pairs}
use Rattle.rows_trait.specs.btree_node.Words.{words_of, pair_words}
use Rattle.swips.specs.Hints.{mark}

-- each word names the frame of the page's own number
abbrev pub linked : List Pair → List Pair
linked [] = []
linked (x ∷ xs) = record { key = x.key; word = frame_bit + x.word } ∷ linked xs

-- the page with frames for words, where it is an inner node
abbrev pub linked_page : Page → Page
linked_page p = if ltb 0 p.node.level then with_pairs p (linked p.node.pairs) else p

-- the same in words, of the first n pairs
abbrev pub turned : ℕ → List ℕ → List ℕ
turned (suc n) (k ∷ w ∷ ws) = k ∷ (frame_bit + w) ∷ turned n ws
turned _ ws = ws

-- n pairs stand there, and their words have not the bit of a frame
abbrev pub ArePlain : ℕ → List ℕ → Type 0
ArePlain zero ws = Unit {0}
ArePlain (suc n) [] = ⊥
ArePlain (suc n) (k ∷ []) = ⊥
ArePlain (suc n) (k ∷ w ∷ ws) = (w < frame_bit) × ArePlain n ws

-- the children of an inner node have numbers without it
abbrev pub HasPlain : Page → Type 0
HasPlain p = ltb 0 p.node.level ≡ true → ArePlain (length p.node.pairs) (pair_words p.node.pairs)

-- a row with its latch: a page's words, no hint, and its number
abbrev pub page_row : Page → List ℕ
page_row p = 0 ∷ words_of p ++ (frame_bit ∷ p.gsn ∷ [])

-- the row of an empty frame has the mark
abbrev pub empty_row : List ℕ
empty_row = replicate 127 0 ++ (mark ∷ 0 ∷ [])

-- a page whose children are in frames, where there is one
abbrev pub frame_row : Option Page → List ℕ
frame_row (Some p) = page_row (linked_page p)
frame_row None = empty_row

-- the root, whose children are in no frames, in frame 0, and no page in any other
abbrev pub root_row : Page → ℕ → List ℕ
root_row root zero = page_row root
root_row root (suc f) = empty_row

-- the words of a worker: flushed number, last end number, outside, no answer
abbrev pub worker_row : ℕ → List ℕ
worker_row base = base ∷ base ∷ 2 ^ 63 ∷ 0 ∷ []

-- n pieces of a size stand side by side from a place on, and the other words are as they were
pub record AreTiled (piece : ℕ → List ℕ) (first size n : ℕ) (old new : List ℕ) : Type 0 where
  pub long : length new ≡ length old
  pub tiles : (k i : ℕ) → k < n → i < size → slice_index new (first + size * k + i) ≡ slice_index (piece k) i
  pub others : (j : ℕ) → (j < first) ⊎ (first + size * n ≤ j) → slice_index new j ≡ slice_index old j
