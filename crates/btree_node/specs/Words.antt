-- The 126 words that spell a page.
use Rattle.std.specs.Prelude.{◌≡◌, ℕ, ◌+◌, ◌-◌, ◌*◌, ◌/◌, ◌%◌, ◌<◌, ◌≤◌, ◌==◌, suc, zero, Bool, true, false, List, [], ◌∷◌, ◌++◌, length, slice_index, drop, replicate}
use Rattle.page_model.specs.Pairs.{Pair, Rising}
use Rattle.page_model.specs.Page.{Page}

-- the words of pairs, key and word in turn
abbrev pub flat : List Pair → List ℕ
flat [] = []
flat (x ∷ xs) = x.key ∷ x.word ∷ flat xs

-- a page that holds a node has kind 1, a free one kind 2
abbrev pub kind_of : Bool → ℕ
kind_of true = 1
kind_of false = 2

-- count, level, last log and kind in one word, eight bits each
abbrev pub packed : ℕ → ℕ → ℕ → ℕ → ℕ
packed count level log kind = count + 256 * level + 65536 * log + 16777216 * kind

abbrev pub header : Page → List ℕ
header p = p.number ∷ p.gsn ∷ p.generation ∷ packed (length p.node.pairs) p.node.level p.last_log (kind_of p.node.live) ∷ p.node.low ∷ p.node.high ∷ []

-- the pairs, then zeros up to 120 words
abbrev pub pair_words : List Pair → List ℕ
pair_words pairs = flat pairs ++ replicate (120 - 2 * length pairs) 0

-- the words of a page
abbrev pub words_of : Page → List ℕ
words_of p = header p ++ pair_words p.node.pairs

-- keys rise strictly and stand within the fences; a page without pairs may have any fences
abbrev pub IsOrdered : ℕ → List Pair → ℕ → Type 0
IsOrdered low [] high = Unit {0}
IsOrdered low (x ∷ xs) high = Rising low (x ∷ xs) high

-- what 126 words can say
pub record Fits (p : Page) : Type 0 where
  pub room : length p.node.pairs ≤ 60
  pub level : p.node.level ≤ 7
  pub last_log : p.last_log < 256
  pub ordered : IsOrdered p.node.low p.node.pairs p.node.high

-- the words spell the page
pub record Spells (words : List ℕ) (p : Page) : Type 0 where
  pub spelled : words ≡ words_of p
  pub fits : Fits p

-- the first n pairs in words
abbrev pub pairs_in : ℕ → List ℕ → List Pair
pairs_in zero ws = []
pairs_in (suc n) ws = record { key = slice_index ws 0; word = slice_index ws 1 } ∷ pairs_in n (drop 2 ws)

-- the pairs whose words these are
abbrev pub pairs_of : List ℕ → List Pair
pairs_of ws = pairs_in (length ws / 2) ws

-- the page that words spell, if they spell one
abbrev pub page_of : List ℕ → Page
page_of ws = record {
  number = slice_index ws 0;
  gsn = slice_index ws 1;
  generation = slice_index ws 2;
  last_log = slice_index ws 3 / 65536 % 256;
  node = record {
    live = slice_index ws 3 / 16777216 == 1;
    level = slice_index ws 3 / 256 % 256;
    low = slice_index ws 4;
    high = slice_index ws 5;
    pairs = pairs_in (slice_index ws 3 % 256) (drop 6 ws);
  };
}

-- the words spell a page
abbrev pub IsPage : List ℕ → Type 0
IsPage ws = Spells ws (page_of ws)
