-- The page that the bytes of a slot spell, if they spell one.
use Rattle.std.specs.Prelude.{ℕ, Bool, ◌&&◌, ◌||◌, not, leb, ltb, ◌==◌, ◌^◌, List, length, Option, Some, None, if◌then◌else◌}
use Rattle.std.specs.Str.{bytes_eq}
use Rattle.map_model.specs.Lists.{all}
use Rattle.page_model.specs.Pairs.{Pair, first_key}
use Rattle.page_model.specs.Nodes.{Node}
use Rattle.page_model.specs.Check.{is_nil, is_rising, is_free}
use Rattle.page_model.specs.Page.{Page}
use Rattle.btree_node.specs.Words.{words_of, page_of}
use Rattle.disk_slots.specs.Pages.{page_slot}
use Rattle.disk_image.specs.Words.{words_in, are_words}

-- 126 words can say it
abbrev pub fits : Page → Bool
fits p = leb (length p.node.pairs) 60 && (leb p.node.level 7 && (ltb p.last_log 256 && (is_nil p.node.pairs || is_rising p.node.low p.node.pairs p.node.high)))

-- a leaf's word, or a child
abbrev pub is_word : ℕ → Node → Pair → Bool
is_word pages v x = if v.level == 0 then leb x.word (2 ^ 63) else (ltb 0 x.word && ltb x.word pages)

-- a stored page may hold it
abbrev pub is_storable : ℕ → Node → Bool
is_storable pages v =
    if v.live then (all (is_word pages v) v.pairs && ((v.level == 0) || (not (is_nil v.pairs) && (first_key v.pairs v.high == v.low)))) else is_free v

-- the well formed contents of page n of so many pages
abbrev pub is_page : ℕ → ℕ → Page → Bool
is_page n pages p = fits p && (are_words (words_of p) && ((p.number == n) && is_storable pages p.node))

abbrev pub page_if : ℕ → ℕ → List ℕ → Page → Option Page
page_if n pages bytes p = if bytes_eq bytes (page_slot p) && is_page n pages p then Some p else None

-- the page whose slot the bytes are, as page n of so many pages
abbrev pub page_in : ℕ → ℕ → List ℕ → Option Page
page_in n pages bytes = page_if n pages bytes (page_of (words_in 126 bytes))
