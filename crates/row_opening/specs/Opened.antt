-- What plain rows begin with that are opened from pages.
use Rattle.std.specs.Prelude.{◌≡◌, ◌<◌, ◌≤◌, ◌++◌, ◌&&◌, ◌==◌, ℕ, zero, suc, Bool, true, not, List, [], ◌∷◌, Option, Some, None, length, slice_get, if◌then◌else◌}
use Rattle.page_model.specs.Pairs.{Pair}
use Rattle.page_model.specs.Nodes.{free}
use Rattle.page_model.specs.Page.{Page, new_page}
use Rattle.page_model.specs.Tree.{IsTree}
use Rattle.core_paging.specs.image_model.Entries.{Contents}
use Rattle.core_paging.specs.core_state.Openings.{Opening}
use Rattle.core_paging.specs.core_state.States.{Place}
use Rattle.core_paging.specs.core_state.Steps.{AllMet}
use Rattle.rows_trait.specs.row_words.declared.event.Event.{Event}
use Rattle.rows_trait.specs.row_words.declared.event.Event.TheVariants as told
use Rattle.rows_trait.specs.row_words.declared.given.Given.{Given}
use Rattle.rows_trait.specs.row_words.declared.given.Page as plain
use Rattle.rows_trait.specs.row_words.declared.given.Entry.{Entry}
use Rattle.rows_trait.specs.row_words.Moments.{format_of, events_of, first_state}
use Rattle.rows_trait.specs.row_words.Openings.{opening}
use Rattle.rows_trait.specs.row_words.Sealed.{begun}
use Rattle.row_opening.specs.Openings.{Opens}

-- ## Pages

-- a page where there is one, else a free one
abbrev pub page_or : Option Page → Page
page_or None = new_page 0 free
page_or (Some x) = x

-- page p
abbrev pub page_at : List Page → ℕ → Page
page_at pages p = page_or (slice_get pages p)

-- the nodes are a tree; each page bears its own number, and its last change has a number up to the base number and a log below
-- 256, which need not be a worker's
pub record ArePages (pages : List Page) (base : ℕ) : Type 0 where
  pub tree : IsTree (format_of (length pages)) (λ p. (page_at pages p).node)
  pub numbers : (p : ℕ) → p < length pages → (page_at pages p).number ≡ p
  pub low : (p : ℕ) → p < length pages → (page_at pages p).gsn ≤ base
  pub logs : (p : ℕ) → p < length pages → (page_at pages p).last_log < 256

-- ## What is given

-- pairs as data
abbrev pub entries_of : List Pair → List Entry
entries_of [] = []
entries_of (x ∷ xs) = record { key = x.key; word = x.word } ∷ entries_of xs

-- a page as data
abbrev pub page_of : Page → plain.Page
page_of x = record { gsn = x.gsn; last = x.last_log; live = x.node.live; level = x.node.level; low = x.node.low; high = x.node.high; pairs = entries_of x.node.pairs }

-- each of them
abbrev pub pages_of : List Page → List plain.Page
pages_of [] = []
pages_of (x ∷ xs) = page_of x ∷ pages_of xs

-- a live page of this level, and not the root, which is hot from the first
abbrev pub comes : ℕ → ℕ → plain.Page → Bool
comes level p x = x.live && ((x.level == level) && not (p == 0))

-- each page of a level, of those from page p on, is loaded into the frame of its own number
abbrev pub loads_at : ℕ → ℕ → List plain.Page → List Event
loads_at level p [] = []
loads_at level p (x ∷ xs) = if comes level p x then told.Load p p ∷ loads_at level (suc p) xs else loads_at level (suc p) xs

-- the levels below n, the greatest first, so that parents come before their children
abbrev pub loads : ℕ → List plain.Page → List Event
loads zero xs = []
loads (suc n) xs = loads_at n 0 xs ++ loads n xs

-- each free page, of those from page p on, is loaded into the frame of its own number
abbrev pub frees : ℕ → List plain.Page → List Event
frees p [] = []
frees p (x ∷ xs) = if x.live then frees (suc p) xs else told.Load p p ∷ frees (suc p) xs

-- the pages as they are, and loads of all levels, 7 to 0, and of the free pages behind them; each is in a frame, so none is read
-- again
abbrev pub given_of : (frames locks workers base : ℕ) → List Page → Given
given_of frames locks workers base pages = record { faithful = true; workers = workers; frames = frames; rows = locks; base = base; pages = pages_of pages; before = loads 8 (pages_of pages) ++ frees 0 (pages_of pages) }

-- ## The moment at which the rows begin

-- what a state has of a page
abbrev pub contents_of : Page → Contents
contents_of x = record { gsn = x.gsn; last = x.last_log; node = x.node }

-- each page, also a free one, is hot in the frame of its own number, and each is as it was given
pub record IsOpened (pages : List Page) (v : Given) : Type 0 where
  pub hot : (p : ℕ) → p < length pages → (begun v).core.place p ≡ Place.Hot p
  -- what is behind the last page is in no frame
  pub cold : (p : ℕ) → length pages ≤ p → (begun v).core.place p ≡ Place.Cold
  pub page : (p : ℕ) → (begun v).core.page p ≡ contents_of (page_at pages p)
  -- but for the places all is as before the loads, each of which found its need met
  pub rest : begun v ≡ record { core = record (first_state v) { place = (begun v).core.place }; answer = λ _. 0 }
  pub met : AllMet (opening v) (first_state v) (events_of v.before)
  -- an opening of the core opens so
  pub start : Opening
  pub opens : Opens start v
