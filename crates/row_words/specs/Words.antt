-- What each word of a row is in a state of the core, and which rows an event publishes.
use Rattle.std.specs.Prelude.{◌≡◌, ◌≢◌, ◌+◌, ◌-◌, ◌^◌, ◌<◌, ℕ, zero, suc, Bool, true, false, ◌&&◌, ◌||◌, not, ltb, ◌==◌, List, [], ◌∷◌, Option, Some, None, slice_index, if◌then◌else◌}
use Rattle.map_model.specs.Lists.{any}
use Rattle.page_model.specs.Pairs.{Pair}
use Rattle.page_model.specs.Nodes.{Node}
use Rattle.page_model.specs.Page as stored
use Rattle.page_model.specs.Check.{names_page}
use Rattle.btree_node.specs.Words.{words_of}
use Rattle.core_state.specs.Lists.{all_below}
use Rattle.core_state.specs.Openings.{Opening}
use Rattle.core_state.specs.States.{Place, Row, State, is_cooling, in_frame}
use Rattle.core_state.specs.Events.{Event}
use Rattle.core_state.specs.Needs.{is_reader, is_empty_frame}
use Rattle.core_state.specs.Local.{published, publishes_row}
use Rattle.row_words.specs.Moments.{Moment}

-- ## Frame rows

-- the word of a pair that names page p: its frame where it is hot, else its number
abbrev pub swip : Place → ℕ → ℕ
swip (Place.Hot f) p = 2 ^ 63 + f
swip (Place.Cooling f e v) p = p
swip Place.Cold p = p

-- the pairs of an inner node with swips for words
abbrev pub swips : (ℕ → Place) → List Pair → List Pair
swips place [] = []
swips place (x ∷ xs) = record { key = x.key; word = swip (place x.word) x.word } ∷ swips place xs

-- a node of pages
abbrev pub is_inner : Node → Bool
is_inner v = v.live && ltb 0 v.level

-- the node as it stands in a frame
abbrev pub framed : (ℕ → Place) → Node → Node
framed place v = if is_inner v then record v { pairs = swips place v.pairs } else v

-- the page as it stands in a frame; the generation that saved it is no part of the state
abbrev pub framed_page : State → ℕ → ℕ → stored.Page
framed_page s p generation = record { number = p; gsn = (s.page p).gsn; generation = generation; last_log = (s.page p).last; node = framed s.place (s.page p).node }

-- word i of a frame in which page p stands
pub record ShowsPage (s : State) (p i x : ℕ) : Type 0 where
  pub page : i < 126 → (generation : ℕ) × (x ≡ slice_index (words_of (framed_page s p generation)) i)
  -- the hint of the parent is no part of the state; it is a mark exactly while the page is cooling
  pub marked : i ≡ 126 → is_cooling (s.place p) ≡ true → x ≡ 2 ^ 63 + 1
  pub hint : i ≡ 126 → is_cooling (s.place p) ≡ false → x ≢ 2 ^ 63 + 1
  pub saved : i ≡ 127 → x ≡ (s.saved p).gsn

-- Word i of frame f. An empty frame has the mark of a cooling page, so a frame without the mark has a hot page; of an empty frame
-- nothing else is said.
pub record ShowsFrame (g : Opening) (s : State) (f i x : ℕ) : Type 0 where
  pub page : (p : ℕ) → p < g.format.pages → in_frame (s.place p) f ≡ true → ShowsPage s p i x
  pub empty : i ≡ 126 → is_empty_frame g s f ≡ true → x ≡ 2 ^ 63 + 1

-- ## Lock rows

-- bit w is set where w is a reader, of the workers up to n
abbrev pub mask : ℕ → List ℕ → ℕ
mask zero readers = 0
mask (suc n) readers = if is_reader (suc n) readers then 2 ^ suc n + mask n readers else mask n readers

-- who holds it alone, 0 where nobody does
abbrev pub holder_word : Option ℕ → ℕ
holder_word None = 0
holder_word (Some w) = w

-- readers, holder, the stamp's number and log, the greatest end of a reader
abbrev pub lock_words : ℕ → Row → List ℕ
lock_words workers o = mask workers o.readers ∷ holder_word o.holder ∷ o.number ∷ o.log ∷ o.read_end ∷ []

-- ## Rows

-- word i of a row reads x
pub record Shows (g : Opening) (s : State) (row i x : ℕ) : Type 0 where
  pub frame : ltb row g.frames ≡ true → ShowsFrame g s row i x
  pub lock : ltb row g.frames ≡ false → x ≡ slice_index (lock_words g.workers (s.row (row - g.frames))) i

-- the words spell the row
abbrev pub Spells : Opening → State → ℕ → ℕ → List ℕ → Type 0
Spells g s row width words = (i : ℕ) → i < width → Shows g s row i (slice_index words i)

-- ## Published rows

-- the pages whose swips the event changes
abbrev pub relinks : Event → ℕ → Bool
relinks (Event.Load p f) q = p == q
relinks (Event.Cool p) q = p == q
relinks (Event.Rescue p) q = p == q
relinks _ q = false

-- the pages that the event changes a swip of
abbrev pub relinked : Event → List ℕ
relinked (Event.Load p f) = p ∷ []
relinked (Event.Cool p) = p ∷ []
relinked (Event.Rescue p) = p ∷ []
relinked _ = []

-- the frame that the event fills
abbrev pub fills : Event → ℕ → Bool
fills (Event.Load p f) i = f == i
fills _ i = false

-- a page in frame f names p
abbrev pub has_parent_in : Opening → State → ℕ → ℕ → Bool
has_parent_in g s f p = not (all_below g.format.pages (λ q. not (names_page (s.page q).node p && in_frame (s.place q) f)))

-- the pages whose words in frames the event changes; one that is read again stands in none
abbrev pub rewritten : Event → List ℕ
rewritten (Event.Fetch p pairs) = []
rewritten e = published e

-- the words of frame f may change: a page there is rewritten, the frame is filled, or a page there names one whose swip changes
abbrev pub publishes_frame : Opening → State → Event → ℕ → Bool
publishes_frame g s e f = any (λ p. in_frame (s.place p) f) (rewritten e) || (fills e f || any (has_parent_in g s f) (relinked e))

-- the words of the row may change; lock rows stand behind the frames
abbrev pub publishes : Opening → State → Event → ℕ → Bool
publishes g s e row = if ltb row g.frames then publishes_frame g s e row else publishes_row e (row - g.frames)

-- ## Control words: those of worker w, and for w 0 the common ones

-- a worker's local epoch; 2^63 where it is outside
abbrev pub epoch_word : Option ℕ → ℕ
epoch_word None = 2 ^ 63
epoch_word (Some e) = e

-- flushed number, last end number, local epoch, the pager's answer
abbrev pub worker_words : Moment → ℕ → List ℕ
worker_words m w = m.core.flushed w ∷ (m.core.worker w).end ∷ epoch_word (m.core.inside w) ∷ m.answer w ∷ []

-- global epoch, posted need
abbrev pub control_words : Moment → ℕ → List ℕ
control_words m zero = m.core.epoch ∷ m.core.posted ∷ []
control_words m (suc w) = worker_words m (suc w)

-- control word i of worker c
abbrev pub control : Moment → ℕ → ℕ → ℕ
control m c i = slice_index (control_words m c) i
