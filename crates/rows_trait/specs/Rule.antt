-- The rule between any two steps: what the words, the views and what has happened have to do with one another.
use Rattle.std.specs.Prelude.{◌≡◌, ◌≢◌, ℕ, ◌+◌, ◌*◌, ◌<◌, ◌≤◌, true, List, [], ◌∷◌, ◌++◌, length, slice_index, Some}
use mathlib.Core.Option.{some}
use lib.ListN.{get_elem?}
use Rattle.row_words.specs.declared.event.Event.{Event}
use Rattle.row_words.specs.declared.given.Given.{Given}
use Rattle.row_words.specs.Moments.{Moment}
use Rattle.row_words.specs.Sealed.{begun, Shown, heard}
use Rattle.rows_trait.specs.Layout.{Sizes, rows_of, width, cell, count_of, control_at, size_of}
use Rattle.rows_trait.specs.declared.view.Act.{Act}
use Rattle.rows_trait.specs.declared.view.Hold.{Hold}
use Rattle.rows_trait.specs.declared.view.View.{View}
use Rattle.rows_trait.specs.Views.{IsEven, after_all, Spells, Has, Since, IsStill, Knows, latest, AreLow, holds, held_at, AreApart, AreBelow, Ends, IsPart, AreTame}

-- how many rows there are, and where they began
pub record Plan : Type 0 where
  pub sizes : Sizes
  pub given : Given

-- the moment to which what has happened leads
abbrev pub moment : Plan → List Event → Moment
moment k happened = after_all k.given happened

-- what a seat remembers is so while the version is the same
pub record Remembers (z : Sizes) (words : List ℕ) (acts : List Act) : Type 0 where
  pub rising : (row s : ℕ) → Has row s acts → s ≤ cell z words row 0
  pub within : (row s i x : ℕ) → Knows row s i x acts → (row < rows_of z) × (i < width z row)
  pub known : (row s i x : ℕ) → Knows row s i x acts → cell z words row 0 ≡ s → cell z words row (i + 1) ≡ x

-- a held row spells what its holder stored, and stands in the core state as when it was latched or published
pub record IsHeld (k : Plan) (happened : List Event) (words : List ℕ) (row : ℕ) (h : Hold) : Type 0 where
  pub inside : row < rows_of k.sizes
  pub even : IsEven h.version
  pub room : h.version + 2 < 18446744073709551616
  pub odd : cell k.sizes words row 0 ≡ h.version + 1
  pub size : length h.now ≡ width k.sizes row
  pub now : (i : ℕ) → i < width k.sizes row → cell k.sizes words row (i + 1) ≡ slice_index h.now i
  pub was : Spells k.given (moment k happened) (width k.sizes row) row h.was
  -- once an event of it was published, that is one more than its version counts
  pub counted : h.done ≡ true → h.version + 2 ≤ 2 * length happened

-- what a seat has seen is a prefix of what has happened, and the rest is of others
pub record Fits (k : Plan) (happened : List Event) (words : List ℕ) (v : View) : Type 0 where
  pub given : v.given ≡ k.given
  pub rest : List Event
  pub whole : happened ≡ v.seen ++ rest
  pub apart : AreApart v (after_all k.given v.seen) rest
  pub memory : Remembers k.sizes words v.steps
  -- while the latch is the even number that was loaded, no event behind what was seen then has changed the row
  pub still : (row s : ℕ) (at : List Event) → Since row s at v.steps → cell k.sizes words row 0 ≡ s → IsStill k.given row at happened
  pub held : (row : ℕ) → holds v.held row ≡ true → IsHeld k happened words row (held_at v.held row)
  -- so the numbers that were loaded from latches are low
  pub low : AreLow (length v.seen) v.steps

-- The rule. Rows that nobody holds spell the core state, and each view fits.
pub record Keeps (k : Plan) (happened : List Event) (words : List ℕ) (views : List View) : Type 0 where
  pub size : length words ≡ size_of k.sizes
  -- a free row spells its contents
  pub free : (row : ℕ) → row < rows_of k.sizes → IsEven (cell k.sizes words row 0) → (i : ℕ) → i < width k.sizes row
      → Shown k.given (moment k happened) row i (cell k.sizes words row (i + 1))
  -- a latch goes up by two behind an event that changes the row, or a miss
  pub few : (row : ℕ) → row < rows_of k.sizes → cell k.sizes words row 0 ≤ 2 * length happened + 1
  -- control words are those of the core state
  pub controls : (c i : ℕ) → c ≤ k.sizes.workers → i < count_of c → slice_index words (control_at c i) ≡ heard (moment k happened) c i
  -- what has happened is tame
  pub tame : AreTame k.given (begun k.given) happened
  pub fits : (j : ℕ) (v : View) → get_elem? views j ≡ some v → v.live ≡ true → Fits k happened words v
  -- no two views are of one actor, nor hold one row
  pub actors : (i j : ℕ) (u v : View) → get_elem? views i ≡ some u → get_elem? views j ≡ some v → u.live ≡ true → v.live ≡ true → u.actor ≡ v.actor → i ≡ j
  pub owners : (i j : ℕ) (u v : View) → get_elem? views i ≡ some u → get_elem? views j ≡ some v → u.live ≡ true → v.live ≡ true
      → (row : ℕ) → holds u.held row ≡ true → holds v.held row ≡ true → i ≡ j
  -- at most one seat makes others, with numbers that no event has that it has not seen
  pub makers : (i j : ℕ) (u v : View) → get_elem? views i ≡ some u → get_elem? views j ≡ some v → u.live ≡ true → v.live ≡ true → 0 < u.made → (v.actor < u.made) × (0 < v.made → i ≡ j)
  pub below : (i : ℕ) (u : View) → get_elem? views i ≡ some u → u.live ≡ true → 0 < u.made → (rest : List Event) → happened ≡ u.seen ++ rest → AreBelow u.made rest
  -- what a seat that has ended had seen is a beginning, and no event behind it is of its actor
  pub ended : (i : ℕ) (u : View) → get_elem? views i ≡ some u → u.live ≡ true → (a : ℕ) (seen : List Event) → Ends a seen u.ended
      → (a < u.made) × IsPart a seen happened × ((j : ℕ) (v : View) → get_elem? views j ≡ some v → v.live ≡ true → v.actor ≢ a)
  -- a latched row is held
  pub latched : (row : ℕ) → row < rows_of k.sizes → IsEven (cell k.sizes words row 0 + 1)
      → (j : ℕ) × (v : View) × (get_elem? views j ≡ some v) × (v.live ≡ true) × (holds v.held row ≡ true)

-- where nobody else steps: one seat, which has seen all that has happened, and each latch is what it last loaded or stored there
pub record IsAlone (k : Plan) (happened : List Event) (words : List ℕ) (views : List View) (v : View) : Type 0 where
  pub seen : happened ≡ v.seen
  pub only : views ≡ v ∷ []
  pub made : v.made ≡ 0
  pub ended : v.ended ≡ []
  pub steady : (row s : ℕ) → row < rows_of k.sizes → latest row v.steps ≡ Some s → cell k.sizes words row 0 ≡ s

-- the words of plain rows are a picture of what their one seat has seen
pub record IsPicture (k : Plan) (words : List ℕ) (v : View) : Type 0 where
  pub happened : List Event
  pub live : v.live ≡ true
  pub keeps : Keeps k happened words (v ∷ [])
  pub alone : IsAlone k happened words (v ∷ []) v

-- a plan of its parts
abbrev pub plan : Sizes → Given → Plan
plan sizes given = record { sizes = sizes; given = given }
