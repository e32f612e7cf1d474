-- What a view says: which versions and words were loaded, what is held, and which events of others leave it as it is.
use Rattle.std.specs.Prelude.{◌≡◌, ◌≢◌, ℕ, ◌+◌, ◌*◌, ◌%◌, ◌<◌, ◌≤◌, Bool, true, false, cond, ◌||◌, ◌⊎◌, List, [], ◌∷◌, ◌++◌, slice_set, slice_index, ◌==◌, Option, Some, None}
use Rattle.atomic_table.specs.Seated.{TableId}
use Rattle.row_words.specs.declared.event.Event.{Event}
use Rattle.row_words.specs.declared.given.Given.{Given}
use Rattle.row_words.specs.Moments.{Moment, actor_of, by, is_rising, is_sync}
use Rattle.row_words.specs.Sealed.{begun, stepped, run, Shown, changes, sets, IsTame}
use Rattle.rows_trait.specs.Layout.{Sizes}
use Rattle.rows_trait.specs.declared.view.Act.{Act}
use Rattle.rows_trait.specs.declared.view.Act.TheVariants.{Look, Load, Store, Set, Hear, Turn}
use Rattle.rows_trait.specs.declared.view.Hold.{Hold}
use Rattle.rows_trait.specs.declared.view.Ended.{Ended}
use Rattle.rows_trait.specs.declared.view.View.{View}

-- a latch is even while nobody holds the row
abbrev pub IsEven : ℕ → Type 0
IsEven n = n % 2 ≡ 0

-- the moment to which events lead from where the rows began
abbrev pub after_all : Given → List Event → Moment
after_all v es = run v (begun v) es

-- the moment to which the seen events lead
abbrev pub state : View → Moment
state v = after_all v.given v.seen

-- words that spell a row
abbrev pub Spells : Given → Moment → ℕ → ℕ → List ℕ → Type 0
Spells v m width row words = (i : ℕ) → i < width → Shown v m row i (slice_index words i)

-- an even version of the row was loaded
abbrev pub Has : ℕ → ℕ → List Act → Type 0
Has row s [] = ⊥
Has row s (Look q n at ∷ ss) = ((q ≡ row) × (n ≡ s) × IsEven s) ⊎ Has row s ss
Has row s (Load q i n ∷ ss) = Has row s ss
Has row s (Store q i n ∷ ss) = Has row s ss
Has row s (Set q n ∷ ss) = Has row s ss
Has row s (Hear c j n ∷ ss) = Has row s ss
Has row s (Turn c j n ∷ ss) = Has row s ss

-- this even version of the row was loaded when these events had been seen
abbrev pub Since : ℕ → ℕ → List Event → List Act → Type 0
Since row s seen [] = ⊥
Since row s seen (Look q n at ∷ ss) = ((q ≡ row) × (n ≡ s) × (at ≡ seen) × IsEven s) ⊎ Since row s seen ss
Since row s seen (Load q i n ∷ ss) = Since row s seen ss
Since row s seen (Store q i n ∷ ss) = Since row s seen ss
Since row s seen (Set q n ∷ ss) = Since row s seen ss
Since row s seen (Hear c j n ∷ ss) = Since row s seen ss
Since row s seen (Turn c j n ∷ ss) = Since row s seen ss

-- none of the events changes the row
abbrev pub AreStill : Given → ℕ → Moment → List Event → Type 0
AreStill v row m [] = Unit {0}
AreStill v row m (e ∷ es) = (changes v m e row ≡ false) × AreStill v row (stepped v m e) es

-- no event behind these changed the row
pub record IsStill (v : Given) (row : ℕ) (at es : List Event) : Type 0 where
  pub more : List Event
  pub whole : es ≡ at ++ more
  pub still : AreStill v row (after_all v at) more

-- a word of the row was loaded as x, after this version
abbrev pub Knows : ℕ → ℕ → ℕ → ℕ → List Act → Type 0
Knows row s i x [] = ⊥
Knows row s i x (Look q n at ∷ ss) = Knows row s i x ss
Knows row s i x (Load q j n ∷ ss) = ((q ≡ row) × (j ≡ i) × (n ≡ x) × Has row s ss) ⊎ Knows row s i x ss
Knows row s i x (Store q j n ∷ ss) = Knows row s i x ss
Knows row s i x (Set q n ∷ ss) = Knows row s i x ss
Knows row s i x (Hear c j n ∷ ss) = Knows row s i x ss
Knows row s i x (Turn c j n ∷ ss) = Knows row s i x ss

-- the last number that was loaded from the latch, or stored there
abbrev pub latest : ℕ → List Act → Option ℕ
latest row [] = None
latest row (Look q n at ∷ ss) = cond (q == row) (Some n) (latest row ss)
latest row (Load q i n ∷ ss) = latest row ss
latest row (Store q i n ∷ ss) = latest row ss
latest row (Set q n ∷ ss) = cond (q == row) (Some n) (latest row ss)
latest row (Hear c j n ∷ ss) = latest row ss
latest row (Turn c j n ∷ ss) = latest row ss

-- each number that was loaded from a latch is at most one above twice this number
abbrev pub AreLow : ℕ → List Act → Type 0
AreLow n [] = Unit {0}
AreLow n (Look q m at ∷ ss) = (m ≤ 2 * n + 1) × AreLow n ss
AreLow n (Load q i m ∷ ss) = AreLow n ss
AreLow n (Store q i m ∷ ss) = AreLow n ss
AreLow n (Set q m ∷ ss) = AreLow n ss
AreLow n (Hear c j m ∷ ss) = AreLow n ss
AreLow n (Turn c j m ∷ ss) = AreLow n ss

-- a hold of its parts
abbrev pub hold : ℕ → ℕ → List ℕ → List ℕ → Bool → Hold
hold row version was now done = record { row = row; version = version; was = was; now = now; done = done }

-- the row is held
abbrev pub holds : List Hold → ℕ → Bool
holds [] row = false
holds (h ∷ hs) row = cond (h.row == row) true (holds hs row)

-- the hold of a row
abbrev pub held_at : List Hold → ℕ → Hold
held_at [] row = hold row 0 [] [] false
held_at (h ∷ hs) row = cond (h.row == row) h (held_at hs row)

-- the other holds
abbrev pub without : List Hold → ℕ → List Hold
without [] row = []
without (h ∷ hs) row = cond (h.row == row) (without hs row) (h ∷ without hs row)

-- a word of a held row is stored
abbrev pub write : List Hold → ℕ → ℕ → ℕ → List Hold
write [] row i x = []
write (h ∷ hs) row i x = cond (h.row == row) (hold h.row h.version h.was (slice_set h.now i x) h.done) h ∷ write hs row i x

-- an event is published at a moment: its rows stand in the core state as they do in memory
abbrev pub settle : Given → Moment → List Hold → Event → List Hold
settle v m [] e = []
settle v m (h ∷ hs) e = cond (changes v m e h.row) (hold h.row h.version h.now h.now true) h ∷ settle v m hs e

-- an event of another actor, which changes no row that the view holds; a sync is of all
pub record IsApart (v : View) (m : Moment) (e : Event) : Type 0 where
  pub other : actor_of e ≢ v.actor
  pub part : is_sync e ≡ false
  pub rows : (row : ℕ) → holds v.held row ≡ true → changes v.given m e row ≡ false

-- each of them is apart at the moment at which it happens
abbrev pub AreApart : View → Moment → List Event → Type 0
AreApart v m [] = Unit {0}
AreApart v m (e ∷ es) = IsApart v m e × AreApart v (stepped v.given m e) es

-- an event of an actor that the seat may play, which changes no row and no control word
pub record IsAside (may : ℕ → Bool) (v : Given) (e : Event) : Type 0 where
  pub own : may (actor_of e) ≡ true
  pub part : is_sync e ≡ false
  pub rows : (m : Moment) (row : ℕ) → changes v m e row ≡ false
  pub words : (c i : ℕ) → sets e c i ≡ false

-- each of them is aside
abbrev pub AreAside : (ℕ → Bool) → Given → List Event → Type 0
AreAside may v [] = Unit {0}
AreAside may v (e ∷ es) = IsAside may v e × AreAside may v es

-- and no begin
pub record IsSilent (may : ℕ → Bool) (v : Given) (e : Event) : Type 0 where
  pub own : may (actor_of e) ≡ true
  pub part : is_sync e ≡ false
  pub rows : (m : Moment) (row : ℕ) → changes v m e row ≡ false
  pub words : (c i : ℕ) → sets e c i ≡ false
  pub calm : is_rising e ≡ false

-- each of them is silent
abbrev pub AreSilent : (ℕ → Bool) → Given → List Event → Type 0
AreSilent may v [] = Unit {0}
AreSilent may v (e ∷ es) = IsSilent may v e × AreSilent may v es

-- each of them is tame at the moment at which it happens
abbrev pub AreTame : Given → Moment → List Event → Type 0
AreTame v m [] = Unit {0}
AreTame v m (e ∷ es) = IsTame m e × AreTame v (stepped v m e) es

-- none of the events is a begin or a record of pages
abbrev pub AreCalm : List Event → Type 0
AreCalm [] = Unit {0}
AreCalm (e ∷ es) = (is_rising e ≡ false) × AreCalm es

-- the first of them is tame at a moment, and the others always are
abbrev pub BeginsTame : Moment → List Event → Type 0
BeginsTame m [] = Unit {0}
BeginsTame m (e ∷ es) = IsTame m e × AreCalm es

-- none of the events is a sync
abbrev pub NoSync : List Event → Type 0
NoSync [] = Unit {0}
NoSync (e ∷ es) = (is_sync e ≡ false) × NoSync es

-- how many rows there are, whether nobody else steps, and which table it is
pub record Shape : Type 0 where
  pub sizes : Sizes
  pub alone : Bool
  pub place : TableId

-- plain rows are in no table
abbrev pub no_place : TableId
no_place = record { words = 0; slots = 0; views_name = 0; atom = 0; block = 0; offset = 0; slot_names = [] }

-- where nobody else steps a seat plays every actor
abbrev pub may : Bool → View → ℕ → Bool
may alone v a = alone || (a == v.actor)

-- the events are of actors below this number
abbrev pub AreBelow : ℕ → List Event → Type 0
AreBelow m [] = Unit {0}
AreBelow m (e ∷ es) = (actor_of e < m) × AreBelow m es

-- the seat of this actor has ended, when it had seen these events
abbrev pub Ends : ℕ → List Event → List Ended → Type 0
Ends a seen [] = ⊥
Ends a seen (x ∷ xs) = ((x.actor ≡ a) × (x.seen ≡ seen)) ⊎ Ends a seen xs

-- all of them begin with these, and none of the rest is of this actor
pub record IsPart (a : ℕ) (seen all : List Event) : Type 0 where
  pub rest : List Event
  pub whole : all ≡ seen ++ rest
  pub others : by a rest ≡ []

-- the view of plain rows' seat at the beginning
abbrev pub first_plain : Given → View
first_plain v = record { live = true; given = v; actor = 0; seen = []; steps = []; held = []; made = 0; ended = [] }
