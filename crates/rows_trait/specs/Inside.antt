-- Words of private functions and of proofs.
use Rattle.std.specs.Prelude.{◌≢◌, ℕ, ◌+◌, Bool, false, cond, List, [], ◌∷◌, ◌++◌, slice_set, slice_index, zero, suc}
use Rattle.row_words.specs.declared.event.Event.{Event}
use Rattle.row_words.specs.declared.event.Event.TheVariants.{Miss}
use Rattle.row_words.specs.declared.given.Given.{Given}
use Rattle.row_words.specs.Moments.{actor_of}
use Rattle.rows_trait.specs.Layout.{Sizes, width, row_at, control_at}
use Rattle.rows_trait.specs.declared.view.Act.{Act}
use Rattle.rows_trait.specs.declared.view.Act.TheVariants.{Look, Set}
use Rattle.rows_trait.specs.declared.view.Hold.{Hold}
use Rattle.rows_trait.specs.declared.view.View.{View}
use Rattle.rows_trait.specs.Views.{hold}

-- a view after a step: it has seen what others did, and then its own events
abbrev pub after : View → List Event → List Event → List Act → List Hold → View
after v between es steps held = record { live = v.live; given = v.given; actor = v.actor; seen = (v.seen ++ between) ++ es; steps = steps; held = held; made = v.made; ended = v.ended }

-- nothing is given
abbrev pub nowhere : Given
nowhere = record { faithful = false; workers = 0; frames = 0; rows = 0; base = 0; pages = []; before = [] }

-- the view of no seat
abbrev pub no_view : View
no_view = record { live = false; given = nowhere; actor = 0; seen = []; steps = []; held = []; made = 0; ended = [] }

-- the first of the events, a miss where there is none
abbrev pub first_of : List Event → Event
first_of [] = Miss 0
first_of (e ∷ es) = e

-- the latch is loaded in such a step
abbrev pub look_at : ℕ → ℕ → View → List Event → List Event → Act
look_at row n v between es = Look row n ((v.seen ++ between) ++ es)

-- plain rows' seat after a try to latch a row, whose words are these, that has the number found
abbrev pub tried : View → ℕ → ℕ → ℕ → List ℕ → List Event → Bool → View
tried v row version found words es got =
    cond got (after v [] es (Set row (version + 1) ∷ look_at row version v [] es ∷ v.steps) (hold row version words words false ∷ v.held)) (after v [] es (look_at row found v [] es ∷ v.steps) v.held)

-- no event is of this actor
abbrev pub NoneBy : ℕ → List Event → Type 0
NoneBy a [] = Unit {0}
NoneBy a (e ∷ es) = (actor_of e ≢ a) × NoneBy a es

-- n words from a place on
abbrev pub cells : List ℕ → ℕ → ℕ → List ℕ
cells words from zero = []
cells words from (suc n) = slice_index words from ∷ cells words (suc from) n

-- the words of a row beside its latch
abbrev pub row_cells : Sizes → List ℕ → ℕ → List ℕ
row_cells z words row = cells words (row_at z row 1) (width z row)

-- the words after the flushed words of the first n workers were set
abbrev pub flushed_words : ℕ → List ℕ → ℕ → List ℕ
flushed_words zero words number = words
flushed_words (suc n) words number = slice_set (flushed_words n words number) (control_at (suc n) 0) number
