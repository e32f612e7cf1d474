-- Rows that are held, and views between which others have stepped.
use Rattle.std.specs.Prelude.{◌≡◌, ◌≢◌, ◌<◌, ◌⊎◌, ℕ, Bool, true, false, List, [], ◌++◌, length}
use Rattle.row_words.specs.declared.event.Event.{Event}
use Rattle.row_words.specs.Openings.{opening}
use Rattle.rows_trait.specs.declared.view.View.{View}
use Rattle.rows_trait.specs.Layout.{rows_of, width}
use Rattle.rows_trait.specs.Views.{Shape, AreApart, Spells, holds, held_at, state}
use Rattle.rows_trait.specs.Turns.{Ran}

-- ## From one view to another

-- others have stepped, apart from what the seat holds, and the same rows are held
pub record Waited (alone : Bool) (v w : View) : Type 0 where
  pub ran : Ran alone v [] w
  pub between : List Event
  pub quiet : alone ≡ true → between ≡ []
  pub apart : AreApart v (state v) between
  pub seen : w.seen ≡ v.seen ++ between
  pub rows : (q : ℕ) → holds w.held q ≡ holds v.held q

-- and their words are as they were
pub record Stood (alone : Bool) (v w : View) : Type 0 where
  pub waited : Waited alone v w
  pub held : w.held ≡ v.held

-- other words were stored in a row
pub record Wrote (alone : Bool) (row : ℕ) (words : List ℕ) (v w : View) : Type 0 where
  pub waited : Waited alone v w
  pub was : (held_at w.held row).was ≡ (held_at v.held row).was
  pub now : (held_at w.held row).now ≡ words
  pub done : (held_at w.held row).done ≡ (held_at v.held row).done
  pub others : (q : ℕ) → row ≢ q → held_at w.held q ≡ held_at v.held q

-- ## Frame rows

-- a frame row that is held, with the words that it had
pub record IsFrame (z : Shape) (v : View) (row : ℕ) : Type 0 where
  pub mine : holds v.held row ≡ true
  pub frames : row < (opening v.given).frames
  pub inside : row < rows_of z.sizes
  pub wide : width z.sizes row ≡ 128
  pub done : (held_at v.held row).done ≡ false
  pub same : (held_at v.held row).now ≡ (held_at v.held row).was
  pub size : length (held_at v.held row).was ≡ 128
  pub spells : Spells v.given (state v) 128 row (held_at v.held row).was

-- it, and no other row
pub record HoldsOne (z : Shape) (v : View) (a : ℕ) : Type 0 where
  pub first : IsFrame z v a
  pub only : (q : ℕ) → holds v.held q ≡ true → q ≡ a

-- two of them, and no other row
pub record HoldsTwo (z : Shape) (v : View) (a b : ℕ) : Type 0 where
  pub first : IsFrame z v a
  pub second : IsFrame z v b
  pub apart : a ≢ b
  pub only : (q : ℕ) → holds v.held q ≡ true → (q ≡ a) ⊎ (q ≡ b)

-- three of them
pub record HoldsThree (z : Shape) (v : View) (a b d : ℕ) : Type 0 where
  pub first : IsFrame z v a
  pub second : IsFrame z v b
  pub third : IsFrame z v d
  pub apart : a ≢ b
  pub far : a ≢ d
  pub near : b ≢ d
  pub only : (q : ℕ) → holds v.held q ≡ true → (q ≡ a) ⊎ ((q ≡ b) ⊎ (q ≡ d))

-- ## Any rows

-- a row that is held, of which no event was published since it was latched
pub record IsOpen (z : Shape) (v : View) (row : ℕ) : Type 0 where
  pub mine : holds v.held row ≡ true
  pub inside : row < rows_of z.sizes
  pub done : (held_at v.held row).done ≡ false

-- it has the words that it had
abbrev pub IsUnchanged : View → ℕ → Type 0
IsUnchanged v row = (held_at v.held row).now ≡ (held_at v.held row).was

-- it is held, and no other row
pub record OpensOne (z : Shape) (v : View) (a : ℕ) : Type 0 where
  pub first : IsOpen z v a
  pub only : (q : ℕ) → holds v.held q ≡ true → q ≡ a

-- two of them, and no other row
pub record OpensTwo (z : Shape) (v : View) (a b : ℕ) : Type 0 where
  pub first : IsOpen z v a
  pub second : IsOpen z v b
  pub apart : a ≢ b
  pub only : (q : ℕ) → holds v.held q ≡ true → (q ≡ a) ⊎ (q ≡ b)

-- three of them
pub record OpensThree (z : Shape) (v : View) (a b d : ℕ) : Type 0 where
  pub first : IsOpen z v a
  pub second : IsOpen z v b
  pub third : IsOpen z v d
  pub apart : a ≢ b
  pub far : a ≢ d
  pub near : b ≢ d
  pub only : (q : ℕ) → holds v.held q ≡ true → (q ≡ a) ⊎ ((q ≡ b) ⊎ (q ≡ d))
