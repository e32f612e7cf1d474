-- Words of private functions.
use Rattle.std.specs.Prelude.{◌≡◌, ◌<◌, ◌+◌, ℕ, Bool, true, false, not, ◌==◌, List, [], ◌∷◌, length}
use Rattle.map_model.specs.Lists.{keep}
use Rattle.lean_proto.specs.core_state.States.{Row}
use Rattle.lean_proto.specs.row_words.Openings.{opening}
use Rattle.lean_proto.specs.row_words.Words.{lock_words}
use Rattle.lean_proto.specs.rows_trait.declared.view.Act.{Act}
use Rattle.lean_proto.specs.rows_trait.declared.view.View.{View}
use Rattle.lean_proto.specs.rows_trait.Layout.{rows_of}
use Rattle.lean_proto.specs.rows_trait.Views.{Shape, Knows, state, hold, holds, held_at, without}
use Rattle.lean_proto.specs.rows_trait.Turns.{Ran}
use Rattle.key_locks.specs.declared.words.Words.{Words}

-- the readers but w
abbrev pub others : ℕ → List ℕ → List ℕ
others w readers = keep (λ v. not (v == w)) readers

-- the words in their order
abbrev pub list_of : Words → List ℕ
list_of x = x.readers ∷ x.holder ∷ x.number ∷ x.log ∷ x.ends ∷ []

-- they are those of a row
abbrev pub IsSaid : ℕ → Row → Words → Type 0
IsSaid n o x = list_of x ≡ lock_words n o

-- the row is lock row i
pub record IsAt (z : Shape) (v : View) (row i : ℕ) : Type 0 where
  pub place : (opening v.given).frames + i ≡ row
  pub shape : z.sizes.frames ≡ (opening v.given).frames
  pub inside : row < rows_of z.sizes

-- the words were loaded of the row after this version
pub record AreKnown (row version : ℕ) (x : Words) (acts : List Act) : Type 0 where
  pub readers : Knows row version 0 x.readers acts
  pub holder : Knows row version 1 x.holder acts
  pub number : Knows row version 2 x.number acts
  pub log : Knows row version 3 x.log acts
  pub ends : Knows row version 4 x.ends acts

-- the row is held, with these words in memory
pub record IsHeld (row : ℕ) (words : List ℕ) (v : View) : Type 0 where
  pub here : holds v.held row ≡ true
  pub fresh : (held_at v.held row).done ≡ false
  pub now : (held_at v.held row).now ≡ words

-- From one view to another a lock row was held: others did not change it, and of the holds its words alone may have changed.
pub record Stayed (alone : Bool) (row : ℕ) (v w : View) : Type 0 where
  pub ran : Ran alone v [] w
  pub rest : without w.held row ≡ without v.held row
  pub here : holds w.held row ≡ true
  pub same : (j : ℕ) → (opening v.given).frames + j ≡ row → (state w).core.row j ≡ (state v).core.row j

-- the row was latched, with so many words
pub record IsCaught (alone : Bool) (row width : ℕ) (v w : View) : Type 0 where
  pub ran : Ran alone v [] w
  pub version : ℕ
  pub was : List ℕ
  pub held : w.held ≡ hold row version was was false ∷ v.held
  pub size : length was ≡ width
  pub free : holds v.held row ≡ false
