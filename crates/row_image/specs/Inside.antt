-- What is known on the way: of views between which rows were only looked at, of words, and of the children's numbers.
use Rattle.std.specs.Prelude.{◌≡◌, ◌<◌, ◌≤◌, ◌+◌, ◌-◌, ◌*◌, ◌/◌, ◌%◌, ◌^◌, ℕ, Bool, true, false, List, [], ◌∷◌, slice_index, Some}
use Rattle.btree_descent.specs.btree_node.Words.{Spells}
use Rattle.btree_descent.specs.core_state.States.{in_frame}
use Rattle.btree_descent.specs.row_words.declared.event.Event.{Event}
use Rattle.btree_descent.specs.row_words.declared.event.Event.TheVariants.{Miss}
use Rattle.btree_descent.specs.row_words.Sealed.{Shown}
use Rattle.btree_descent.specs.rows_trait.declared.view.View.{View}
use Rattle.btree_descent.specs.rows_trait.Views.{IsEven, Has, Since, Knows, IsStill, latest, holds, state}
use Rattle.btree_descent.specs.rows_trait.Causes.{OnlyLoads, HasFound}
use Rattle.btree_descent.specs.rows_trait.Turns.{Ran}
use Rattle.row_image.specs.declared.refusal.Unseen.{Unseen}
use Rattle.row_image.specs.Images.{Caused, written, StaysIn}
pub use Rattle.row_image.specs.Looks.{Watched, AreKnown}

-- At some view between v and w the first word of the frame's row read this number.
pub record Stood (alone : Bool) (v : View) (frame number : ℕ) (w : View) : Type 0 where
  pub at : View
  pub before : Watched alone v at
  pub after : Watched alone at w
  pub shown : Shown at.given (state at) frame 0 number

-- The word x of a pair became y: a page's number stays, and a frame became the number of the page in it. Words that count name frames
-- that are there.
pub record IsNamed (alone : Bool) (frames : ℕ) (v : View) (x y : ℕ) (w : View) : Type 0 where
  pub number : x < 2 ^ 63 → y ≡ x
  pub frame : 2 ^ 63 ≤ x → x - 2 ^ 63 < frames → Stood alone v (x - 2 ^ 63) y w

-- of the pairs below n the words did so, and all other words stay
pub record AreNamed (alone : Bool) (frames n : ℕ) (v : View) (was now : List ℕ) (w : View) : Type 0 where
  pub same : (i : ℕ) → ((j : ℕ) → j < n → i ≡ 7 + 2 * j → ⊥) → slice_index now i ≡ slice_index was i
  pub named : (j : ℕ) → j < n → IsNamed alone frames v (slice_index was (7 + 2 * j)) (slice_index now (7 + 2 * j)) w

-- in a leaf all words stay, and in a node above leaves those of all sixty pairs are named
pub record HasChildren (alone : Bool) (frames : ℕ) (v : View) (was now : List ℕ) (w : View) : Type 0 where
  pub leaf : slice_index was 3 / 256 % 256 ≡ 0 → now ≡ was
  pub inner : 0 < slice_index was 3 / 256 % 256 → AreNamed alone frames 60 v was now w

-- A part of a call refused at one of these rows: a miss was appended, with its cause in the whole call; where nobody else steps and
-- the row is not held it does not.
pub record Refused (alone : Bool) (actor : ℕ) (IsOne : ℕ → Type 0) (v : View) (why : Unseen) (w : View) : Type 0 where
  pub ran : Ran alone v (Miss actor ∷ []) w
  pub cause : (u : View) → OnlyLoads u v → Caused u why w
  pub held : w.held ≡ v.held
  pub at : ℕ
  pub one : IsOne at
  pub never : alone ≡ true → holds v.held at ≡ false → ⊥

-- the row that a word names
abbrev pub IsRowOf : (frames word : ℕ) → ℕ → Type 0
IsRowOf frames word row = (2 ^ 63 ≤ word) × (word - 2 ^ 63 < frames → row ≡ word - 2 ^ 63)

-- the row that one of the first sixty pairs' words names
pub record IsRowIn (frames : ℕ) (words : List ℕ) (row : ℕ) : Type 0 where
  pub pair : ℕ
  pub few : pair < 60
  pub names : IsRowOf frames (slice_index words (7 + 2 * pair)) row

-- the same in a node above leaves
pub record IsChildRow (frames : ℕ) (words : List ℕ) (row : ℕ) : Type 0 where
  pub inner : 0 < slice_index words 3 / 256 % 256
  pub names : IsRowIn frames words row

-- the page stands in the row, and the words spell it as it is written
pub record IsSpelled (w : View) (row p generation : ℕ) (words : List ℕ) : Type 0 where
  pub stands : in_frame ((state w).core.place p) row ≡ true
  pub spells : Spells words (written (state w).core p generation)

-- A look at a row has begun: it was found free, with this version.
pub record Begun (alone : Bool) (row version : ℕ) (v w : View) : Type 0 where
  pub watched : Watched alone v w
  pub free : IsEven version
  pub has : Has row version w.steps
  pub found : HasFound row version v w
  pub since : Since row version w.seen w.steps
  pub last : latest row w.steps ≡ Some version

-- The row was found again with the version, so what was loaded of it are its words, and no event has changed it since.
pub record Again (alone : Bool) (row version : ℕ) (v w : View) : Type 0 where
  pub watched : Watched alone v w
  pub shown : (i x : ℕ) → Knows row version i x v.steps → Shown w.given (state w) row i x
  pub still : (at : List Event) → Since row version at v.steps → IsStill w.given row at w.seen
  pub last : latest row w.steps ≡ Some version

-- The row had moved. A call that began at u and found the version has only looked since.
abbrev pub IsMovedSince : (alone : Bool) (actor row version : ℕ) → View → Unseen → View → Type 0
IsMovedSince alone actor row version v why w = (u : View) → Watched alone u v → HasFound row version u v → (alone ≡ true → latest row v.steps ≡ Some version) → Refused alone actor (λ q. q ≡ row) u why w

-- Nothing was appended. The row was found free, and the words spell the page that stays in it.
pub record IsLoaded (alone : Bool) (v : View) (row generation : ℕ) (words : List ℕ) (w : View) : Type 0 where
  pub ran : Ran alone v [] w
  pub version : ℕ
  pub free : IsEven version
  pub found : HasFound row version v w
  pub spelled : (p : ℕ) → StaysIn alone v row p → IsSpelled w row p generation words
