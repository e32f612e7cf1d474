-- What is seen of a frame without a latch: the page that stands hot there, as it stands. And what a latch from there has.
use Rattle.std.specs.Prelude.{◌≡◌, ◌≢◌, ◌≤◌, ◌<◌, ◌+◌, ℕ, suc, Bool, true, false, List, [], ◌∷◌, ◌++◌, length, slice_index, Option, Some, None}
use Rattle.page_model.specs.Limits.{frame_bit}
use Rattle.page_model.specs.Page.{word_at}
use Rattle.page_model.specs.Page as stored
use Rattle.page_model.specs.Check.{names_page}
use Rattle.btree_descent.specs.btree_node.Words.{words_of, Fits}
use Rattle.btree_descent.specs.core_state.States.{Place, is_hot}
use Rattle.btree_descent.specs.row_words.declared.event.Event.TheVariants.{Miss}
use Rattle.btree_descent.specs.row_words.declared.given.Given.{Given}
use Rattle.btree_descent.specs.row_words.Moments.{Moment}
use Rattle.btree_descent.specs.row_words.Openings.{opening}
use Rattle.btree_descent.specs.row_words.Words.{is_inner}
use Rattle.btree_descent.specs.rows_trait.declared.view.Act.{Act}
use Rattle.btree_descent.specs.rows_trait.declared.view.View.{View}
use Rattle.btree_descent.specs.rows_trait.Views.{Shape, IsEven, Knows, Spells, latest, state}
use Rattle.btree_descent.specs.rows_trait.Causes.{HasFound, HasMoved}
use Rattle.btree_descent.specs.rows_trait.Turns.{Ran, Taken}
use Rattle.btree_descent.specs.version_latch.declared.glimpse.TheConstants.{LAST}
use Rattle.btree_descent.specs.version_latch.declared.glimpse.Unheld.{Unheld}
use Rattle.btree_descent.specs.version_latch.declared.glimpse.Unheld.TheVariants.{Moved, RowSpent}
use Rattle.btree_descent.specs.version_latch.declared.glimpse.Moved as two
use Rattle.btree_descent.specs.swips.declared.hint.TheConstants.{MARK}
use Rattle.btree_descent.specs.Known.{Sound}
use Rattle.row_image.specs.declared.sight.Sight.{Sight}
use Rattle.row_image.specs.Hot.{StandsIn, IsBare}
use Rattle.row_image.specs.Looks.{AreKnown}

-- ## Sights

-- the words of the sight were loaded of its row after this even version, and the row had no mark
pub record IsKnown (s : Sight) (acts : List Act) : Type 0 where
  pub free : IsEven s.glimpse.version
  pub fits : Fits s.node
  pub words : AreKnown s.glimpse.row s.glimpse.version 126 (words_of s.node) acts
  pub hint : ℕ
  pub unmarked : hint ≢ MARK
  pub shows : Knows s.glimpse.row s.glimpse.version 126 hint acts

-- Nothing was appended. The row was found free, and at the end the page of the sight stands hot in it as the sight has it.
pub record IsSight (alone : Bool) (row : ℕ) (v : View) (s : Sight) (w : View) : Type 0 where
  pub ran : Ran alone v [] w
  pub of_row : s.glimpse.row ≡ row
  pub found : HasFound row s.glimpse.version v w
  pub stands : StandsIn w.given (state w) row s.node
  pub known : IsKnown s w.steps
  -- nothing else was found of the row's latch since
  pub last : latest row w.steps ≡ Some s.glimpse.version

-- what was seen of the row, or that no hot page stands there at the end
abbrev pub HasSeen : Bool → (row : ℕ) → View → Option Sight → View → Type 0
HasSeen alone row v (Some s) w = IsSight alone row v s w
HasSeen alone row v None w = Ran alone v [] w × IsBare w.given (state w) row

-- ## Latches

-- these words of a row are those of the sight
pub record HasWords (s : Sight) (was : List ℕ) : Type 0 where
  pub size : length was ≡ 128
  pub fits : Fits s.node
  pub words : (i : ℕ) → i < 126 → slice_index was i ≡ slice_index (words_of s.node) i
  pub unmarked : slice_index was 126 ≢ MARK

-- Nothing was appended. The row was latched from the sight's version and has the sight's words, so the page stands in it as it was seen.
pub record HasTaken (z : Shape) (s : Sight) (v w : View) : Type 0 where
  pub ran : Ran z.alone v [] w
  pub taken : Taken z s.glimpse.row s.glimpse.version (λ _. []) v w
  pub words : HasWords s taken.was
  pub stands : StandsIn w.given (state w) s.glimpse.row s.node

-- a miss was appended: the latch of the row was another number than the sight's version
pub record IsBehind (alone : Bool) (actor : ℕ) (s : Sight) (v : View) (m : two.Moved) (w : View) : Type 0 where
  pub ran : Ran alone v (Miss actor ∷ []) w
  pub held : w.held ≡ v.held
  pub of_row : m.row ≡ s.glimpse.row
  pub seen : m.seen ≡ s.glimpse.version
  pub unequal : m.found ≢ m.seen
  pub looked : HasFound m.row m.found v w
  pub cause : (u : View) → HasFound s.glimpse.row s.glimpse.version u v → HasMoved m.row m.seen m.found u w

-- why the row was not latched: its latch was another number, or its version has come to the last one, and then nothing was done
abbrev pub IsUnheld : Bool → (actor : ℕ) → Sight → View → Unheld → View → Type 0
IsUnheld alone actor s v (Moved m) w = IsBehind alone actor s v m w
IsUnheld alone actor s v RowSpent w = (LAST ≤ s.glimpse.version) × (w ≡ v)

-- the version has come to the last one
abbrev pub IsSpent : Unheld → Type 0
IsSpent (Moved m) = ⊥
IsSpent RowSpent = Unit {0}

-- ## Children

-- a child of page p is hot in the frame
pub record HasHotChild (v : Given) (m : Moment) (p f : ℕ) : Type 0 where
  pub page : ℕ
  pub names : names_page (m.core.page p).node page ≡ true
  pub hot : m.core.place page ≡ Place.Hot f
  pub within : f < (opening v).frames
  pub lower : suc (m.core.page page).node.level ≡ (m.core.page p).node.level

-- of an inner node's pairs this is the first that has the word
pub record IsFirst (n : stored.Page) (word at : ℕ) : Type 0 where
  pub inner : is_inner n.node ≡ true
  pub short : at < length n.node.pairs
  pub word_is : word_at at n.node.pairs ≡ word
  pub before : (j : ℕ) → j < at → word_at j n.node.pairs ≢ word

-- no pair of an inner node has the word
abbrev pub HasNone : stored.Page → ℕ → Type 0
HasNone n word = is_inner n.node ≡ true → (j : ℕ) → j < length n.node.pairs → word_at j n.node.pairs ≢ word

-- pair `at` of the node of page p names page q
pub record NamesAt (m : Moment) (p at q : ℕ) : Type 0 where
  pub inner : is_inner (m.core.page p).node ≡ true
  pub short : at < length (m.core.page p).node.pairs
  pub names : word_at at (m.core.page p).node.pairs ≡ q

-- The pairs of a page that stands in a row, and those of the node: a word is that of the frame where the page is hot, else the page's number.
pub record PairLaws (m : Moment) (n : stored.Page) : Type 0 where
  pub hot : (at f : ℕ) → is_inner n.node ≡ true → at < length n.node.pairs → word_at at n.node.pairs ≡ frame_bit + f → (q : ℕ) × NamesAt m n.number at q × (m.core.place q ≡ Place.Hot f)
  pub cold : (at p : ℕ) → is_inner n.node ≡ true → at < length n.node.pairs → word_at at n.node.pairs ≡ p → p < frame_bit → NamesAt m n.number at p × (is_hot (m.core.place p) ≡ false)
  pub named_hot : (at q f : ℕ) → NamesAt m n.number at q → m.core.place q ≡ Place.Hot f → (is_inner n.node ≡ true) × (at < length n.node.pairs) × (word_at at n.node.pairs ≡ frame_bit + f)
  pub named_cold : (at q : ℕ) → NamesAt m n.number at q → is_hot (m.core.place q) ≡ false → (is_inner n.node ≡ true) × (at < length n.node.pairs) × (word_at at n.node.pairs ≡ q)

-- ## Laws

-- What is known of a row stays known whatever the seat does, and a row that has the sight's words has its page.
pub record SightLaws (s : Sight) : Type 0 where
  pub known : (more acts : List Act) → IsKnown s acts → IsKnown s (more ++ acts)
  pub stands : (v : Given) (m : Moment) (row : ℕ) (was : List ℕ) → row < (opening v).frames → Sound v m → HasWords s was → Spells v m 128 row was → StandsIn v m row s.node

abbrev pub EverySight : Type 0
EverySight = (s : Sight) → SightLaws s

abbrev pub EveryPair : Type 0
EveryPair = (v : Given) (m : Moment) (row : ℕ) (n : stored.Page) → Sound v m → StandsIn v m row n → PairLaws m n
