-- Words of private functions: what the pager has found in frames, and rows that it latched from there.
use Rattle.std.specs.Prelude.{◌≡◌, ◌≤◌, ◌<◌, ◌^◌, ℕ, Bool, true, false, List, [], Option, Some, None}
use Rattle.page_model.specs.Page as stored
use Rattle.btree_descent.specs.btree_node.Words.{Fits}
use Rattle.btree_descent.specs.core_state.Needs.{has_hot_child}
use Rattle.btree_descent.specs.core_state.States.{Place, is_hot}
use Rattle.btree_descent.specs.row_words.declared.given.Given.{Given}
use Rattle.btree_descent.specs.row_words.Moments.{Moment}
use Rattle.btree_descent.specs.row_words.Openings.{opening}
use Rattle.btree_descent.specs.rows_trait.declared.view.Act.{Act}
use Rattle.btree_descent.specs.rows_trait.declared.view.View.{View}
use Rattle.btree_descent.specs.rows_trait.Causes.{HasFound}
use Rattle.btree_descent.specs.rows_trait.Turns.{Ran}
use Rattle.btree_descent.specs.rows_trait.Views.{Shape, latest, state}
use Rattle.btree_descent.specs.Inside.{Agrees}
use Rattle.btree_descent.specs.Known.{Sound}
use Rattle.held_rows.specs.Rows.{HoldsOne, HoldsTwo}
use Rattle.held_rows.specs.Steps.{MissedUpTo}
use Rattle.row_image.specs.declared.sight.Sight.{Sight}
use Rattle.row_image.specs.Hot.{IsBare, IsHotIn, StandsIn}
use Rattle.row_image.specs.Sights.{HasNone, IsFirst, IsKnown, IsSight}
use Rattle.page_provider.specs.declared.refusal.Refusal.{Refusal}
use Rattle.page_provider.specs.Cools.{Hangs}
use Rattle.page_provider.specs.Providers.{Provider}
use Rattle.page_provider.specs.Refusals.{Caused, IsOfRow, IsOthers}

-- ## Sights

-- What was seen of a frame is known still; where nobody else steps its latch has been found as nothing else since.
pub record IsSeen (z : Shape) (s : Sight) (v : View) : Type 0 where
  pub inside : s.glimpse.row < z.sizes.frames
  pub frame : s.glimpse.row < (opening v.given).frames
  pub known : IsKnown s v.steps
  pub last : z.alone ≡ true → latest s.glimpse.row v.steps ≡ Some s.glimpse.version

-- a page that stands in a row as the sight has it has no hot child
abbrev pub IsChildless : Sight → Type 0
IsChildless s = (g : Given) (m : Moment) → (opening g).frames ≤ 2 ^ 32 → Sound g m → StandsIn g m s.glimpse.row s.node → has_hot_child (opening g) m.core s.node.number ≡ false

-- The page of the sight has no hot child. Where nobody else steps it is a page that stands hot in the frame, or hangs under it.
pub record HasCandidate (z : Shape) (v : View) (frame : ℕ) (s : Sight) (u : View) : Type 0 where
  pub sight : IsSight z.alone s.glimpse.row v s u
  pub childless : IsChildless s
  pub hangs : z.alone ≡ true → (q : ℕ) → IsHotIn u.given (state u) frame q → (chain : List ℕ) × Hangs (state u).core q chain s.node.number

-- a page without a hot child, or nothing: no hot page stands in the frame, where nobody else steps
abbrev pub Candidate : Shape → View → (frame : ℕ) → Option Sight → View → Type 0
Candidate z v frame (Some s) u = HasCandidate z v frame s u
Candidate z v frame None u = Ran z.alone v [] u × (z.alone ≡ true → IsBare u.given (state u) frame)

-- the first pair of a node that has this word
pub record HasNaming (z : Shape) (v : View) (word : ℕ) (s : Sight) (at : ℕ) (u : View) : Type 0 where
  pub sight : IsSight z.alone s.glimpse.row v s u
  pub pair : IsFirst s.node word at

-- the node that stands in the frame has a pair with the word
pub record IsNamedIn (frame word : ℕ) (u : View) : Type 0 where
  pub node : stored.Page
  pub at : ℕ
  pub stands : StandsIn u.given (state u) frame node
  pub pair : IsFirst node word at

-- or no node that stands there has
abbrev pub NamesIn : (frame word : ℕ) → Bool → View → Type 0
NamesIn frame word true u = IsNamedIn frame word u
NamesIn frame word false u = (n : stored.Page) → StandsIn u.given (state u) frame n → HasNone n word

-- of each page with which the words agree that were loaded of the row: whether a pair of it has the word
abbrev pub HasPair : (row version word : ℕ) → List Act → Bool → Type 0
HasPair row version word acts true = (n : stored.Page) → Fits n → Agrees row version n acts → (at : ℕ) × IsFirst n word at
HasPair row version word acts false = (n : stored.Page) → Fits n → Agrees row version n acts → HasNone n word

-- in one frame
abbrev pub NamingIn : Shape → View → (frame word : ℕ) → Option (Sight × ℕ) → View → Type 0
NamingIn z v frame word (Some x) u = HasNaming z v word x.0 x.1 u
NamingIn z v frame word None u = Ran z.alone v [] u × ((n : stored.Page) → StandsIn u.given (state u) frame n → HasNone n word)

-- no node in a frame has a pair with the word
abbrev pub NoneNames : (frames word : ℕ) → View → Type 0
NoneNames frames word u = (f : ℕ) (n : stored.Page) → f < frames → StandsIn u.given (state u) f n → HasNone n word

abbrev pub Naming : Shape → View → (frames word : ℕ) → Option (Sight × ℕ) → View → Type 0
Naming z v frames word (Some x) u = HasNaming z v word x.0 x.1 u
Naming z v frames word None u = Ran z.alone v [] u × (z.alone ≡ true → NoneNames frames word u)

-- the frame of a node that has one
abbrev pub NamedIn : Shape → View → (frames word : ℕ) → Option ℕ → View → Type 0
NamedIn z v frames word (Some f) u = Ran z.alone v [] u × (f < frames) × IsNamedIn f word u
NamedIn z v frames word None u = Ran z.alone v [] u × (z.alone ≡ true → NoneNames frames word u)

-- the page stands hot in the frame, or is not hot
abbrev pub Standing : Shape → View → (page : ℕ) → Option ℕ → View → Type 0
Standing z v page (Some f) u = Ran z.alone v [] u × ((state u).core.place page ≡ Place.Hot f)
Standing z v page None u = Ran z.alone v [] u × (is_hot ((state u).core.place page) ≡ false)

-- ## Latches

-- a row was not as it has to be: so many misses at most were appended, and no row is held
pub record Stopped (most : ℕ) (z : Shape) (v : View) (why : Refusal) (u : View) : Type 0 where
  pub missed : MissedUpTo most z.alone v u
  pub held : u.held ≡ []
  pub kind : IsOfRow why
  pub quiet : z.alone ≡ true → IsOthers why → ⊥

-- the row of the sight is held, and no other, and its page stands there as it was seen
pub record TakesSeen (z : Shape) (s : Sight) (v u : View) : Type 0 where
  pub ran : Ran z.alone v [] u
  pub one : HoldsOne z u s.glimpse.row
  pub stands : StandsIn u.given (state u) s.glimpse.row s.node

-- the rows of two sights are held
pub record TakesTwo (z : Shape) (a b : Sight) (v u : View) : Type 0 where
  pub ran : Ran z.alone v [] u
  pub two : HoldsTwo z u a.glimpse.row b.glimpse.row
  pub first : StandsIn u.given (state u) a.glimpse.row a.node
  pub second : StandsIn u.given (state u) b.glimpse.row b.node

-- the row of a sight is held, and another one
pub record TakesWith (z : Shape) (a : Sight) (row : ℕ) (v u : View) : Type 0 where
  pub ran : Ran z.alone v [] u
  pub two : HoldsTwo z u a.glimpse.row row
  pub first : StandsIn u.given (state u) a.glimpse.row a.node

-- since a view at which the sight had not been found yet the call has loaded why it stopped
abbrev pub SinceFound : Sight → View → Refusal → View → Type 0
SinceFound s v why u = (from : View) → HasFound s.glimpse.row s.glimpse.version from v → Caused from why u

-- of two sights
abbrev pub SinceBoth : (a b : Sight) → View → Refusal → View → Type 0
SinceBoth a b v why u = (from : View) → HasFound a.glimpse.row a.glimpse.version from v → HasFound b.glimpse.row b.glimpse.version from v → Caused from why u

-- it stopped, and this is why
pub record Halts (most : ℕ) (z : Shape) (v : View) (why : Refusal) (u : View) : Type 0 where
  pub stopped : Stopped most z v why u
  pub cause : Caused v why u

-- It stopped behind others that had done nothing: of the pager's memory the hand alone may have gone on.
pub record Stalls (most : ℕ) (z : Shape) (v : View) (was : Provider) (why : Refusal) (u : View) (is : Provider) : Type 0 where
  pub stopped : Stopped most z v why u
  pub cause : Caused v why u
  pub memory : is ≡ record was { hand = is.hand }
