-- Rows with their pager, where nobody else steps.
use Rattle.std.specs.Prelude.{◌≡◌, ◌<◌, ℕ, true, false, []}
use Rattle.core_calls.specs.Warms.{IsWarmFrom}
use Rattle.lean_disk.specs.Story.{Story, Tells}
use Rattle.page_provider.specs.Mirrored.{IsMirrored}
use Rattle.page_provider.specs.Providers.{Keeps, Provider}
use Rattle.page_model.specs.Check.{names_page}
use Rattle.page_model.specs.Nodes.{covers}
use Rattle.btree_descent.specs.core_state.Openings.{Opening}
use Rattle.btree_descent.specs.core_state.States.{State}
use Rattle.btree_descent.specs.row_words.Openings.{opening}
use Rattle.btree_descent.specs.rows_trait.declared.view.View.{View}
use Rattle.btree_descent.specs.rows_trait.Views.{Shape, state}

-- the rows, what their seat has seen, and the pager's memory
pub record Paged : Type 0 where
  pub shape : Shape
  pub view : View
  pub pager : Provider

abbrev pub paged : Shape → View → Provider → Paged
paged z v k = record { shape = z; view = v; pager = k }

-- Nobody else steps, no row is held, and the pager keeps what it has to.
pub record IsPaged (p : Paged) : Type 0 where
  pub alone : p.shape.alone ≡ true
  pub held : p.view.held ≡ []
  pub keeps : Keeps p.shape p.view p.pager

-- The device tells of the pages' area, and the slots hold what the core has saved.
pub record IsFed (p : Paged) (s : Story) : Type 0 where
  pub tells : Tells s 1
  pub mirrored : IsMirrored p.view p.pager s

-- so it is where the rows began faithful, as those over such a device do
abbrev pub IsFedIfFaithful : Paged → Story → Type 0
IsFedIfFaithful p s = p.view.given.faithful ≡ true → IsFed p s

-- each page on the key's way is hot, from this level up
abbrev pub IsWarm : Paged → (key level : ℕ) → Type 0
IsWarm p key level = IsWarmFrom (opening p.view.given) (state p.view).core key level

-- a page of the disk that is no node of the tree
abbrev pub IsFree : Paged → (page : ℕ) → Type 0
IsFree p page = (page < (opening p.view.given).format.pages) × (((state p.view).core.page page).node.live ≡ false)

-- A page that a page of the key's way names: the next one of the way, or one beside it, with which that one may be joined.
pub record IsNamedIn (g : Opening) (s : State) (key page : ℕ) : Type 0 where
  pub parent : ℕ
  pub below : parent < g.format.pages
  pub on : covers (s.page parent).node key ≡ true
  pub names : names_page (s.page parent).node page ≡ true

-- such a page
abbrev pub IsNamed : Paged → (key page : ℕ) → Type 0
IsNamed p key page = IsNamedIn (opening p.view.given) (state p.view).core key page
