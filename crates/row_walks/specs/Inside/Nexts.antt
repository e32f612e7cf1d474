-- What is next from a level on, where all below it is done: where the walk up stops, and whether the root's one child is dropped.
use Rattle.std.specs.Prelude.{◌≡◌, ◌≤◌, ◌<◌, ◌-◌, ℕ, suc, true, Option, Some, None}
use Rattle.row_changes.specs.session_state.core_state.Events as happening
use Rattle.row_changes.specs.session_state.core_state.Openings.{Opening}
use Rattle.row_changes.specs.session_state.core_state.States.{State, nodes_of}
use Rattle.row_changes.specs.session_state.row_words.Openings.{opening}
use Rattle.row_changes.specs.session_state.rows_trait.declared.view.View.{View}
use Rattle.row_changes.specs.session_state.rows_trait.Views.{state}
use Rattle.row_tidying.specs.tidy_rules.Tidying.{is_thin, join_under, next_drop, next_up, page_at}
use Rattle.row_tidying.specs.Changes.{CanDrop, CanJoin}
use Rattle.row_walks.specs.Inside.Levels.{IsFound}
use Rattle.row_walks.specs.Stages.{IsNeighbour}
use Rattle.row_walks.specs.declared.levels.Level.{Level}
use Rattle.row_walks.specs.declared.levels.Level.TheVariants as level
use Rattle.row_walks.specs.declared.nexts.Next.{Next}
use Rattle.row_walks.specs.declared.nexts.Next.TheVariants as next

-- ## Where the walk stops

-- from one level up to another each page of the key's way is thin, and is not joined
pub record ArePassed (own : ℕ) (g : Opening) (s : State) (key from to : ℕ) : Type 0 where
  pub low : from ≤ to
  pub high : to ≤ g.format.levels
  pub thin : (l : ℕ) → from ≤ l → l < to → is_thin s (page_at g s key l) ≡ true
  pub none : (l : ℕ) → from ≤ l → l < to → join_under own g s (page_at g s key l) (page_at g s key (suc l)) ≡ None

-- it is not one that the walk passes
abbrev pub IsNoSingle : Level → Type 0
IsNoSingle level.Single = ⊥
IsNoSingle _ = Unit {0}

-- The levels up to this one are passed, and there this is found, which the walk does not pass.
pub record IsStop (own : ℕ) (v : View) (key from l : ℕ) (what : Level) : Type 0 where
  pub passed : ArePassed own (opening v.given) (state v).core key from l
  pub other : IsNoSingle what
  pub found : IsFound what own v key l

-- ## The drop

-- the page in the frame is the root's one child, and its drop is next
pub record IsLastChild (v : View) (frame page : ℕ) : Type 0 where
  pub can : CanDrop v frame page
  pub next : (own : ℕ) → next_drop own (state v).core ≡ Some (happening.Event.Drop own page)

abbrev pub IsRootNext : Next → View → Type 0
IsRootNext next.Nothing v = (own : ℕ) → next_drop own (state v).core ≡ None
IsRootNext (next.Drops frame page) v = IsLastChild v frame page
IsRootNext _ v = ⊥

-- ## What is next

-- from this level on
abbrev pub up_from : (own : ℕ) → View → (key from : ℕ) → Option happening.Event
up_from own v key from = next_up own (opening v.given) (state v).core key ((opening v.given).format.levels - from) from

-- the levels up to this one are passed, and there the neighbour, this page, is not hot
pub record IsWanted (own : ℕ) (v : View) (key from page l : ℕ) : Type 0 where
  pub passed : ArePassed own (opening v.given) (state v).core key from l
  pub neighbour : IsNeighbour (opening v.given) (state v).core key l page

-- at this level the pages in the frames are joined
pub record IsNextJoin (own : ℕ) (v : View) (key from a b d page l : ℕ) : Type 0 where
  pub can : CanJoin v a b d page
  pub next : up_from own v key from ≡ Some (happening.Event.Join own can.left page can.parent)
  pub low : from ≤ l
  pub high : l < (opening v.given).format.levels
  pub level : (nodes_of (state v).core can.parent).level ≡ suc l

-- the root's one child is dropped
pub record IsNextDrop (own : ℕ) (v : View) (key from frame page : ℕ) : Type 0 where
  pub can : CanDrop v frame page
  pub next : up_from own v key from ≡ Some (happening.Event.Drop own page)

abbrev pub IsNext : Next → (own : ℕ) → View → (key from : ℕ) → Type 0
IsNext next.Nothing own v key from = up_from own v key from ≡ None
IsNext (next.Needs page l) own v key from = IsWanted own v key from page l
IsNext (next.Joins a b d page l) own v key from = IsNextJoin own v key from a b d page l
IsNext (next.Drops frame page) own v key from = IsNextDrop own v key from frame page
