-- How far a tidying has come, which neighbour it wants, and how many changes of the tree are still to come.
use Rattle.std.specs.Prelude.{◌≡◌, ◌⊎◌, ◌≤◌, ◌<◌, ◌-◌, ◌^◌, ℕ, suc, true, false, Some, None}
use Rattle.row_changes.specs.session_state.core_state.Openings.{Opening}
use Rattle.row_changes.specs.session_state.core_state.States.{State, is_hot, nodes_of}
use Rattle.row_changes.specs.session_state.worker_log.Logs.{Log}
use Rattle.row_changes.specs.session_state.Undo.{HasRoomToStage}
use Rattle.row_changes.specs.session_state.declared.session.Session.{Session}
use Rattle.row_tidying.specs.tidy_rules.Tidying.{Sisters, Stage, is_thin, join_under, page_at, sisters}
use Rattle.row_walks.specs.declared.steps.At.{At}
use Rattle.row_walks.specs.declared.steps.At.TheVariants as at

-- as the rules name it
abbrev pub stage_of : At → Stage
stage_of at.Before = Stage.Before
stage_of (at.From level) = Stage.From level
stage_of at.Over = Stage.Over

-- the lowest level that may still be joined
abbrev pub level_of : At → ℕ
level_of at.Before = 0
level_of (at.From level) = level
level_of at.Over = 0

-- From that level up to this one each page of the key's way is thin, and is not joined.
pub record IsPassed (own : ℕ) (g : Opening) (s : State) (key : ℕ) (a : At) (level : ℕ) : Type 0 where
  pub from : level_of a ≤ level
  pub within : level ≤ g.format.levels
  pub thin : (l : ℕ) → level_of a ≤ l → l < level → is_thin s (page_at g s key l) ≡ true
  pub none : (l : ℕ) → level_of a ≤ l → l < level → join_under own g s (page_at g s key l) (page_at g s key (suc l)) ≡ None

-- one of the two that would be joined at this level is this page, which is not hot
pub record IsNeighbour (g : Opening) (s : State) (key l page : ℕ) : Type 0 where
  pub thin : is_thin s (page_at g s key l) ≡ true
  pub own_page : ℕ
  pub found : page_at g s key l ≡ Some own_page
  pub parent : ℕ
  pub found_parent : page_at g s key (suc l) ≡ Some parent
  pub pair : Sisters
  pub are : sisters (nodes_of s parent).pairs own_page ≡ Some pair
  pub either : (page ≡ pair.left) ⊎ (page ≡ pair.right)
  pub cold : is_hot (s.place page) ≡ false

-- at most so many changes of the tree are still to come: a purge, a join for each level below the greatest one, and a drop
abbrev pub left_of : (levels : ℕ) → At → ℕ
left_of levels at.Before = suc (suc levels)
left_of levels (at.From level) = suc (levels - level)
left_of levels at.Over = 0

-- No test refuses them; the log has room for their records, for one of a change behind them, and for what its session puts back.
pub record MayShrink (x : Session) (log : Log) (levels : ℕ) (a : At) : Type 0 where
  pub works : x.works ≡ true
  pub is_open : x.is_open ≡ true
  pub whole : x.is_half_aborted ≡ false
  pub small : x.clock.clock < 2 ^ 62
  pub room : HasRoomToStage log (suc (left_of levels a))
