-- The way to a key's leaf, frame by frame.
use Rattle.std.specs.Prelude.{◌≡◌, ◌≢◌, ◌≤◌, ◌<◌, ◌-◌, ℕ, suc, true, List, length, slice_index, Some}
use Rattle.page_model.specs.Check.{names_page}
use Rattle.page_model.specs.Nodes.{covers}
use Rattle.row_changes.specs.session_state.core_state.Openings.{Opening}
use Rattle.row_changes.specs.session_state.core_state.States.{Place, State, nodes_of}
use Rattle.row_changes.specs.session_state.row_words.Openings.{opening}
use Rattle.row_changes.specs.session_state.rows_trait.declared.view.View.{View}
use Rattle.row_changes.specs.session_state.rows_trait.Views.{state}
use Rattle.row_changes.specs.session_state.btree_descent.Puts.{IsLeafAt}
use Rattle.row_tidying.specs.tidy_rules.Tidying.{page_at}
use Rattle.row_image.specs.Hot.{StandsIn}
use Rattle.row_image.specs.declared.sight.Sight.{Sight}
use Rattle.row_changes.specs.Paths.{IsPathTo}

-- The path goes from the root's frame to that of the key's leaf, and nothing was seen.
pub record Reaches (v w : View) (frames key : ℕ) (path : List ℕ) : Type 0 where
  pub given : w.given ≡ v.given
  pub seen : w.seen ≡ v.seen
  pub page : ℕ
  pub frame : ℕ
  pub leaf : IsLeafAt w.given (state w) frame page key
  pub path_to : IsPathTo w frames key path frame

-- the frame of the page of this level
abbrev pub frame_at : List ℕ → (level : ℕ) → ℕ
frame_at path l = slice_index path (length path - suc l)

-- a page of the key's way, hot in this frame
pub record IsOnWay (g : Opening) (s : State) (key l p frame : ℕ) : Type 0 where
  pub hot : s.place p ≡ Place.Hot frame
  pub below : p < g.format.pages
  pub covers : covers (nodes_of s p) key ≡ true
  pub level : (nodes_of s p).level ≡ l

-- the pages of the key's way stand hot in the frames of the path, from the root's to the leaf's
pub record IsWayIn (v : View) (key : ℕ) (path : List ℕ) : Type 0 where
  pub page : ℕ → ℕ
  pub some : 0 < length path
  pub few : length path ≤ 8
  pub way : (l : ℕ) → l < length path → IsOnWay (opening v.given) (state v).core key l (page l) (frame_at path l)
  pub found : (l : ℕ) → l < length path → page_at (opening v.given) (state v).core key l ≡ Some (page l)
  pub names : (l : ℕ) → suc l < length path → names_page (nodes_of (state v).core (page (suc l))) (page l) ≡ true
  pub other : (l : ℕ) → suc l < length path → page l ≢ 0
  pub root : page (length path - 1) ≡ 0

-- the page that stands hot in the frame is as it was seen
abbrev pub IsSeen : View → (frame : ℕ) → Sight → Type 0
IsSeen v frame x = StandsIn v.given (state v) frame x.node
