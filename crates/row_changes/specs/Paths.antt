-- The path to a leaf that is full.
use Rattle.std.specs.Prelude.{◌≡◌, ◌≤◌, ◌<◌, ℕ, suc, true, List, ◌∷◌, length, Some, None}
use Rattle.page_model.specs.Limits.{leaf_room}
use Rattle.map_model.specs.Lists.{Has}
use Rattle.page_model.specs.Nodes.{holds}
use Rattle.page_model.specs.Pairs.{find}
use Rattle.session_state.specs.core_state.States.{Place}
use Rattle.session_state.specs.row_words.Openings.{opening}
use Rattle.session_state.specs.rows_trait.declared.view.View.{View}
use Rattle.session_state.specs.rows_trait.Views.{state}
use Rattle.session_state.specs.lean_proto.Paths.{above}
use Rattle.session_state.specs.btree_descent.Trails.{IsAbove}

-- the leaf of the key is full and has no entry of it
pub record IsUnfit (v : View) (key leaf : ℕ) : Type 0 where
  pub below : leaf < (opening v.given).format.pages
  pub holds : holds ((state v).core.page leaf).node key ≡ true
  pub none : find key ((state v).core.page leaf).node.pairs ≡ None
  pub full : length ((state v).core.page leaf).node.pairs ≡ leaf_room

-- the path goes from the root to this frame, each frame the parent's of the next
pub record IsPathTo (v : View) (frames key : ℕ) (path : List ℕ) (leaf : ℕ) : Type 0 where
  pub under_root : List ℕ
  pub starts : path ≡ 0 ∷ under_root
  pub ends : above path 0 ≡ Some leaf
  pub few : length path ≤ 8
  pub within : (f : ℕ) → Has f path → f < frames
  pub led : (n frame next : ℕ) → above path (suc n) ≡ Some frame → above path n ≡ Some next → IsAbove v.given (state v) key frame next

-- it goes to the frame in which that leaf stands hot
pub record LeadsToFull (v : View) (frames key : ℕ) (path : List ℕ) : Type 0 where
  pub leaf : ℕ
  pub unfit : IsUnfit v key leaf
  pub frame : ℕ
  pub stands : (state v).core.place leaf ≡ Place.Hot frame
  pub path_to : IsPathTo v frames key path frame
