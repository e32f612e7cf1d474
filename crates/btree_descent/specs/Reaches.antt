-- A descent that reads nothing: what it came to, and by which frames.
use Rattle.std.specs.Prelude.{◌≡◌, ℕ, Bool, List, [], ◌∷◌}
use Rattle.lean_proto.specs.row_words.declared.event.Event.TheVariants.{Miss}
use Rattle.lean_proto.specs.rows_trait.declared.view.View.{View}
use Rattle.lean_proto.specs.rows_trait.Views.{state}
use Rattle.lean_proto.specs.rows_trait.Causes.{HasMoved, IsLatched}
use Rattle.lean_proto.specs.rows_trait.Turns.{Ran}
use Rattle.btree_descent.specs.declared.descent.Stop.{Stop}
use Rattle.btree_descent.specs.declared.descent.Stop.TheVariants as stop
use Rattle.btree_descent.specs.declared.reach.Way.{Way}
use Rattle.btree_descent.specs.declared.reach.Way.TheVariants.{Leaf, Cold, Moved, Latched}
use Rattle.btree_descent.specs.Descents.{MetCold}
use Rattle.btree_descent.specs.Puts.{IsLeafAt}
use Rattle.btree_descent.specs.Trails.{IsColdBelow, IsTrail}

-- nothing was appended, and the key's leaf stands hot in the row
pub record MetLeaf (alone : Bool) (key row : ℕ) (v w : View) : Type 0 where
  pub ran : Ran alone v [] w
  pub page : ℕ
  pub leaf : IsLeafAt w.given (state w) row page key

-- what it appends, and what holds after it
abbrev pub WentThere : Bool → (worker key : ℕ) → View → Way → View → Type 0
WentThere alone worker key v (Leaf row) w = MetLeaf alone key row v w
WentThere alone worker key v (Cold page) w = MetCold alone key page v w
WentThere alone worker key v (Moved m) w = Ran alone v (Miss worker ∷ []) w
WentThere alone worker key v (Latched l) w = Ran alone v (Miss worker ∷ []) w

-- what the row is to which it came: the leaf's, or that of the node that names the page that is not hot
abbrev pub IsThere : (key row : ℕ) → Way → View → Type 0
IsThere key row (Leaf at) w = at ≡ row
IsThere key row (Cold page) w = IsColdBelow w.given (state w) key row page
IsThere key row (Moved m) w = Unit {0}
IsThere key row (Latched l) w = Unit {0}

-- the path is a trail to that row
pub record CameThere (alone : Bool) (frames key : ℕ) (path : List ℕ) (v : View) (way : Way) (w : View) : Type 0 where
  pub row : ℕ
  pub trail : IsTrail alone frames key path row v w
  pub there : IsThere key row way w

-- the leaf, or a page on the way that is not hot
abbrev pub IsSettledWay : Way → Type 0
IsSettledWay (Moved m) = ⊥
IsSettledWay (Latched l) = ⊥
IsSettledWay _ = Unit {0}

-- what a call that began at the view u has loaded by the time at which it refused
abbrev pub WayCaused : View → Way → View → Type 0
WayCaused u (Moved m) w = HasMoved m.row m.seen m.found u w
WayCaused u (Latched l) w = IsLatched l.row l.word u w
WayCaused u _ w = Unit {0}

-- why it ended short of the leaf
abbrev pub way_of : Stop → Way
way_of (stop.Cold page) = Cold page
way_of (stop.Moved m) = Moved m
way_of (stop.Latched l) = Latched l
