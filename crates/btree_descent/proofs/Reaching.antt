-- A descent that reads nothing: its last look, and where it ended short of the leaf.
use Rattle.std.proofs.Common.{◌≡◌, ℕ, Bool, List, [], subst, sym}
use Rattle.lean_proto.specs.rows_trait.declared.view.View.{View}
use Rattle.lean_proto.specs.rows_trait.Views.{Shape, state}
use Rattle.lean_proto.specs.rows_trait.Turns.{Ran}
use Rattle.lean_proto.proofs.rows_trait.Runs.{ran_append}
use Rattle.btree_descent.specs.declared.descent.Leaf.{Leaf}
use Rattle.btree_descent.specs.declared.descent.Stop.{Stop}
use Rattle.btree_descent.specs.declared.descent.Stop.TheVariants as stop
use Rattle.btree_descent.specs.declared.reach.Way.{Way}
use Rattle.btree_descent.specs.Descents.{Caused, IsSettled, Went}
use Rattle.btree_descent.specs.Inside.{IsAgain, Parted, Reached, StopsAt, Traced, answer_of}
use Rattle.btree_descent.specs.Reaches.{CameThere, IsSettledWay, IsThere, MetLeaf, WayCaused, WentThere, way_of}
use Rattle.btree_descent.specs.Trails.{IsTrail}
use Rattle.btree_descent.proofs.Calls.{frames_after, sound_after}
use Rattle.btree_descent.proofs.Nodes.{IsLeafIn, leaf_in}
use Rattle.btree_descent.proofs.Trails.{Later, trail_on}

-- what the last look showed is the leaf, where the row had its version still
pub met_leaf : (y x : Shape) (worker frames key : ℕ) (v u w : View) (l : Leaf) → x ≡ y → Reached y worker frames key v l.glimpse l.head u → IsAgain x worker key l.glimpse u w
    → MetLeaf y.alone key l.glimpse.row v w
met_leaf y x worker frames key v u w l same r again = record {
  ran = ran_append y.alone v [] u [] w r.ran (subst (λ (z : Shape). Ran z.alone u [] w) same again.ran);
  page = l.head.page;
  leaf = record { below = leaf.below; hot = leaf.hot; leaf = leaf.leaf };
}
  where
    leaf : IsLeafIn w.given (state w) l.glimpse.row l.glimpse.version key l.head u.steps
    leaf = leaf_in w.given (state w) l.glimpse.row l.glimpse.version key l.head u.steps (frames_after y u w frames l.glimpse.row again.ran.given r.leaf.on.sized r.leaf.on.within)
        (sound_after u w again.ran.given r.leaf.on.sound) (λ i n small kn. again.shown i n kn) r.leaf.head r.leaf.node r.leaf.level

-- the trail is one still behind more steps
pub came_on : (alone : Bool) (frames key row : ℕ) (path : List ℕ) (v u w : View) (way : Way) → Later u w → Traced (λ p. path ≡ p) alone frames key row v u → IsThere key row way w → CameThere alone frames key path v way w
came_on alone frames key row path v u w way l t there = record {
  row = row;
  trail = subst (λ (p : List ℕ). IsTrail alone frames key p row v w) (sym t.shown) (trail_on alone frames key t.path row v u w l t.trail);
  there = there;
}

-- ## Short of the leaf

pub went_way : (alone : Bool) (worker key : ℕ) (v w : View) (s : Stop) → Went alone worker key v (answer_of s) w → WentThere alone worker key v (way_of s) w
went_way alone worker key v w (stop.Cold page) h = h
went_way alone worker key v w (stop.Moved m) h = h
went_way alone worker key v w (stop.Latched l) h = h

there_way : (key row : ℕ) (s : Stop) (w : View) → StopsAt key row s w → IsThere key row (way_of s) w
there_way key row (stop.Cold page) w h = h
there_way key row (stop.Moved m) w h = tt
there_way key row (stop.Latched l) w h = tt

pub came_short : (alone : Bool) (frames key : ℕ) (path : List ℕ) (v w : View) (s : Stop) → Parted (λ p. path ≡ p) alone frames key v s w → CameThere alone frames key path v (way_of s) w
came_short alone frames key path v w s p = record {
  row = p.row;
  trail = subst (λ (q : List ℕ). IsTrail alone frames key q p.row v w) (sym p.traced.shown) p.traced.trail;
  there = there_way key p.row s w p.ends;
}

pub caused_way : (u w : View) (s : Stop) → Caused u (answer_of s) w → WayCaused u (way_of s) w
caused_way u w (stop.Cold page) h = h
caused_way u w (stop.Moved m) h = h
caused_way u w (stop.Latched l) h = h

pub settled_way : (s : Stop) → IsSettled (answer_of s) → IsSettledWay (way_of s)
settled_way (stop.Cold page) h = h
settled_way (stop.Moved m) h = h
settled_way (stop.Latched l) h = h
