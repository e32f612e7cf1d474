-- What a look and a descent tell of the moment before them, where nobody else steps.
use Rattle.std.proofs.Common.{◌≡◌, ◌<◌, ◌-◌, ◌==◌, ◌∙◌, ℕ, suc, Bool, true, List, [], length, Option, Some, None, refl, sym, ap, subst, arith}
use Rattle.std.proofs.lemmas.Bool.{and_parts, eqb-true}
use Rattle.page_model.specs.Nodes.{covers, is_leaf}
use Rattle.page_model.specs.Page as stored
use Rattle.row_changes.specs.session_state.core_calls.Warms.{EveryWarm, IsWarmFrom}
use Rattle.row_changes.specs.session_state.core_state.Openings.{Opening}
use Rattle.row_changes.specs.session_state.core_state.States.{Place, State, is_hot, nodes_of}
use Rattle.row_changes.specs.session_state.worker_log.Logs.{Log}
use Rattle.row_changes.specs.session_state.row_words.declared.given.Given.{Given}
use Rattle.row_changes.specs.session_state.row_words.Moments.{Moment}
use Rattle.row_changes.specs.session_state.row_words.Openings.{opening}
use Rattle.row_changes.specs.session_state.rows_trait.Turns.{Ran}
use Rattle.row_changes.specs.session_state.rows_trait.Views.{Shape, after_all, state}
use Rattle.row_changes.specs.session_state.rows_trait.declared.view.View.{View}
use Rattle.row_changes.specs.session_state.lean_proto.Paths.{above}
use Rattle.row_changes.specs.session_state.btree_descent.Reaches.{CameThere, MetLeaf}
use Rattle.row_changes.specs.session_state.btree_descent.declared.reach.Way.TheVariants as way
use Rattle.row_changes.specs.session_state.btree_descent.Trails.{IsAbove}
use Rattle.row_changes.specs.session_state.Holds.{Holds}
use Rattle.row_changes.specs.session_state.declared.session.Session.{Session}
use Rattle.row_changes.proofs.session_state.HoldLemmas.{holds_as}
use Rattle.row_changes.specs.Ways.{IsWarm}
use Rattle.row_changes.proofs.SeenLemmas.{none_seen, still}
use Rattle.row_tidying.specs.row_ends.Flushed.{Looked}
use Rattle.row_image.specs.Hot.{IsBare, StandsIn}
use Rattle.row_image.specs.Sights.{HasSeen}
use Rattle.row_image.specs.declared.sight.Sight.{Sight}
use Rattle.row_tidying.proofs.MadeLemmas.{framed, holds_same, hot_in, sound}
use Rattle.row_walks.specs.Inside.Ways.{IsWayIn, Reaches}
use Rattle.row_walks.proofs.PathLemmas.{climb, found, length_is, names_below, not_root, page, root_is}
use Rattle.row_changes.specs.session_state.core_calls.Room.{EveryRoom}

module _ (z : Shape) (v w : View) (x : Session) (log : Log) (h : Holds z v x log) (ran : Ran z.alone v [] w) (held : w.held ≡ v.held) where
  pub looked : Looked v w
  looked = record { given = ran.given; seen = none_seen z.alone v w h.alone ran; held = held }

  pub holds_looked : (y : Shape) → y ≡ z → Holds y w x log
  holds_looked y e = holds_as z y w x x log e refl (holds_same z v w x log ran.given (ap (λ (m : Moment). m.core) (still v w ran.given looked.seen)) (held ∙ h.idle) h)

  same : state w ≡ state v
  same = still v w looked.given looked.seen

  pub stands_back : (f : ℕ) (n : stored.Page) → StandsIn w.given (state w) f n → StandsIn v.given (state v) f n
  stands_back f n st = subst (λ (k : Given). StandsIn k (state v) f n) ran.given (subst (λ (m : Moment). StandsIn w.given m f n) same st)

  -- where a page stands hot, the row is not bare
  pub not_bare : (p f : ℕ) → (state v).core.place p ≡ Place.Hot f → IsBare w.given (state w) f → ⊥
  not_bare p f hot none = subst (λ (k : Given). IsBare k (state v) f) ran.given (subst (λ (m : Moment). IsBare w.given m f) same none) p (hot_in z v x log h p f hot)

  -- where a descent came to
  pub reaches : (key row : ℕ) (path : List ℕ) → MetLeaf z.alone key row v w → CameThere z.alone x.frames key path v (way.Leaf row) w → Reaches v w x.frames key path
  reaches key row path m t = record {
    given = ran.given;
    seen = looked.seen;
    page = m.page;
    frame = row;
    leaf = m.leaf;
    path_to = record {
      under_root = t.trail.below;
      starts = t.trail.starts;
      ends = t.trail.ends ∙ ap Some (sym t.there);
      few = t.trail.few;
      within = t.trail.within;
      led = λ n frame next p q. carried (t.trail.still h.alone n frame next p q);
    };
  }
    where
      carried : {frame next : ℕ} → IsAbove v.given (state v) key frame next → IsAbove w.given (state w) key frame next
      carried {frame} {next} a = subst (λ es. IsAbove w.given (after_all w.given es) key frame next) (sym looked.seen) (subst (λ k. IsAbove k (after_all k v.seen) key frame next) (sym ran.given) a)

-- the way that it found
pub way_in : EveryRoom → (z : Shape) (v w : View) (x : Session) (log : Log) → Holds z w x log → (key : ℕ) (path : List ℕ) → Reaches v w x.frames key path → IsWayIn w key path
way_in rooms z v w x log h key path r = record {
  page = page rooms z w x log h key path r.page r.frame r.leaf r.path_to;
  some = let e = long in omega arith;
  few = r.path_to.few;
  way = climb rooms z w x log h key path r.page r.frame r.leaf r.path_to;
  found = found rooms z w x log h key path r.page r.frame r.leaf r.path_to;
  names = names_below rooms z w x log h key path r.page r.frame r.leaf r.path_to;
  other = not_root rooms z w x log h key path r.page r.frame r.leaf r.path_to;
  root = (let e : length path - 1 ≡ length r.path_to.under_root = (let k = long in omega arith) in ap (page rooms z w x log h key path r.page r.frame r.leaf r.path_to) e) ∙ root_is rooms z w x log h key path r.page r.frame r.leaf r.path_to;
}
  where
    long : length path ≡ suc (length r.path_to.under_root)
    long = length_is rooms z w x log h key path r.page r.frame r.leaf r.path_to

-- and it is hot: its leaf stands in a frame, so all above it do
pub way_warm : EveryWarm → (z : Shape) (v w : View) (x : Session) (log : Log) → Holds z w x log → (key : ℕ) (path : List ℕ) → Reaches v w x.frames key path → IsWarm v key
way_warm warm z v w x log h key path r =
    subst (λ es. IsWarmFrom (opening v.given) (after_all v.given es).core key 0) r.seen (subst (λ k. IsWarmFrom (opening k) (after_all k w.seen).core key 0) r.given there)
  where
    g : Opening
    g = opening w.given

    s : State
    s = (state w).core

    leaf : (is_leaf (nodes_of s r.page) ≡ true) × (covers (nodes_of s r.page) key ≡ true)
    leaf = and_parts (is_leaf (nodes_of s r.page)) (covers (nodes_of s r.page) key) r.leaf.leaf

    level : (nodes_of s r.page).level ≡ 0
    level = eqb-true (nodes_of s r.page).level 0 (and_parts (nodes_of s r.page).live ((nodes_of s r.page).level == 0) leaf.0).1

    there : IsWarmFrom g s key 0
    there = subst (IsWarmFrom g s key) level ((warm g s key).up (sound z w x log h).tree (sound z w x log h).residence r.page r.leaf.below leaf.1 (ap is_hot r.leaf.hot))

-- where none was seen, none stands
pub none_there : (alone : Bool) (row : ℕ) (v w : View) (s : Option Sight) → s ≡ None → HasSeen alone row v s w → IsBare w.given (state w) row
none_there alone row v w s e t = (subst (λ (k : Option Sight). HasSeen alone row v k w) e t).1
