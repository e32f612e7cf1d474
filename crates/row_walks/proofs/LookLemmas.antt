-- Looks and misses leave the core as it was: what is known before them is known behind them, and the other way round.
use Rattle.std.proofs.Common.{◌≡◌, ◌<◌, ◌∙◌, ℕ, suc, true, false, List, length, Some, None, refl, sym, ap, subst}
use Rattle.page_model.specs.Check.{names_page}
use Rattle.row_changes.specs.session_state.core_state.Events as happening
use Rattle.row_changes.specs.session_state.core_state.Needs.{may_drop, may_join}
use Rattle.row_changes.specs.session_state.core_state.States.{Place, State, nodes_of}
use Rattle.row_changes.specs.session_state.row_words.declared.given.Given.{Given}
use Rattle.row_changes.specs.session_state.row_words.Moments.{Moment}
use Rattle.row_changes.specs.session_state.row_words.Openings.{opening}
use Rattle.row_changes.specs.session_state.rows_trait.Views.{state}
use Rattle.row_changes.specs.session_state.rows_trait.declared.view.View.{View}
use Rattle.row_tidying.specs.tidy_rules.Tidying.{is_thin, join_under, next_drop, page_at}
use Rattle.row_changes.proofs.SeenLemmas.{still}
use Rattle.row_tidying.specs.row_ends.Flushed.{Looked}
use Rattle.row_image.specs.Hot.{StandsIn}
use Rattle.row_image.specs.declared.sight.Sight.{Sight}
use Rattle.row_tidying.specs.Changes.{CanDrop, CanJoin}
use Rattle.row_walks.specs.Inside.Levels.{IsFound, IsJoinable}
use Rattle.row_walks.specs.Inside.Nexts.{IsLastChild, IsNoSingle, IsRootNext}
use Rattle.row_walks.specs.Inside.Ways.{IsOnWay, IsSeen, IsWayIn, frame_at}
use Rattle.row_walks.specs.Stages.{IsNeighbour}
use Rattle.row_walks.specs.declared.levels.Level.{Level}
use Rattle.row_walks.specs.declared.levels.Level.TheVariants as level
use Rattle.row_walks.specs.declared.nexts.Next.{Next}
use Rattle.row_walks.specs.declared.nexts.Next.TheVariants as next

pub looked_self : (v : View) → Looked v v
looked_self v = record { given = refl; seen = refl; held = refl }

pub looked_then : (v u w : View) → Looked v u → Looked u w → Looked v w
looked_then v u w a b = record { given = b.given ∙ a.given; seen = b.seen ∙ a.seen; held = b.held ∙ a.held }

-- what was seen in a frame is so before a look
pub seen_back : (v u : View) → Looked v u → (f : ℕ) (x : Sight) → IsSeen u f x → IsSeen v f x
seen_back v u k f x t = subst (λ (g : Given). StandsIn g (state v) f x.node) k.given (subst (λ (m : Moment). StandsIn u.given m f x.node) (still v u k.given k.seen) t)

pub core_looked : (v u : View) → Looked v u → (state u).core ≡ (state v).core
core_looked v u k = ap (λ (m : Moment). m.core) (still v u k.given k.seen)

module _ (v u : View) (given : u.given ≡ v.given) (core : (state u).core ≡ (state v).core) where
  pub onward : (P : Given → State → Type 0) → P v.given (state v).core → P u.given (state u).core
  onward P p = subst (λ (g : Given). P g (state u).core) (sym given) (subst (λ (s : State). P v.given s) (sym core) p)

  pub back : (P : Given → State → Type 0) → P u.given (state u).core → P v.given (state v).core
  back P p = subst (λ (g : Given). P g (state v).core) given (subst (λ (s : State). P u.given s) core p)

  pub hot_on : (p f : ℕ) → (state v).core.place p ≡ Place.Hot f → (state u).core.place p ≡ Place.Hot f
  hot_on p f = onward (λ g s. s.place p ≡ Place.Hot f)

  pub way_on : (key : ℕ) (path : List ℕ) → IsWayIn v key path → IsWayIn u key path
  way_on key path w = record {
    page = w.page;
    some = w.some;
    few = w.few;
    way = onward (λ g s. (l : ℕ) → l < length path → IsOnWay (opening g) s key l (w.page l) (frame_at path l)) w.way;
    found = onward (λ g s. (l : ℕ) → l < length path → page_at (opening g) s key l ≡ Some (w.page l)) w.found;
    names = onward (λ g s. (l : ℕ) → suc l < length path → names_page (nodes_of s (w.page (suc l))) (w.page l) ≡ true) w.names;
    other = w.other;
    root = w.root;
  }

  can_join_back : (a b d page : ℕ) → CanJoin u a b d page → CanJoin v a b d page
  can_join_back a b d page c = record {
    left = c.left;
    parent = c.parent;
    left_stands = back (λ g s. s.place c.left ≡ Place.Hot a) c.left_stands;
    right_stands = back (λ g s. s.place page ≡ Place.Hot b) c.right_stands;
    parent_stands = back (λ g s. s.place c.parent ≡ Place.Hot d) c.parent_stands;
    joins = back (λ g s. may_join (opening g) (nodes_of s) c.left page c.parent ≡ true) c.joins;
  }

  unfoldable pub can_join_on : (a b d page : ℕ) → CanJoin v a b d page → CanJoin u a b d page
  can_join_on a b d page c = record {
    left = c.left;
    parent = c.parent;
    left_stands = onward (λ g s. s.place c.left ≡ Place.Hot a) c.left_stands;
    right_stands = onward (λ g s. s.place page ≡ Place.Hot b) c.right_stands;
    parent_stands = onward (λ g s. s.place c.parent ≡ Place.Hot d) c.parent_stands;
    joins = onward (λ g s. may_join (opening g) (nodes_of s) c.left page c.parent ≡ true) c.joins;
  }

  pub can_drop_on : (frame page : ℕ) → CanDrop v frame page → CanDrop u frame page
  can_drop_on frame page c = record {
    stands = onward (λ g s. s.place page ≡ Place.Hot frame) c.stands;
    drops = onward (λ g s. may_drop (nodes_of s) page ≡ true) c.drops;
  }

  -- what was found of a level
  pub found_back : (what : Level) (own key l : ℕ) → IsFound what own u key l → IsFound what own v key l
  unfolding can_join_back
  found_back level.Thick own key l f = back (λ g s. is_thin s (page_at (opening g) s key l) ≡ false) f
  found_back level.Single own key l f =
      back (λ g s. (is_thin s (page_at (opening g) s key l) ≡ true) × (join_under own (opening g) s (page_at (opening g) s key l) (page_at (opening g) s key (suc l)) ≡ None)) f
  found_back (level.Needs page) own key l f = back (λ g s. IsNeighbour (opening g) s key l page) f
  found_back (level.Joins a b d page) own key l f = record {
    thin = back (λ g s. is_thin s (page_at (opening g) s key l) ≡ true) f.thin;
    can = can_join_back a b d page f.can;
    next = back (λ g s. join_under own (opening g) s (page_at (opening g) s key l) (page_at (opening g) s key (suc l)) ≡ Some (happening.Event.Join own f.can.left page f.can.parent)) f.next;
    found = back (λ g s. page_at (opening g) s key (suc l) ≡ Some f.can.parent) f.found;
    high = f.high;
  }

  -- and of the root
  pub root_back : (what : Next) → IsRootNext what u → IsRootNext what v
  root_back next.Nothing f = back (λ g s. (own : ℕ) → next_drop own s ≡ None) f
  root_back (next.Drops frame page) f = record {
    can = record {
      stands = back (λ g s. s.place page ≡ Place.Hot frame) f.can.stands;
      drops = back (λ g s. may_drop (nodes_of s) page ≡ true) f.can.drops;
    };
    next = back (λ g s. (own : ℕ) → next_drop own s ≡ Some (happening.Event.Drop own page)) f.next;
  }
  root_back _ f = absurd f
