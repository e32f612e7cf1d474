-- One change of the tree on the way to room, by what a purge of the leaf came to.
use Rattle.std.proofs.Common.{◌≡◌, ◌⊎◌, inl, inr, ◌≤◌, ◌<◌, ◌+◌, ◌%◌, ◌++◌, ℕ, suc, true, List, [], ◌∷◌, append-nil, length, Option, Some, None, Result, Ok, Err, refl, sym, ap, ◌∙◌, subst, arith}
use Rattle.std.proofs.lemmas.List.{append_assoc, length-append}
use Rattle.map_model.specs.Lists.{Has}
use Rattle.map_model.specs.declared.call.Refusal.{Refusal}
use Rattle.map_model.specs.declared.call.Refusal.TheVariants as refusal
use Rattle.page_model.specs.Nodes.{holds, is_leaf}
use Rattle.page_model.specs.Pairs.{find}
use Rattle.page_model.specs.Tree.{Names}
use Rattle.row_growth.specs.session_state.engine_trait.declared.unserved.Unanswered.TheVariants as unanswered
use Rattle.row_growth.specs.session_state.engine_trait.declared.unserved.Unserved.{Unserved}
use Rattle.row_growth.specs.session_state.engine_trait.declared.unserved.Unserved.TheVariants as unserved
use Rattle.row_growth.specs.session_state.core_state.Events as happening
use Rattle.row_growth.specs.session_state.core_state.Needs.{is_held_by, may}
use Rattle.row_growth.specs.session_state.core_state.Openings.{Opening}
use Rattle.row_growth.specs.session_state.core_state.States.{Place, State, nodes_of}
use Rattle.row_growth.specs.session_state.core_state.Steps.{happens}
use Rattle.row_growth.specs.session_state.core_calls.Warms.{IsWarmFrom}
use Rattle.row_growth.specs.session_state.core_calls.Room.{EveryRoom, room_takes}
use Rattle.lean_disk.specs.Faults.{HasCause}
use Rattle.lean_disk.specs.Story.{Story}
use Rattle.row_growth.specs.session_state.disk_image.Records.{entry_of}
use Rattle.row_growth.specs.session_state.worker_log.Logs.{Log}
use Rattle.row_growth.specs.session_state.row_words.declared.event.Event.{Event}
use Rattle.row_growth.specs.session_state.row_words.declared.event.Event.TheVariants.{Lift, Miss, Purge, Split}
use Rattle.row_growth.specs.session_state.row_words.declared.given.Given.{Given}
use Rattle.row_growth.specs.session_state.row_words.Moments.{Moment, event_of}
use Rattle.row_growth.specs.session_state.row_words.Openings.{opening}
use Rattle.row_growth.specs.session_state.row_words.Sealed.{begun}
use Rattle.row_growth.proofs.session_state.row_words.SealedLemmas.{run_append}
use Rattle.row_growth.specs.session_state.rows_trait.Views.{Shape, after_all, state}
use Rattle.row_growth.specs.session_state.rows_trait.declared.view.View.{View}
use Rattle.row_growth.specs.session_state.btree_descent.Trails.{IsAbove}
use Rattle.row_growth.specs.session_state.engine_trait.Refusals.{room_refusal}
use Rattle.row_tidying.specs.tidy_rules.Growth as growth_rules
use Rattle.row_growth.specs.session_state.flush_avoidance.Clocks.{risen}
use Rattle.row_growth.specs.session_state.Holds.{Holds}
use Rattle.row_growth.specs.session_state.Undo.{HasRoomToStage}
use Rattle.row_growth.specs.session_state.declared.session.Session.{Session}
use Rattle.row_growth.specs.btree_smo.Outcomes.{AreMisses}
use Rattle.row_tidying.specs.tidy_rules.Laws.{EveryPurged, gone}
use Rattle.row_tidying.specs.tidy_rules.Rooms.{IsNextRoom, NoneGoes}
use Rattle.row_growth.proofs.row_changes.Misses.{misses_core}
use Rattle.row_growth.proofs.row_changes.SeenLemmas.{seen_core}
use Rattle.row_growth.proofs.row_changes.StepLemmas.{cause_from}
use Rattle.row_growth.specs.row_changes.Paths.{IsPathTo, IsUnfit, LeadsToFull}
use Rattle.row_growth.specs.row_changes.Puts.{MayChange}
use Rattle.row_growth.specs.Rooms.{Grew, IsGrown, IsGrowth, IsNeeded, IsNoRoom, IsPlaced, IsSpentBehind}
use Rattle.row_growth.specs.declared.room.Growth.{Growth}
use Rattle.row_growth.specs.declared.room.Growth.TheVariants as growth
use Rattle.row_growth.specs.declared.room.Placed.{Placed}
use Rattle.row_tidying.specs.Changes.{MayTidy}
use Rattle.row_tidying.specs.Outcomes.{Clears, IsPurged, IsSpared, IsSpentWithin}
use Rattle.row_tidying.specs.declared.purges.Cleared.{Cleared}
use Rattle.row_tidying.specs.declared.purges.Cleared.TheVariants as cleared
use Rattle.row_tidying.proofs.MadeLemmas.{one_in, sound}
use Rattle.row_room.specs.Rooms.{IsKept, IsNoSpace, IsRoomBy, IsRoomed, IsWanting, MadeSpace, TakesPage}
use Rattle.row_room.proofs.FullLemmas.{can_purge, full_for, none_goes, path_end, takes_some}

-- ## What a purge asks

pub may_tidy : (v : View) (x : Session) (log : Log) (key : ℕ) → MayChange v x log key → MayTidy x log
may_tidy v x log key f = record { works = f.works; is_open = f.is_open; whole = f.whole; small = f.small; room = let r = f.room in omega arith }

-- ## At another moment of the same core

module _ (v u : View) (given : u.given ≡ v.given) (core : (state u).core ≡ (state v).core) where
  pub placed_same : (placed : Option Placed) → IsPlaced v placed → IsPlaced u placed
  placed_same None p = tt
  placed_same (Some at) p = ap (λ (s : State). s.place at.page) core ∙ p

  pub may_same : (x : Session) (log : Log) (key : ℕ) → MayChange v x log key → MayChange u x log key
  may_same x log key f = record {
    works = f.works;
    is_open = f.is_open;
    whole = f.whole;
    few = f.few;
    small = f.small;
    room = let e : room_takes (opening u.given) (state u).core key ≡ room_takes (opening v.given) (state v).core key = (λ i. room_takes (opening (given i)) (core i) key) in let r = f.room in omega arith;
    row = ap (λ (s : State). is_held_by (s.row (key % x.held.count)).holder x.own) core ∙ f.row;
    key_low = f.key_low;
  }

  unfit_same : (key leaf : ℕ) → IsUnfit v key leaf → IsUnfit u key leaf
  unfit_same key leaf t = record {
    below = subst (λ (k : Given). leaf < (opening k).format.pages) (sym given) t.below;
    holds = ap (λ (s : State). holds (s.page leaf).node key) core ∙ t.holds;
    none = ap (λ (s : State). find key (s.page leaf).node.pairs) core ∙ t.none;
    full = ap (λ (s : State). length (s.page leaf).node.pairs) core ∙ t.full;
  }

  above_same : (key frame next : ℕ) → IsAbove v.given (state v) key frame next → IsAbove u.given (state u) key frame next
  above_same key frame next a = record {
    routes = record {
      parent = a.routes.parent;
      below = subst (λ (k : Given). a.routes.parent < (opening k).format.pages) (sym given) a.routes.below;
      hot = ap (λ (s : State). s.place a.routes.parent) core ∙ a.routes.hot;
      span = a.routes.span;
      names = subst (λ (s : State). Names (s.page a.routes.parent).node a.routes.span) (sym core) a.routes.names;
      low = a.routes.low;
      high = a.routes.high;
    };
    child = ap (λ (s : State). s.place a.routes.span.child) core ∙ a.child;
  }

  pub leads_same : (frames key : ℕ) (path : List ℕ) → LeadsToFull v frames key path → LeadsToFull u frames key path
  leads_same frames key path t = record {
    leaf = t.leaf;
    unfit = unfit_same key t.leaf t.unfit;
    frame = t.frame;
    stands = ap (λ (s : State). s.place t.leaf) core ∙ t.stands;
    path_to = record {
      under_root = t.path_to.under_root;
      starts = t.path_to.starts;
      ends = t.path_to.ends;
      few = t.path_to.few;
      within = t.path_to.within;
      led = λ n frame next a b. above_same key frame next (t.path_to.led n frame next a b);
    };
  }

-- misses leave the core as it was
pub missed_core : (v u : View) (misses : List Event) → AreMisses misses → u.given ≡ v.given → u.seen ≡ v.seen ++ misses → (state u).core ≡ (state v).core
missed_core v u misses are given seen =
    ap (λ (n : Moment). n.core) ((λ i. after_all (given i) (seen i)) ∙ run_append v.given (begun v.given) v.seen misses) ∙ misses_core v.given (state v) misses are

-- ## A purge

-- an event of a growth is one of room, and takes a page
growth_by : (own : ℕ) (e : Event) → IsGrowth own e → IsRoomBy own e
growth_by own (Split w l r q i) t = t
growth_by own (Lift w c) t = t
growth_by own _ t = absurd t

growth_takes : (own : ℕ) (e : Event) → IsGrowth own e → (before now : List ℕ) (fits : Type 0) → suc (length now) ≡ length before → fits → TakesPage e before now fits
growth_takes own (Split w l r q i) t before now fits few fit = (few, fit)
growth_takes own (Lift w c) t before now fits few fit = (few, fit)
growth_takes own _ t before now fits few fit = absurd t

growth_next : (own : ℕ) (g : Opening) (s : State) (key : ℕ) (e : Event) → IsGrowth own e → NoneGoes g s key → growth_rules.IsNextRoom own g s key (event_of e) → IsNextRoom own g s key (event_of e)
growth_next own g s key (Split w l r q i) t none n = (none, n)
growth_next own g s key (Lift w c) t none n = (none, n)
growth_next own g s key _ t none n = absurd t

module _ (purges : EveryPurged) (rooms : EveryRoom) (z : Shape) (v : View) (x : Session) (log : Log) (h : Holds z v x log) (key : ℕ) (path : List ℕ) (to : LeadsToFull v x.frames key path) (frame : ℕ) (at : frame ≡ to.frame) where
  abbrev g : Opening
  g = opening v.given

  abbrev s : State
  s = (state v).core

  -- the leaf is the one in the frame
  leaf_is : (page : ℕ) → s.place page ≡ Place.Hot frame → page ≡ to.leaf
  leaf_is page stands = one_in z v x log h page to.leaf frame stands (to.stands ∙ ap Place.Hot (sym at))

  module _ (w : View) (y : Session) (is : Log) (old new : Story) where
    pub roomed_by : IsPurged frame 60 v w x y log is old new → IsRoomed key v w x y log is old new
    roomed_by t =
        let keys = gone g s t.page in
        let here = leaf_is t.page t.stands in
        let next : IsNextRoom x.own g s key (happening.Event.Purge x.own t.page keys) = (refl, full_for z v x log h key path to, ap (λ (p : ℕ). holds (nodes_of s p) key) here ∙ to.unfit.holds, refl, t.some) in
        let made = (purges g s).room (sound z v x log h).tree x.own key x.own t.page keys t.made.met next in
        record {
          event = Purge x.own t.page keys;
          by = refl;
          first = [];
          later = t.misses;
          are_first = tt;
          are_later = t.made.are_misses;
          few = let f = t.few in omega arith;
          given = t.made.given;
          seen = t.made.seen;
          met = t.made.met;
          happened = t.made.happened;
          next = next;
          entry = t.made.entry;
          entry_is = t.made.entry_is;
          after = t.made.after;
          stands = t.made.stands;
          keeps = t.made.keeps;
          short = t.made.short;
          session = t.made.session ∙ (λ i. record x { clock = risen x.clock y.clock; first = y.first; free = sym (ap (λ (k : Session). k.free) t.made.session) i });
          free = ap (λ (k : Session). k.free) t.made.session;
          takes =
              let none : room_takes (opening w.given) (state w).core key ≡ 0 = (λ i. room_takes (opening (t.made.given i)) (t.made.happened i) key) ∙ made.takes in
              let some = takes_some z v x log h key path to in
              omega arith;
          stays = t.made.stays;
          warm = t.made.warm key;
        }

  -- ## Where nothing went

  module _ (u : View) (left : ℕ) (t : IsSpared frame 60 left v u) where
    none_gone : gone g s to.leaf ≡ []
    none_gone = empty (gone g s to.leaf) (let e = ap (λ (p : ℕ). length (gone g s p)) here in let f = ap (λ (p : ℕ). length (nodes_of s p).pairs) here in either t.none e f)
      where
        here : t.page ≡ to.leaf
        here = leaf_is t.page t.stands

        empty : (xs : List ℕ) → length xs ≡ 0 → xs ≡ []
        empty [] e = refl
        empty (y ∷ ys) e = absurd (omega arith)

        either : (length (gone g s t.page) ≡ 0) ⊎ (60 < left) → length (gone g s t.page) ≡ length (gone g s to.leaf) → length (nodes_of s t.page).pairs ≡ length (nodes_of s to.leaf).pairs → length (gone g s to.leaf) ≡ 0
        either (inl e) q f = sym q ∙ e
        either (inr more) q f = let sum = t.exact in let all = to.unfit.full in absurd (omega arith)

    pub kept : IsKept key v u
    kept = record { misses = t.misses; are_misses = t.are_misses; few = t.few; given = t.given; seen = t.seen; none = none_goes z v x log h key path to rooms none_gone }

    pub core_kept : (state u).core ≡ (state v).core
    core_kept = missed_core v u t.misses t.are_misses t.given t.seen

    module _ (w : View) (y : Session) (is : Log) (old new : Story) where
      pub grown_behind : IsGrown key u w x y log is old new → IsRoomed key v w x y log is old new
      grown_behind k = record {
        event = k.event;
        by = growth_by x.own k.event k.growth;
        first = t.misses;
        later = [];
        are_first = t.are_misses;
        are_later = tt;
        few = let f = t.few in omega arith;
        given = k.given ∙ t.given;
        seen = k.seen ∙ (ap (λ ys. ys ++ k.event ∷ []) t.seen ∙ append_assoc v.seen t.misses (k.event ∷ []));
        met = (λ i. may (opening (sym t.given i)) (sym core_kept i) (event_of k.event)) ∙ k.met;
        happened = seen_core u w k.event k.given k.seen k.met ∙ (λ i. happens (opening (t.given i)) (core_kept i) (event_of k.event));
        next = growth_next x.own g s key k.event k.growth kept.none
            (subst (λ (q : Given). growth_rules.IsNextRoom x.own (opening q) s key (event_of k.event)) t.given (subst (λ (r : State). growth_rules.IsNextRoom x.own (opening u.given) r key (event_of k.event)) core_kept k.next));
        entry = k.entry;
        entry_is = (λ i. (happens (opening (sym t.given i)) (sym core_kept i) (event_of k.event)).entries) ∙ (k.entry_is ∙ ap (λ (r : State). entry_of x.own k.entry ∷ r.entries) core_kept);
        after = k.after;
        stands = k.stands;
        keeps = k.keeps;
        short = k.short;
        session = k.session;
        free = growth_takes x.own k.event k.growth x.free y.free (room_refusal g s key ≡ None) k.fewer ((λ i. room_refusal (opening (sym t.given i)) (sym core_kept i) key) ∙ k.fits);
        takes = let e : room_takes (opening u.given) (state u).core key ≡ room_takes g s key = (λ i. room_takes (opening (t.given i)) (core_kept i) key) in let less = k.takes in omega arith;
        stays = k.stays ∙ ap (λ (r : State). r.place) core_kept;
        warm = λ hot. k.warm (subst (λ (q : Given). IsWarmFrom (opening q) (state u).core key 0) (sym t.given) (subst (λ (r : State). IsWarmFrom g r key 0) (sym core_kept) hot));
      }

    -- behind further looks at which nothing was seen
    kept_on : (w : View) → w.given ≡ u.given → w.seen ≡ u.seen → IsKept key v w
    kept_on w given seen = record { misses = t.misses; are_misses = t.are_misses; few = t.few; given = given ∙ t.given; seen = seen ∙ t.seen; none = kept.none }

    no_space : (w : View) (why : Refusal) → IsNoRoom u w key why → IsNoSpace key why v w
    no_space w why k = record { kept = kept_on w k.given k.seen; cause = (λ i. room_refusal (opening (sym t.given i)) (sym core_kept i) key) ∙ k.cause }

    wanting : (w : View) (placed : Option Placed) (page : ℕ) → IsNeeded u w x key placed page → IsWanting key placed page v w x
    wanting w placed page k = record { kept = kept_on w k.given k.seen; fits = (λ i. room_refusal (opening (sym t.given i)) (sym core_kept i) key) ∙ k.fits; least = k.least; other = k.other }

    misses_join : (xs ys : List Event) → AreMisses xs → AreMisses ys → AreMisses (xs ++ ys)
    misses_join [] ys a b = b
    misses_join (Miss m ∷ xs) ys a b = misses_join xs ys a b
    misses_join _ ys a b = absurd a

    spent_behind : (w : View) → IsSpentBehind u w → IsSpentWithin 69 v w
    spent_behind w k = record {
      misses = t.misses ++ k.misses;
      are_misses = misses_join t.misses k.misses t.are_misses k.are_misses;
      few = let a = t.few in let b = k.few in let c = length-append t.misses k.misses in omega arith;
      given = k.given ∙ t.given;
      seen = k.seen ∙ (ap (λ ys. ys ++ k.misses) t.seen ∙ append_assoc v.seen t.misses k.misses);
      many = k.many;
    }

    -- by what came of the growth
    pub space_behind : (placed : Option Placed) (w : View) (y : Session) (is : Log) (old new : Story) (same broken : Type 0) (r : Result Growth Unserved) → Grew r key placed u w x y log is old new same broken → MadeSpace r key placed v w x y log is old new same broken
    space_behind placed w y is old new same broken (Ok growth.Grown) k = grown_behind w y is old new k
    space_behind placed w y is old new same broken (Ok (growth.Needs page)) k = (wanting w placed page k.0, k.1)
    space_behind placed w y is old new same broken (Err (unserved.Refused refusal.TooTall)) k = (no_space w refusal.TooTall k.0, k.1)
    space_behind placed w y is old new same broken (Err (unserved.Refused refusal.NoPages)) k = (no_space w refusal.NoPages k.0, k.1)
    space_behind placed w y is old new same broken (Err (unserved.Refused refusal.RowSpent)) k = (spent_behind w k.0, k.1)
    space_behind placed w y is old new same broken (Err (unserved.Unanswered unanswered.DiskFault)) k = k
    space_behind placed w y is old new same broken (Err _) k = absurd k

-- where the purge was refused
pub space_refused : (key frame : ℕ) (placed : Option Placed) (v w : View) (x y : Session) (was is : Log) (old new : Story) (same broken : Type 0) (why : Unserved) → Clears (Err why) frame 60 v w x y was is old new same broken → MadeSpace (Err why) key placed v w x y was is old new same broken
space_refused key frame placed v w x y was is old new same broken (unserved.Refused refusal.RowSpent) k =
    (record { misses = k.0.misses; are_misses = k.0.are_misses; few = let f = k.0.few in omega arith; given = k.0.given; seen = k.0.seen; many = k.0.many }, k.1)
space_refused key frame placed v w x y was is old new same broken (unserved.Unanswered unanswered.DiskFault) k = k
space_refused key frame placed v w x y was is old new same broken _ k = absurd k

-- a purge that came out so
pub cleared_done : (r : Cleared) → r ≡ cleared.Done → (frame most : ℕ) (v w : View) (x y : Session) (was is : Log) (old new : Story) (same broken : Type 0) → Clears (Ok r) frame most v w x y was is old new same broken → IsPurged frame most v w x y was is old new
cleared_done r e frame most v w x y was is old new same broken t = subst (λ k. Clears (Ok k) frame most v w x y was is old new same broken) e t

pub cleared_spared : (r : Cleared) (left : ℕ) → r ≡ cleared.Spared left → (frame most : ℕ) (v w : View) (x y : Session) (was is : Log) (old new : Story) (same broken : Type 0) → Clears (Ok r) frame most v w x y was is old new same broken → IsSpared frame most left v w × same
cleared_spared r left e frame most v w x y was is old new same broken t = subst (λ k. Clears (Ok k) frame most v w x y was is old new same broken) e t

-- ## What it tells of faults

abbrev cleared_refused : Unserved → Result Cleared Unserved
cleared_refused why = Err why

abbrev growth_refused : Unserved → Result Growth Unserved
growth_refused why = Err why

-- a refused purge tells of the same faults
pub purge_told : (a b : ℕ) (why : Unserved) → HasCause a b (cleared_refused why ≡ cleared_refused (unserved.Unanswered unanswered.DiskFault)) → HasCause a b (growth_refused why ≡ growth_refused (unserved.Unanswered unanswered.DiskFault))
purge_told a b why h = cause_from a a b _ _ refl h (λ q. ap cleared_refused (inner q)) (λ q. ap growth_refused (outer q))
  where
    inner : growth_refused why ≡ growth_refused (unserved.Unanswered unanswered.DiskFault) → why ≡ unserved.Unanswered unanswered.DiskFault
    inner q = cc

    outer : cleared_refused why ≡ cleared_refused (unserved.Unanswered unanswered.DiskFault) → why ≡ unserved.Unanswered unanswered.DiskFault
    outer q = cc

-- one that was not refused tells of none, so those of what comes behind it are all
pub behind_told : (a b c : ℕ) (P Q : Type 0) → HasCause a b P → (P → ⊥) → HasCause b c Q → HasCause a c Q
behind_told a b c P Q h calm k = cause_from a b c _ _ (h.calm calm) k (λ q. q) (λ q. q)
