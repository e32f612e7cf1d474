-- The look at a leaf.
use Rattle.std.proofs.Common.{◌≡◌, ◌↔◌, ◌∙◌, inl, inr, ◌≤◌, ◌<◌, ◌%◌, ◌++◌, ◌==◌, ◌&&◌, ltb, ℕ, max, true, cond, List, [], ◌∷◌, length, Some, None, refl, sym, ap, subst, arith, append-nil, eq-eqb}
use Rattle.std.proofs.lemmas.Bool.{and_parts, cond-true, eqb-true, lt-ltb, ltb-true}
use Rattle.std.proofs.lemmas.List.{append_assoc}
use Rattle.std.specs.List.{list_any}
use Rattle.map_model.specs.Lists.{Has, upd}
use Rattle.map_model.specs.Maps.{MapAnswer}
use Rattle.page_model.specs.Laws.{EveryTree}
use Rattle.page_model.specs.Nodes.{Node, NodeOk, covers, holds, is_leaf}
use Rattle.rfa_model.specs.Stamps.{owed}
use Rattle.row_changes.specs.session_state.core_calls.LogEvents.{behind as waits}
use Rattle.row_changes.specs.session_state.core_calls.Warms.{EveryWarm, IsWarmFrom}
use Rattle.row_changes.proofs.session_state.core_commit.Nexts.{following_at, following_is}
use Rattle.row_changes.specs.session_state.core_index.Walks.{met_keys}
use Rattle.row_changes.specs.session_state.core_state.Needs.{following, holds_answer, holds_row, is_following, is_leaf_of, may}
use Rattle.row_changes.specs.session_state.core_state.Openings.{Opening}
use Rattle.row_changes.specs.session_state.core_state.States.{State, flushed_by_all, is_hot}
use Rattle.row_changes.specs.session_state.core_state.Steps.{at_pages, happens}
use Rattle.row_changes.specs.session_state.worker_log.Logs.{Log}
use Rattle.row_changes.specs.session_state.flush_avoidance.Clocks.{after_touch}
use Rattle.row_changes.specs.session_state.row_words.declared.event.Event.{Event}
use Rattle.row_changes.specs.session_state.row_words.declared.event.Event.TheVariants.{Next}
use Rattle.row_changes.specs.session_state.row_words.declared.event.Met as told
use Rattle.row_changes.specs.session_state.row_words.declared.event.Met.TheVariants as event
use Rattle.row_changes.specs.session_state.row_words.declared.given.Given.{Given}
use Rattle.row_changes.specs.session_state.row_words.Moments.{Moment, event_of, met_of}
use Rattle.row_changes.specs.session_state.row_words.Openings.{opening}
use Rattle.row_changes.specs.session_state.rows_trait.declared.view.View.{View}
use Rattle.row_changes.specs.session_state.rows_trait.Views.{Shape, after_all, state}
use Rattle.row_changes.specs.session_state.btree_descent.declared.next.Stamp.{Stamp}
use Rattle.row_changes.specs.session_state.btree_descent.Descents.{MetCold}
use Rattle.row_changes.specs.session_state.btree_descent.Known.{Sound}
use Rattle.row_changes.specs.session_state.btree_descent.Nexts.{AreLocked, IsFirstUnlocked, MayWalk, MetUnlocked, Walked}
use Rattle.row_changes.specs.session_state.Holds.{Holds, IsOf}
use Rattle.row_changes.specs.session_state.core_covers.Firsts.{first_of}
use Rattle.row_changes.specs.session_state.declared.session.Session.{Session}
use Rattle.row_changes.proofs.session_state.FirstLemmas as records
use Rattle.row_changes.proofs.session_state.HoldLemmas.{rows_on}
use Rattle.row_changes.proofs.session_state.Moments.{free_same}
use Rattle.row_changes.specs.Ways.{HasMetCold}
use Rattle.row_changes.proofs.SeenLemmas.{none_seen, ran_seen, seen_core}
use Rattle.row_changes.proofs.TakeLemmas.{holds_still, numbers_on, row_is}
use Rattle.row_changes.proofs.WayLemmas.{met_cold, warm_met}
use Rattle.row_scans.specs.Inside.{AreFirst, AreHeld, HasWalked, IsFirst, IsNextEntry}
use Rattle.row_scans.specs.Meets.{IsInLeaf, told_of}
use Rattle.row_scans.specs.declared.meets.Met.{Met}
use Rattle.row_scans.specs.declared.meets.Met.TheVariants as met
use Rattle.row_scans.proofs.FirstLemmas.{Rises, first_same, has_listed, listed_has, met_few, met_rises, rest_none}

-- the keys whose rows were taken
abbrev pub is_taken : List ℕ → ℕ → Type 0
is_taken keys k = list_any (λ y. y == k) keys ≡ true

-- the keys of the entries that are met in a leaf
abbrev keys_in : Given → Moment → (page key : ℕ) → List ℕ
keys_in k m page key = met_keys (opening k).format key (m.core.page page).node.pairs

-- ## A leaf in the tree

module _ (k : Given) (m : Moment) (key page : ℕ) (sound : Sound k m) (below : page < (opening k).format.pages) (leaf : holds (m.core.page page).node key ≡ true) where
  abbrev n : Node
  n = (m.core.page page).node

  parts : (is_leaf n ≡ true) × (covers n key ≡ true)
  parts = and_parts (is_leaf n) (covers n key) leaf

  ok : NodeOk (opening k).format n
  ok = (sound.tree.formed page below).node (and_parts n.live (n.level == 0) parts.0).0

  level : n.level ≡ 0
  level = eqb-true n.level 0 (and_parts n.live (n.level == 0) parts.0).1

  pub keys_rise : Rises n.low (keys_in k m page key)
  keys_rise = met_rises (opening k).format key n.low n.pairs n.high ok.rising

  -- a leaf has no more than sixty entries
  pub keys_few : length (keys_in k m page key) ≤ (opening k).format.room
  keys_few = let a = met_few (opening k).format key n.pairs in let b = ok.sized in omega arith

  -- where it is hot, so is each page of the way
  pub way_warm : EveryWarm → is_hot (m.core.place page) ≡ true → IsWarmFrom (opening k) m.core key 0
  way_warm every hot = subst (λ i. IsWarmFrom (opening k) m.core key i) level ((every (opening k) m.core key).up sound.tree sound.residence page below parts.1 hot)

-- the first entries that are met have a place in the leaf
pub first_few : (v : View) (key : ℕ) (keys : List ℕ) → Sound v.given (state v) → (f : IsFirst v key keys) → length (keys ++ f.rest) ≤ (opening v.given).format.room
first_few v key keys sound f = subst (λ ks. length ks ≤ (opening v.given).format.room) f.whole (keys_few v.given (state v) key f.page sound f.below f.leaf)

module _ (trees : EveryTree) (v : View) (key : ℕ) (keys : List ℕ) (sound : Sound v.given (state v)) where
  -- they are the first of those in the key's leaf, of which there is one
  first_at : (page : ℕ) → page < (opening v.given).format.pages → holds ((state v).core.page page).node key ≡ true → AreFirst v key keys → (rest : List ℕ) × (keys_in v.given (state v) page key ≡ keys ++ rest)
  first_at page below leaf (inl e) = (keys_in v.given (state v) page key, ap (λ ks. ks ++ keys_in v.given (state v) page key) (sym e))
  first_at page below leaf (inr f) = (f.rest, ap (λ p. keys_in v.given (state v) p key) ((trees (opening v.given).format (λ p. ((state v).core.page p).node) sound.tree).one_leaf page f.page key below f.below leaf f.leaf) ∙ f.whole)

-- ## What it owes

module _ (z : Shape) (v : View) (x : Session) (log : Log) (h : Holds z v x log) (keys : List ℕ) where
  pub may_walk : x.is_open ≡ true → AreHeld x keys → MayWalk v x.own (is_taken keys)
  may_walk is_open held = record {
    is_open = h.session.is_open ∙ is_open;
    held = λ k l. ap (λ r. holds_row ((state v).core.row r) x.own) (row_is z v x.own x.workers x.frames x.held.count k h.rows) ∙ (h.held (k % x.held.count)).1 (held k (listed_has k keys l));
  }

-- ## An entry whose row was not taken

-- at a moment, the key's leaf and the first entry there that is not locked
record IsUnlockedIn (k : Given) (m : Moment) (key at : ℕ) (locked : ℕ → Type 0) : Type 0 where
  page : ℕ
  below : page < (opening k).format.pages
  hot : is_hot (m.core.place page) ≡ true
  leaf : holds (m.core.page page).node key ≡ true
  first : IsFirstUnlocked locked at (keys_in k m page key)

module _ (trees : EveryTree) (z : Shape) (v w : View) (x : Session) (log : Log) (h : Holds z v x log) (key : ℕ) (keys : List ℕ) (firsts : AreFirst v key keys) where
  module _ (at : ℕ) (m : MetUnlocked z.alone key at (is_taken keys) v w) where
    seen : w.seen ≡ v.seen
    seen = none_seen z.alone v w h.alone m.ran

    there : IsUnlockedIn v.given (state v) key at (is_taken keys)
    there = subst (λ es. IsUnlockedIn v.given (after_all v.given es) key at (is_taken keys)) seen
        (subst (λ (k : Given). IsUnlockedIn k (after_all k w.seen) key at (is_taken keys)) m.ran.given (record { page = m.page; below = m.below; hot = m.hot; leaf = m.leaf; first = m.first }))

    abbrev u : IsFirstUnlocked (is_taken keys) at (keys_in v.given (state v) there.page key)
    u = there.first

    sound : Sound v.given (state v)
    sound = h.rows.tree_sound v.seen

    before_is : keys ≡ u.before
    before_is =
        let f = first_at trees v key keys sound there.page there.below there.leaf firsts in
        first_same ((state v).core.page there.page).node.low keys f.0 u.before u.behind at
        (subst (Rises ((state v).core.page there.page).node.low) u.whole (keys_rise v.given (state v) key there.page sound there.below there.leaf))
        (sym f.1 ∙ u.whole) (λ k i. listed_has k keys (u.locks k i)) (λ i. u.unlocked (has_listed at keys i))

    pub next_entry : IsNextEntry v w key at keys
    next_entry = record {
      given = m.ran.given;
      seen = seen;
      first = record {
        page = there.page;
        below = there.below;
        hot = there.hot;
        leaf = there.leaf;
        rest = u.behind;
        whole = u.whole ∙ (ap (λ ks. ks ++ at ∷ u.behind) (sym before_is) ∙ sym (append_assoc keys (at ∷ []) u.behind));
      };
    }

    pub still_next : w.held ≡ v.held → Holds z w x log
    still_next held_is = holds_still z v w x log m.ran.given seen held_is h

  -- ## A page that is not hot

  module _ (warms : EveryWarm) (page : ℕ) (m : MetCold z.alone key page v w) where
    cold : HasMetCold key page v w
    cold = met_cold z v w key page h.alone m

    none_yet : AreFirst v key keys → keys ≡ []
    none_yet (inl e) = e
    none_yet (inr f) = absurd (warm_met z v w x log key page h (way_warm v.given (state v) key f.page (h.rows.tree_sound v.seen) f.below f.leaf warms f.hot) cold)

    pub met_cold_first : HasMetCold key page v w × (keys ≡ [])
    met_cold_first = (cold, none_yet firsts)

  -- ## The walk

  module _ (a : told.Met) (stamp : Stamp) (d : Walked z.alone x.own key (is_taken keys) a stamp v w) where
    abbrev e : Event
    e = Next x.own d.page key a

    abbrev s : State
    s = (state v).core

    abbrev node : Node
    node = (s.page d.page).node

    walk_given : w.given ≡ v.given
    walk_given = d.ran.given

    walk_seen : w.seen ≡ v.seen ++ e ∷ []
    walk_seen = ran_seen z.alone v w (e ∷ []) h.alone d.ran

    past : d.past ≡ v.seen
    past = d.onward.whole ∙ (ap (λ ys. v.seen ++ ys) (d.onward.quiet h.alone) ∙ append-nil v.seen)

    -- what was so at the moment before it
    at_first : (P : Given → Moment → Type 0) → P w.given (after_all w.given d.past) → P v.given (state v)
    at_first P p = subst (λ es. P v.given (after_all v.given es)) past (subst (λ (k : Given). P k (after_all k d.past)) walk_given p)

    walk_met : may (opening v.given) s (event_of e) ≡ true
    walk_met = at_first (λ k m. may (opening k) m.core (event_of e) ≡ true) d.was_met

    locks : AreLocked (is_taken keys) (keys_in v.given (state v) d.page key)
    locks = at_first (λ k m. AreLocked (is_taken keys) (keys_in k m d.page key)) d.locks

    -- what its need says
    record Says : Type 0 where
      below : d.page < (opening v.given).format.pages
      leaf : holds node key ≡ true
      answer : met_of a ≡ following (opening v.given).format key node.pairs node.high

    says : Says
    says =
        let g = opening v.given in
        let follows = is_following (met_of a) (following g.format key node.pairs node.high) in
        let needed = (and_parts (is_hot (s.place d.page) && true) ((s.worker x.own).is_open && (is_leaf_of g node d.page key && (follows && holds_answer g s x.own (met_of a)))) walk_met).1 in
        let inner = (and_parts (s.worker x.own).is_open (is_leaf_of g node d.page key && (follows && holds_answer g s x.own (met_of a))) needed).1 in
        let both = and_parts (is_leaf_of g node d.page key) (follows && holds_answer g s x.own (met_of a)) inner in
        let where_it_is = and_parts (ltb d.page g.format.pages) (holds node key) both.0 in record {
          below = ltb-true d.page g.format.pages where_it_is.0;
          leaf = where_it_is.1;
          answer = following_is (met_of a) (following g.format key node.pairs node.high) (and_parts follows (holds_answer g s x.own (met_of a)) both.1).0;
        }

    walk_sound : Sound v.given (state v)
    walk_sound = h.rows.tree_sound v.seen

    whole : keys_in v.given (state v) d.page key ≡ keys
    whole =
        let f = first_at trees v key keys walk_sound d.page says.below says.leaf firsts in
        let none = rest_none node.low keys f.0 (subst (Rises node.low) f.1 (keys_rise v.given (state v) key d.page walk_sound says.below says.leaf)) (λ k i. listed_has k keys (locks k (subst (Has k) (sym f.1) i))) in
        f.1 ∙ (ap (λ ks. keys ++ ks) none ∙ append-nil keys)

    -- a pair stands in the leaf
    module _ (at value : ℕ) (is : a ≡ event.Pair at value) where
      pub pair_in : IsInLeaf (opening v.given) s d.page key (met.Pair at value)
      pair_in =
          let f = (opening v.given).format in
          let q : following f key node.pairs node.high ≡ MapAnswer.Pair at value = sym says.answer ∙ ap met_of is in
          let t = following_at f key node.low node.pairs node.high at value (ok v.given (state v) key d.page walk_sound says.below says.leaf).rising q in
          (t.least, ap (Rattle.page_model.specs.Tree.value_of f) t.found ∙ cond-true (ltb value f.dead) (Some value) None (lt-ltb value f.dead t.live))

    pub has_walked : (m : Met) → told_of m ≡ a → IsInLeaf (opening v.given) s d.page key m → HasWalked x.own v w key keys m
    has_walked m is l = record {
      page = d.page;
      given = walk_given;
      seen = subst (λ q. w.seen ≡ v.seen ++ Next x.own d.page key q ∷ []) (sym is) walk_seen;
      met = subst (λ q. may (opening v.given) s (event_of (Next x.own d.page key q)) ≡ true) (sym is) walk_met;
      whole = whole;
      leaf = l;
    }

    core_is : (state w).core ≡ happens (opening v.given) s (event_of e)
    core_is = seen_core v w e walk_given walk_seen walk_met

    number_is : stamp.number ≡ (s.page d.page).gsn
    number_is = at_first (λ k m. stamp.number ≡ (m.core.page d.page).gsn) d.number

    log_is : stamp.log ≡ (s.page d.page).last
    log_is = at_first (λ k m. stamp.log ≡ (m.core.page d.page).last) d.log

    -- the session that has met the leaf's stamp
    abbrev pub now : Session
    now = record x { clock = after_touch x.own x.clock stamp.number stamp.log }

    now_of : IsOf now (at_pages s x.own (s.worker x.own) (d.page ∷ []))
    now_of = record {
      is_open = h.session.is_open;
      txn = h.session.txn;
      clock = λ i. max (h.session.clock i) (sym number_is i);
      floor = h.session.floor;
      debt = λ i. owed x.own (h.session.floor i) (h.session.debt i) (sym number_is i) (sym log_is i);
      end = h.session.end;
      undo = h.session.undo;
    }

    -- it changes its worker and the entries alone
    record Leaves (n : State) : Type 0 where
      page : n.page ≡ s.page
      row : n.row ≡ s.row
      flushed : n.flushed ≡ s.flushed
      least : (g : Opening) → flushed_by_all g n ≡ flushed_by_all g s
      commits : waits n x.own ≡ waits s x.own
      worker : n.worker x.own ≡ at_pages s x.own (s.worker x.own) (d.page ∷ [])
      first : first_of n x.own ≡ first_of s x.own

    at_worker : upd s.worker x.own (at_pages s x.own (s.worker x.own) (d.page ∷ [])) x.own ≡ at_pages s x.own (s.worker x.own) (d.page ∷ [])
    at_worker = ap (λ b. cond b (at_pages s x.own (s.worker x.own) (d.page ∷ [])) (s.worker x.own)) (eq-eqb x.own x.own refl)

    leaves_of : (b : told.Met) → Leaves (happens (opening v.given) s (event_of (Next x.own d.page key b)))
    leaves_of (event.Pair at value) = record { page = refl; row = refl; flushed = refl; least = λ g. refl; commits = refl; worker = at_worker; first = records.first_read s (happens (opening v.given) s (event_of (Next x.own d.page key (event.Pair at value)))) x.own _ (ap (λ k. k.is_open) at_worker) (ap (λ k. k.txn) at_worker) refl refl }
    leaves_of (event.Gap high) = record { page = refl; row = refl; flushed = refl; least = λ g. refl; commits = refl; worker = at_worker; first = records.first_same s (happens (opening v.given) s (event_of (Next x.own d.page key (event.Gap high)))) x.own (ap (λ k. k.is_open) at_worker) (ap (λ k. k.txn) at_worker) refl }

    leaves : Leaves (state w).core
    leaves = subst Leaves (sym core_is) (leaves_of a)

    pub after_walk : w.held ≡ v.held → Holds z w now log
    after_walk held_is = record {
      alone = h.alone;
      idle = held_is ∙ h.idle;
      rows = rows_on z v w x.own x.workers x.frames x.held.count walk_given h.rows;
      session = subst (IsOf now) (sym leaves.worker) now_of;
      first = leaves.first ∙ h.first;
      numbers = numbers_on x now log x.held refl (omega arith) h.numbers;
      flushed = ap (λ f. f x.own) leaves.flushed ∙ h.flushed;
      floor = subst (λ n. x.clock.floor ≤ n) (sym (leaves.least (opening v.given)) ∙ (λ i. flushed_by_all (opening (sym walk_given i)) (state w).core)) h.floor;
      behind = leaves.commits ∙ h.behind;
      held = λ i. subst (λ r. holds_row (r i) x.own ≡ true ↔ Has i x.held.rows) (sym leaves.row) (h.held i);
      within = h.within;
      fewer = h.fewer;
      none = h.none;
      free = free_same v w x.free walk_given leaves.page h.free;
      spare = h.spare;
    }
