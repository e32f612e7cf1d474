-- What is to be done to the leaf.
use Rattle.std.proofs.Common.{◌≡◌, ◌≢◌, ◌⊎◌, inl, inr, ◌≤◌, ◌<◌, ◌+◌, ◌-◌, ◌==◌, ◌&&◌, ◌++◌, ◌^◌, leb, ltb, not, ℕ, zero, suc, Bool, true, false, cond, List, [], ◌∷◌, length, Option, Some, None, Result, Ok, Err, refl, sym, ap, ◌∙◌, subst, arith, true≢false, eq-eqb, append-nil}
use Rattle.std.specs.Prelude.{slice_index}
use Rattle.std.proofs.lemmas.Bool.{and_from, and_parts, cond-true, cond-false, cases_lt, le-leb, lt-leb, ne_eqb}
use Rattle.page_model.specs.Nodes.{Node, covers, is_leaf}
use Rattle.page_model.specs.Page as stored
use Rattle.page_model.specs.Pairs.{find}
use Rattle.page_model.specs.Redo.{is_some}
use Rattle.page_model.specs.Tree.{value_of}
use Rattle.map_model.specs.declared.call.Refusal.TheVariants as refusal
use Rattle.row_changes.specs.session_state.engine_trait.declared.unserved.Unanswered.TheVariants as unanswered
use Rattle.row_changes.specs.session_state.engine_trait.declared.unserved.Unserved.{Unserved}
use Rattle.row_changes.specs.session_state.engine_trait.declared.unserved.Unserved.TheVariants as unserved
use Rattle.row_changes.specs.session_state.core_state.Events as happening
use Rattle.row_changes.specs.session_state.core_state.Needs.{may, value_in}
use Rattle.row_changes.specs.session_state.core_state.Openings.{Opening}
use Rattle.row_changes.specs.session_state.core_state.States.{Place, State, nodes_of}
use Rattle.row_changes.specs.session_state.core_state.Steps.{happens}
use Rattle.row_changes.specs.session_state.core_calls.Warms.{IsWarmFrom}
use Rattle.lean_disk.specs.Faults.{HasCause}
use Rattle.lean_disk.specs.Story.{Story}
use Rattle.row_changes.specs.session_state.disk_image.Records.{entry_of}
use Rattle.row_changes.specs.session_state.worker_log.Logs.{Log}
use Rattle.row_changes.specs.session_state.row_words.declared.event.Event.{Event}
use Rattle.row_changes.specs.session_state.row_words.declared.event.Event.TheVariants.{Purge}
use Rattle.row_changes.specs.session_state.row_words.declared.given.Given.{Given}
use Rattle.row_changes.specs.session_state.row_words.Moments.{Moment, event_of}
use Rattle.row_changes.specs.session_state.row_words.Openings.{opening}
use Rattle.row_changes.specs.session_state.row_words.Words.{framed, is_inner, swips}
use Rattle.row_changes.specs.session_state.rows_trait.Views.{Shape, after_all, state}
use Rattle.row_changes.specs.session_state.rows_trait.declared.view.View.{View}
use Rattle.row_changes.specs.session_state.flush_avoidance.Clocks.{risen}
use Rattle.row_changes.specs.session_state.Holds.{Holds}
use Rattle.row_changes.specs.session_state.declared.session.Session.{Session}
use Rattle.row_tidying.specs.btree_smo.Outcomes.{AreMisses}
use Rattle.row_tidying.specs.tidy_rules.Laws.{gone}
use Rattle.row_tidying.specs.tidy_rules.Tidying.{Stage, is_thin, is_thin_leaf, next_tidy, next_up, page_at, purge_or, purgeable_in}
use Rattle.row_changes.specs.Ways.{IsWarm}
use Rattle.row_changes.proofs.StepLemmas.{cause_from}
use Rattle.row_image.specs.Hot.{StandsIn}
use Rattle.row_tidying.specs.Changes.{CanPurge}
use Rattle.row_tidying.specs.Outcomes.{Clears, IsPurged, IsSpared, IsSpentWithin}
use Rattle.row_tidying.specs.declared.purges.Cleared.{Cleared}
use Rattle.row_tidying.specs.declared.purges.Cleared.TheVariants as cleared
use Rattle.row_tidying.proofs.MadeLemmas.{one_in}
use Rattle.row_walks.specs.Inside.Leaves.{IsThickLeaf, IsThinLeaf, LeafDoes, MayBeThin, is_value}
use Rattle.row_walks.specs.Inside.Ways.{IsWayIn, frame_at}
use Rattle.row_walks.specs.Steps.{IsQuietTo, IsTidied, freed}
use Rattle.row_walks.specs.declared.leaves.Leaf.{Leaf}
use Rattle.row_walks.specs.declared.leaves.Leaf.TheVariants as leaf
use Rattle.row_walks.specs.declared.steps.At.TheVariants as at

-- a leaf stands in a frame as it is
framed_leaf : (place : ℕ → Place) (v : Node) → v.level ≡ 0 → framed place v ≡ v
framed_leaf place v flat = go (is_inner v) refl
  where
    never : (b : Bool) → (b && ltb 0 v.level) ≡ true → ⊥
    never b e = true≢false (sym (and_parts b (ltb 0 v.level) e).1 ∙ ap (λ (l : ℕ). ltb 0 l) flat)

    go : (b : Bool) → is_inner v ≡ b → cond b (record v { pairs = swips place v.pairs }) v ≡ v
    go true e = absurd (never v.live e)
    go false e = refl

-- the last frame of a path
pub leaf_frame : (fs path : List ℕ) → fs ≡ path → slice_index fs (length fs - 1) ≡ frame_at path 0
leaf_frame fs path e = ap (λ (xs : List ℕ). slice_index xs (length xs - 1)) e

module _ (z : Shape) (v : View) (x : Session) (log : Log) (h : Holds z v x log) (key : ℕ) (path : List ℕ) (way : IsWayIn v key path) where
  abbrev g : Opening
  g = opening v.given

  abbrev s : State
  s = (state v).core

  abbrev page : ℕ
  page = way.page 0

  abbrev frame : ℕ
  frame = frame_at path 0

  found : page_at g s key 0 ≡ Some page
  found = way.found 0 way.some

  pub leaf_hot : s.place page ≡ Place.Hot frame
  leaf_hot = (way.way 0 way.some).hot

  -- the leaf can be purged
  pub can_purge : CanPurge v frame
  can_purge =
      let w = way.way 0 way.some in
      record { page = page; stands = w.hot; leaf = and_from (nodes_of s page).live ((nodes_of s page).level == 0) (and_parts (nodes_of s page).live (leb (nodes_of s page).low key && ltb key (nodes_of s page).high) w.covers).0 (eq-eqb (nodes_of s page).level 0 w.level) }

  -- the leaf is thin, or not
  abbrev test : Bool
  test = not (page == 0) && (is_some (value_in g.format (nodes_of s page) key) && leb (length (nodes_of s page).pairs) (15 + length (gone g s page)))

  next_before : (own : ℕ) → next_tidy own g s key Stage.Before ≡ cond test (purge_or own (Some page) (gone g s page) (next_up own g s key 7 0)) None
  next_before own = λ i. cond (is_thin_leaf g s key (found i)) (purge_or own (found i) (purgeable_in g s (found i)) (next_up own g s key 7 0)) None

  none_next : test ≡ false → (own : ℕ) → next_tidy own g s key Stage.Before ≡ None
  none_next e own = next_before own ∙ cond-false test (purge_or own (Some page) (gone g s page) (next_up own g s key 7 0)) None e

  and_false : (b : Bool) → (b && false) ≡ false
  and_false true = refl
  and_false false = refl

  -- ## A look

  pub root_leaf : length path < 2 → MayBeThin false v key path
  root_leaf short = none_next (
      let zero_page : page ≡ 0 = (let e : 0 ≡ length path - 1 = omega arith in ap way.page e) ∙ way.root in
      ap (λ (p : ℕ). not (p == 0) && (is_some (value_in g.format (nodes_of s p) key) && leb (length (nodes_of s p).pairs) (15 + length (gone g s p)))) zero_page)

  module _ (n : stored.Page) (seen : StandsIn v.given (state v) frame n) where
    find_is : find key n.node.pairs ≡ find key (nodes_of s page).pairs
    find_is =
        let is = one_in z v x log h n.number page frame seen.stands.hot leaf_hot in
        ap (λ (q : stored.Page). find key q.node.pairs) seen.page
        ∙ (ap (λ (p : ℕ). find key (framed s.place (nodes_of s p)).pairs) is ∙ ap (λ (q : Node). find key q.pairs) (framed_leaf s.place (nodes_of s page) (way.way 0 way.some).level))

    value_is : (w : Option ℕ) → find key n.node.pairs ≡ w → is_some (value_in g.format (nodes_of s page) key) ≡ is_some (value_of g.format w)
    value_is w e = ap (λ (o : Option ℕ). is_some (value_of g.format o)) (sym find_is ∙ e)

    valueless : (w : Option ℕ) → find key n.node.pairs ≡ w → is_some (value_of g.format w) ≡ false → MayBeThin false v key path
    valueless w e none = none_next (ap (λ b. not (page == 0) && (b && leb (length (nodes_of s page).pairs) (15 + length (gone g s page)))) (value_is w e ∙ none) ∙ and_false (not (page == 0)))

    -- by the key's entry
    pub thin_by : 2 ≤ length path → (w : Option ℕ) → find key n.node.pairs ≡ w → MayBeThin (is_value w) v key path
    thin_by many None e = valueless None e refl
    thin_by many (Some w) e = go (ltb w (2 ^ 63)) refl
      where
        one_some : {a b : ℕ} → Some a ≡ Some b → a ≡ b
        one_some r = cc

        go : (b : Bool) → ltb w (2 ^ 63) ≡ b → MayBeThin b v key path
        go true q = (
          omega arith,
          λ p r. ap (λ (i : ℕ). is_some (value_in g.format (nodes_of s i) key)) (one_some (sym r ∙ found)) ∙ (value_is (Some w) e ∙ ap (λ b. is_some (cond b (Some w) None)) q),
        )
        go false q = valueless (Some w) e (ap (λ b. is_some (cond b (Some w) None)) q)

    -- as it was answered
    pub answered : 2 ≤ length path → (b : Bool) (w : Option ℕ) → b ≡ is_value w → w ≡ find key n.node.pairs → MayBeThin b v key path
    answered many b w e is = subst (λ (k : Bool). MayBeThin k v key path) (sym e) (thin_by many w (sym is))

  -- ## A purge

  module _ (live : MayBeThin true v key path) where
    not_root : (page == 0) ≡ false
    not_root = ne_eqb page 0 (way.other 0 live.0)

    has_value : is_some (value_in g.format (nodes_of s page) key) ≡ true
    has_value = live.1 page found

    thin_leaf : length (nodes_of s page).pairs ≤ 15 + length (gone g s page) → test ≡ true
    thin_leaf few = λ i. not (not_root i) && (has_value i && le-leb (length (nodes_of s page).pairs) (15 + length (gone g s page)) few i)

    thick_leaf : 15 + length (gone g s page) < length (nodes_of s page).pairs → test ≡ false
    thick_leaf many = (λ i. not (not_root i) && (has_value i && lt-leb (length (nodes_of s page).pairs) (15 + length (gone g s page)) many i))

    module _ (u w : View) (given : u.given ≡ v.given) (seen : u.seen ≡ v.seen) where
      moved : (P : Given → Moment → Type 0) → P u.given (state u) → P v.given (state v)
      moved P p = subst (λ (es : List Event). P v.given (after_all v.given es)) seen (subst (λ (k : Given). P k (after_all k u.seen)) given p)

      here : (p : ℕ) → (state u).core.place p ≡ Place.Hot frame → p ≡ page
      here p hot = one_in z v x log h p page frame (moved (λ k m. m.core.place p ≡ Place.Hot frame) hot) leaf_hot

      purge_next : (own : ℕ) → 0 < length (gone g s page) → length (nodes_of s page).pairs ≤ 15 + length (gone g s page) → next_tidy own g s key Stage.Before ≡ Some (happening.Event.Purge own page (gone g s page))
      purge_next own some few = next_before own ∙ (cond-true test (purge_or own (Some page) (gone g s page) (next_up own g s key 7 0)) None (thin_leaf few) ∙ taken (gone g s page) some)
        where
          taken : (keys : List ℕ) → 0 < length keys → purge_or own (Some page) keys (next_up own g s key 7 0) ≡ Some (happening.Event.Purge own page keys)
          taken [] lt = absurd (omega arith)
          taken (k ∷ ks) lt = refl

      -- it was made
      pub purged : (y : Session) (is : Log) (old new : Story) → IsPurged frame 15 u w x y log is old new → IsTidied key at.Before (at.From 0) v w x y log is old new
      purged y is old new t = record {
        event = Purge x.own page (gone g s page);
        by = refl;
        first = [];
        later = t.misses;
        are_first = tt;
        are_later = t.made.are_misses;
        few = let f = t.few in omega arith;
        given = t.made.given ∙ given;
        seen = t.made.seen ∙ (λ i. seen i ++ event_is i ∷ t.misses);
        met = (λ i. may g s (event_of (sym event_is i))) ∙ moved (λ k m. may (opening k) m.core (event_of e) ≡ true) t.made.met;
        happened = moved (λ k m. (state w).core ≡ happens (opening k) m.core (event_of e)) t.made.happened ∙ ap (λ (q : Event). happens g s (event_of q)) event_is;
        next = purge_next x.own some few;
        now = refl;
        entry = t.made.entry;
        entry_is = ap (λ (q : Event). (happens g s (event_of q)).entries) (sym event_is) ∙ moved (λ k m. (happens (opening k) m.core (event_of e)).entries ≡ entry_of x.own t.made.entry ∷ m.core.entries) t.made.entry_is;
        after = t.made.after;
        stands = t.made.stands;
        keeps = t.made.keeps;
        short = t.made.short;
        session = t.made.session;
        stays = moved (λ k m. (state w).core.place ≡ m.core.place) t.made.stays;
        warm = moved (λ k m. IsWarmFrom (opening k) m.core key 0 → IsWarm w key) (t.made.warm key);
      }
        where
          is_page : t.page ≡ page
          is_page = here t.page t.stands

          e : Event
          e = Purge x.own t.page (gone (opening u.given) (state u).core t.page)

          event_is : e ≡ Purge x.own page (gone g s page)
          event_is = (λ i. Purge x.own t.page (gone (opening (given i)) (after_all (given i) (seen i)).core t.page)) ∙ ap (λ (p : ℕ). Purge x.own p (gone g s p)) is_page

          some : 0 < length (gone g s page)
          some = subst (λ (p : ℕ). 0 < length (gone g s p)) is_page (moved (λ k m. 0 < length (gone (opening k) m.core t.page)) t.some)

          few : length (nodes_of s page).pairs ≤ 15 + length (gone g s page)
          few = subst (λ (p : ℕ). length (nodes_of s p).pairs ≤ 15 + length (gone g s p)) is_page (moved (λ k m. length (nodes_of m.core t.page).pairs ≤ 15 + length (gone (opening k) m.core t.page)) t.left)

      -- nothing went
      module _ (left : ℕ) (t : IsSpared frame 15 left u w) where
        is_it : t.page ≡ page
        is_it = here t.page t.stands

        exact : left + length (gone g s page) ≡ length (nodes_of s page).pairs
        exact = subst (λ (p : ℕ). left + length (gone g s p) ≡ length (nodes_of s p).pairs) is_it (moved (λ k m. left + length (gone (opening k) m.core t.page) ≡ length (nodes_of m.core t.page).pairs) t.exact)

        none : (length (gone g s page) ≡ 0) ⊎ (15 < left)
        none = subst (λ (p : ℕ). (length (gone g s p) ≡ 0) ⊎ (15 < left)) is_it (moved (λ k m. (length (gone (opening k) m.core t.page) ≡ 0) ⊎ (15 < left)) t.none)

        quiet : IsQuietTo v w
        quiet = record { misses = t.misses; are_misses = t.are_misses; few = t.few; given = t.given ∙ given; seen = t.seen ∙ ap (λ (es : List Event). es ++ t.misses) seen }

        pub spared_thick : (own : ℕ) → 15 < left → IsThickLeaf own key v w
        spared_thick own many = record { quiet = quiet; next = none_next (thick_leaf (let e = exact in omega arith)) own }

        pub spared_thin : (own : ℕ) → (15 < left → ⊥) → IsThinLeaf own key v w
        spared_thin own few = record { quiet = quiet; next = next_before own ∙ (cond-true test (purge_or own (Some page) (gone g s page) (next_up own g s key 7 0)) None (thin_leaf within) ∙ nothing (gone g s page) empty) }
          where
            empty : length (gone g s page) ≡ 0
            empty = elim none [ inl e ↦ e | inr many ↦ absurd (few many) ]

            within : length (nodes_of s page).pairs ≤ 15 + length (gone g s page)
            within = let e = exact in let n = nat_le left few in omega arith
              where
                nat_le : (n : ℕ) → (15 < n → ⊥) → n ≤ 15
                nat_le n never = elim (cases_lt 15 n) [ inl a ↦ absurd (never a) | inr a ↦ a ]

            nothing : (keys : List ℕ) → length keys ≡ 0 → purge_or own (Some page) keys (next_up own g s key 7 0) ≡ next_up own g s key 7 0
            nothing [] e = refl
            nothing (k ∷ ks) e = absurd (omega arith)

      -- it was refused
      pub purge_refused : (y : Session) (is : Log) (old new : Story) (same broken : Type 0) (why : Unserved) → Clears (Err why) frame 15 u w x y log is old new same broken → LeafDoes (Err why) key v w x y log is old new same
      purge_refused y is old new same broken (unserved.Refused refusal.RowSpent) t =
          (record { misses = t.0.misses; are_misses = t.0.are_misses; few = t.0.few; given = t.0.given ∙ given; seen = t.0.seen ∙ ap (λ (es : List Event). es ++ t.0.misses) seen; many = t.0.many }, t.1)
      purge_refused y is old new same broken (unserved.Unanswered unanswered.DiskFault) t = t.0
      purge_refused y is old new same broken _ t = absurd t

-- a purge that came out so
pub cleared_done : (r : Cleared) → r ≡ cleared.Done → (frame : ℕ) (v w : View) (x y : Session) (was is : Log) (old new : Story) (same broken : Type 0) → Clears (Ok r) frame 15 v w x y was is old new same broken → IsPurged frame 15 v w x y was is old new
cleared_done r e frame v w x y was is old new same broken t = subst (λ k. Clears (Ok k) frame 15 v w x y was is old new same broken) e t

pub cleared_spared : (r : Cleared) (left : ℕ) → r ≡ cleared.Spared left → (frame : ℕ) (v w : View) (x y : Session) (was is : Log) (old new : Story) (same broken : Type 0) → Clears (Ok r) frame 15 v w x y was is old new same broken → IsSpared frame 15 left v w × same
cleared_spared r left e frame v w x y was is old new same broken t = subst (λ k. Clears (Ok k) frame 15 v w x y was is old new same broken) e t

-- a look after which nothing is to be done
pub thick_by : (own key : ℕ) (v w : View) (path : List ℕ) → w.given ≡ v.given → w.seen ≡ v.seen → MayBeThin false v key path → IsThickLeaf own key v w
thick_by own key v w path given seen t = record { quiet = record { misses = []; are_misses = tt; few = omega arith; given = given; seen = seen ∙ sym (append-nil v.seen) }; next = t own }

-- ## What it tells of faults

abbrev cleared_refused : Unserved → Result Cleared Unserved
cleared_refused why = Err why

abbrev leaf_refused : Unserved → Result Leaf Unserved
leaf_refused why = Err why

pub purge_told : (a b : ℕ) (why : Unserved) → HasCause a b (cleared_refused why ≡ cleared_refused (unserved.Unanswered unanswered.DiskFault)) → HasCause a b (leaf_refused why ≡ leaf_refused (unserved.Unanswered unanswered.DiskFault))
purge_told a b why h = cause_from a a b _ _ refl h (λ q. ap cleared_refused (inner q)) (λ q. ap leaf_refused (outer q))
  where
    inner : leaf_refused why ≡ leaf_refused (unserved.Unanswered unanswered.DiskFault) → why ≡ unserved.Unanswered unanswered.DiskFault
    inner q = cc

    outer : cleared_refused why ≡ cleared_refused (unserved.Unanswered unanswered.DiskFault) → why ≡ unserved.Unanswered unanswered.DiskFault
    outer q = cc
