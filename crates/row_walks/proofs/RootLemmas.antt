-- Whether the root has one child.
use Rattle.std.proofs.Common.{◌≡◌, ◌≢◌, ◌≤◌, ◌<◌, ◌+◌, ◌-◌, ◌==◌, ◌&&◌, ◌||◌, ltb, ℕ, zero, suc, Bool, true, false, cond, List, [], ◌∷◌, length, Option, Some, None, refl, sym, ap, ◌∙◌, subst, arith, true≢false, eq-eqb}
use Rattle.std.specs.Prelude.{slice_index}
use Rattle.std.proofs.lemmas.Bool.{and_from, and_parts, cond-true, cond-false, eqb-true, lt-ltb}
use Rattle.page_model.specs.Check.{names_page}
use Rattle.page_model.specs.Page as stored
use Rattle.page_model.specs.Page.{word_at}
use Rattle.page_model.specs.Pairs.{Pair, Span, spans}
use Rattle.map_model.specs.Lists.{any}
use Rattle.row_changes.specs.session_state.core_state.Events as happening
use Rattle.row_changes.specs.session_state.core_state.Needs.{is_single, may_drop}
use Rattle.row_changes.specs.session_state.core_state.Openings.{Opening}
use Rattle.row_changes.specs.session_state.core_state.States.{Place, State, nodes_of}
use Rattle.row_changes.specs.session_state.worker_log.Logs.{Log}
use Rattle.row_changes.specs.session_state.row_words.Openings.{opening}
use Rattle.row_changes.specs.session_state.rows_trait.Views.{Shape, state}
use Rattle.row_changes.specs.session_state.rows_trait.declared.view.View.{View}
use Rattle.row_changes.specs.session_state.Holds.{Holds}
use Rattle.row_changes.specs.session_state.declared.session.Session.{Session}
use Rattle.row_image.specs.Hot.{StandsIn}
use Rattle.row_tidying.proofs.btree_smo.Reading.{framed_count}
use Rattle.row_tidying.specs.tidy_rules.Tidying.{drop_of, next_drop}
use Rattle.row_tidying.proofs.MadeLemmas.{one_in, sound}
use Rattle.row_walks.specs.Inside.Nexts.{IsLastChild}
use Rattle.row_walks.specs.Inside.Ways.{IsWayIn, frame_at}
use Rattle.row_walks.proofs.NextLemmas.{top_is}

-- without one pair there is none to drop
no_drop : (own : ℕ) (xs : List Pair) → length xs ≢ 1 → drop_of own xs ≡ None
no_drop own [] ne = refl
no_drop own (x ∷ []) ne = absurd (ne refl)
no_drop own (x ∷ y ∷ ys) ne = refl

-- with one, what is named is that one
one_drop : (own p high : ℕ) (xs : List Pair) → length xs ≡ 1 → any (λ (s : Span). s.child == p) (spans xs high) ≡ true → (drop_of own xs ≡ Some (happening.Event.Drop own p)) × (is_single xs p ≡ true)
one_drop own p high [] e named = absurd (omega arith)
one_drop own p high (x ∷ []) e named = let q = eqb-true x.word p (or_false (x.word == p) named) in (ap (λ (w : ℕ). Some (happening.Event.Drop own w)) q, and_from (x.word == p) true (eq-eqb x.word p q) refl)
  where
    or_false : (b : Bool) → (b || false) ≡ true → b ≡ true
    or_false true r = refl
    or_false false r = absurd (true≢false (sym r))
one_drop own p high (x ∷ y ∷ ys) e named = absurd (omega arith)

-- the frame below the root's
pub below_frame : (fs path : List ℕ) → fs ≡ path → 2 ≤ length path → slice_index fs 1 ≡ frame_at path (length path - 2)
below_frame fs path e tall = ap (λ (xs : List ℕ). slice_index xs 1) e ∙ (let k : 1 ≡ length path - suc (length path - 2) = omega arith in ap (slice_index path) k)

module _ (z : Shape) (v : View) (x : Session) (log : Log) (h : Holds z v x log) (key : ℕ) (path : List ℕ) (way : IsWayIn v key path) where
  abbrev g : Opening
  g = opening v.given

  abbrev s : State
  s = (state v).core

  pub root_hot : s.place 0 ≡ Place.Hot 0
  root_hot = (sound z v x log h).residence.root

  -- a root that is a leaf has no child
  pub leaf_root : length path < 2 → (own : ℕ) → next_drop own s ≡ None
  leaf_root short own =
      let low = way.some in
      let flat : (nodes_of s 0).level ≡ 0 = top_is z v x log h key path way ∙ (let e : length path - 1 ≡ 0 = omega arith in e) in
      ap (λ (l : ℕ). cond (ltb 0 l) (drop_of own (nodes_of s 0).pairs) None) flat

  count_is : (q : stored.Page) → StandsIn v.given (state v) 0 q → length q.node.pairs ≡ length (nodes_of s 0).pairs
  count_is q st =
      ap (λ (n : stored.Page). length n.node.pairs) st.page ∙ (framed_count s.place (nodes_of s q.number) ∙ ap (λ (i : ℕ). length (nodes_of s i).pairs) (one_in z v x log h q.number 0 0 st.stands.hot root_hot))

  pub many_root : (q : stored.Page) → StandsIn v.given (state v) 0 q → length q.node.pairs ≢ 1 → (own : ℕ) → next_drop own s ≡ None
  many_root q st ne own = go (ltb 0 (nodes_of s 0).level)
    where
      go : (b : Bool) → cond b (drop_of own (nodes_of s 0).pairs) None ≡ None
      go true = no_drop own (nodes_of s 0).pairs (λ e. ne (count_is q st ∙ e))
      go false = refl

  -- the page below the root
  abbrev below : ℕ
  below = way.page (length path - 2)

  module _ (tall : 2 ≤ length path) where
    pub below_hot : s.place below ≡ Place.Hot (frame_at path (length path - 2))
    below_hot = (way.way (length path - 2) (omega arith)).hot

    named : names_page (nodes_of s 0) below ≡ true
    named =
        let e : suc (length path - 2) ≡ length path - 1 = omega arith in
        subst (λ (p : ℕ). names_page (nodes_of s p) below ≡ true) (ap way.page e ∙ way.root) (way.names (length path - 2) (omega arith))

    parts : ((nodes_of s 0).live && ltb 0 (nodes_of s 0).level ≡ true) × (any (λ (t : Span). t.child == below) (spans (nodes_of s 0).pairs (nodes_of s 0).high) ≡ true)
    parts = and_parts ((nodes_of s 0).live && ltb 0 (nodes_of s 0).level) (any (λ (t : Span). t.child == below) (spans (nodes_of s 0).pairs (nodes_of s 0).high)) named

    inner : ltb 0 (nodes_of s 0).level ≡ true
    inner = (and_parts (nodes_of s 0).live (ltb 0 (nodes_of s 0).level) parts.0).1

    pub last_child : (q : stored.Page) → StandsIn v.given (state v) 0 q → length q.node.pairs ≡ 1 → (n : stored.Page) (frame : ℕ) → frame ≡ frame_at path (length path - 2) → StandsIn v.given (state v) frame n → IsLastChild v frame n.number
    last_child q st one n frame at sn =
        let is : n.number ≡ below = one_in z v x log h n.number below frame sn.stands.hot (below_hot ∙ ap Place.Hot (sym at)) in
        subst (λ (p : ℕ). IsLastChild v frame p) (sym is) (record {
          can = record { stands = below_hot ∙ ap Place.Hot (sym at); drops = and_from (ltb 0 (nodes_of s 0).level) (is_single (nodes_of s 0).pairs below) inner (single 0).1 };
          next = λ own. cond-true (ltb 0 (nodes_of s 0).level) (drop_of own (nodes_of s 0).pairs) None inner ∙ (single own).0;
        })
      where
        single : (own : ℕ) → (drop_of own (nodes_of s 0).pairs ≡ Some (happening.Event.Drop own below)) × (is_single (nodes_of s 0).pairs below ≡ true)
        single own = one_drop own below (nodes_of s 0).high (nodes_of s 0).pairs (sym (count_is q st) ∙ one) parts.1
