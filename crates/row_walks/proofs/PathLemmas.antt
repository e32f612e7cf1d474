-- The pages that stand in the frames of a key's way.
use Rattle.std.proofs.Common.{◌≡◌, ◌≢◌, ◌⊎◌, inl, inr, ◌≤◌, ◌<◌, ◌-◌, ◌==◌, ◌&&◌, ltb, ℕ, zero, suc, Bool, true, false, cond, List, [], ◌∷◌, length, Some, None, refl, sym, ap, ◌∙◌, subst, arith, true≢false, eq-eqb}
use Rattle.std.specs.Prelude.{slice_index}
use Rattle.std.proofs.lemmas.Bool.{and_parts, eqb-true, lt-ltb}
use Rattle.map_model.proofs.ListLemmas.{has_any}
use Rattle.page_model.specs.Check.{names_page}
use Rattle.page_model.specs.Nodes.{Node, covers, holds, is_leaf}
use Rattle.page_model.specs.Pairs.{Span, spans}
use Rattle.page_model.specs.Tree.{Names}
use Rattle.row_changes.specs.session_state.core_calls.Room.{EveryRoom}
use Rattle.row_changes.specs.session_state.core_state.Openings.{Opening}
use Rattle.row_changes.specs.session_state.core_state.States.{Place, State, in_frame, nodes_of}
use Rattle.row_changes.specs.session_state.worker_log.Logs.{Log}
use Rattle.row_changes.specs.session_state.row_words.Openings.{opening}
use Rattle.row_changes.specs.session_state.rows_trait.Views.{Shape, state}
use Rattle.row_changes.specs.session_state.rows_trait.declared.view.View.{View}
use Rattle.row_changes.specs.session_state.lean_proto.Paths.{above}
use Rattle.row_changes.specs.session_state.btree_descent.Puts.{IsLeafAt}
use Rattle.row_changes.specs.session_state.Holds.{Holds}
use Rattle.row_changes.specs.session_state.declared.session.Session.{Session}
use Rattle.row_tidying.specs.tidy_rules.Tidying.{page_at}
use Rattle.row_changes.specs.Paths.{IsPathTo}
use Rattle.row_tidying.proofs.MadeLemmas.{hot_in, one_in, sound}
use Rattle.row_walks.specs.Inside.Ways.{IsOnWay, frame_at}
use Rattle.row_walks.proofs.LevelLemmas.{page_is}

some_is : (a b : ℕ) → Some a ≡ Some b → a ≡ b
some_is a b e = cc

-- a node names its child
names_child : (v : Node) (t : Span) → Names v t → names_page v t.child ≡ true
names_child v t n = λ i. (n.live i && lt-ltb 0 v.level n.inner i) && has_any (λ (s : Span). s.child == t.child) (spans v.pairs v.high) t n.has (eq-eqb t.child t.child refl) i

-- the page among the first n that stands in the frame, if one does
abbrev pub standing : (n frame : ℕ) → State → ℕ
standing zero f s = 0
standing (suc n) f s = cond (in_frame (s.place n) f) n (standing n f s)

standing_is : (s : State) → ((p q f : ℕ) → in_frame (s.place p) f ≡ true → in_frame (s.place q) f ≡ true → p ≡ q) → (n f p : ℕ) → p < n → in_frame (s.place p) f ≡ true → standing n f s ≡ p
standing_is s one zero f p lt e = absurd (omega arith)
standing_is s one (suc n) f p lt e = go (in_frame (s.place n) f) refl (standing_is s one n f p)
  where
    go : (b : Bool) → in_frame (s.place n) f ≡ b → (p < n → in_frame (s.place p) f ≡ true → standing n f s ≡ p) → cond b n (standing n f s) ≡ p
    go true q ih = one n p f q e
    go false q ih = ih (let ne : p ≢ n = (λ k. true≢false (sym e ∙ (ap (λ (i : ℕ). in_frame (s.place i) f) k ∙ q))) in omega arith) e

module _ (rooms : EveryRoom) (z : Shape) (v : View) (x : Session) (log : Log) (h : Holds z v x log) (key : ℕ) (path : List ℕ) (leaf at_frame : ℕ) (at : IsLeafAt v.given (state v) at_frame leaf key) (p : IsPathTo v x.frames key path at_frame) where
  abbrev g : Opening
  g = opening v.given

  abbrev s : State
  s = (state v).core

  -- the page of a level
  abbrev pub page : ℕ → ℕ
  page l = standing g.format.pages (frame_at path l) s

  above_is : (l : ℕ) → l < length path → above path l ≡ Some (frame_at path l)
  above_is l lt = ap (λ b. cond b (Some (frame_at path l)) None) (lt-ltb l (length path) lt)

  abbrev top : ℕ
  top = length p.under_root

  pub length_is : length path ≡ suc top
  length_is = ap length p.starts

  -- where a page stands, it is found
  stands_at : (q frame : ℕ) → s.place q ≡ Place.Hot frame → standing g.format.pages frame s ≡ q
  stands_at q frame hot =
      let here : in_frame (s.place q) frame ≡ true = ap (λ k. in_frame k frame) hot ∙ eq-eqb frame frame refl in
      standing_is s (sound z v x log h).residence.one g.format.pages frame q (hot_in z v x log h q frame hot).below here

  leaf_frame : frame_at path 0 ≡ at_frame
  leaf_frame = some_is (frame_at path 0) at_frame (sym (above_is 0 (let q = length_is in omega arith)) ∙ p.ends)

  pub leaf_is : page 0 ≡ leaf
  leaf_is = ap (λ f. standing g.format.pages f s) leaf_frame ∙ stands_at leaf at_frame at.hot

  root_frame : frame_at path top ≡ 0
  root_frame = let e : length path - suc top ≡ 0 = (let q = length_is in omega arith) in ap (slice_index path) e ∙ ap (λ fs. slice_index fs 0) p.starts

  pub root_is : page top ≡ 0
  root_is = ap (λ f. standing g.format.pages f s) root_frame ∙ stands_at 0 0 (sound z v x log h).residence.root

  -- each is the parent of the one below it, and one level higher
  parent_at : (l : ℕ) → suc l < length path → IsOnWay g s key l (page l) (frame_at path l) → IsOnWay g s key (suc l) (page (suc l)) (frame_at path (suc l))
  parent_at l lt i =
      let a = p.led l (frame_at path (suc l)) (frame_at path l) (above_is (suc l) lt) (above_is l (omega arith)) in
      let child : a.routes.span.child ≡ page l = one_in z v x log h a.routes.span.child (page l) (frame_at path l) a.child i.hot in
      let t = (rooms g s key).parent (sound z v x log h).tree a.routes.parent a.routes.below a.routes.span a.routes.names a.routes.low a.routes.high in
      subst (λ q. IsOnWay g s key (suc l) q (frame_at path (suc l))) (sym (stands_at a.routes.parent (frame_at path (suc l)) a.routes.hot))
      (record { hot = a.routes.hot; below = a.routes.below; covers = t.0; level = sym t.2 ∙ ap suc (ap (λ k. (nodes_of s k).level) child ∙ i.level) })

  pub climb : (l : ℕ) → l < length path → IsOnWay g s key l (page l) (frame_at path l)
  climb zero lt =
      let n = (nodes_of s leaf) in
      let a = and_parts (is_leaf n) (covers n key) at.leaf in
      let b = and_parts n.live (n.level == 0) a.0 in
      subst (λ q. IsOnWay g s key 0 q (frame_at path 0)) (sym leaf_is) (record { hot = at.hot ∙ ap Place.Hot (sym leaf_frame); below = at.below; covers = a.1; level = eqb-true n.level 0 b.1 })
  climb (suc l) lt = parent_at l lt (climb l (omega arith))

  -- the root's level is that of the path's beginning
  pub top_is : (nodes_of s 0).level ≡ top
  top_is = ap (λ k. (nodes_of s k).level) (sym root_is) ∙ (climb top (let q = length_is in omega arith)).level

  -- no other page of the way is the root
  pub not_root : (l : ℕ) → suc l < length path → page l ≢ 0
  not_root l lt e = let a = (climb l (omega arith)).level in let b = ap (λ k. (nodes_of s k).level) e in let c = top_is in let d = length_is in omega arith

  -- a page names the one below it
  pub names_below : (l : ℕ) → suc l < length path → names_page (nodes_of s (page (suc l))) (page l) ≡ true
  names_below l lt =
      let a = p.led l (frame_at path (suc l)) (frame_at path l) (above_is (suc l) lt) (above_is l (omega arith)) in
      let child : a.routes.span.child ≡ page l = one_in z v x log h a.routes.span.child (page l) (frame_at path l) a.child (climb l (omega arith)).hot in
      (λ i. names_page (nodes_of s (stands_at a.routes.parent (frame_at path (suc l)) a.routes.hot i)) (sym child i)) ∙ names_child (nodes_of s a.routes.parent) a.routes.span a.routes.names

  -- and is what the rules find of its level
  pub found : (l : ℕ) → l < length path → page_at g s key l ≡ Some (page l)
  found l lt = let i = climb l lt in page_is rooms g s key l (page l) (sound z v x log h).tree i.below i.covers i.level
