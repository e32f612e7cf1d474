-- A trail has with each page of its way the one that names it, since a page has one parent.
use Rattle.std.proofs.Common.{◌≡◌, ◌<◌, ◌==◌, ◌-◌, ltb, inl, inr, ℕ, zero, suc, Bool, true, false, List, [], ◌∷◌, length, Some, None, refl, sym, ap, subst, ◌∙◌, arith}
use Rattle.std.specs.Prelude.{slice_index}
use Rattle.std.proofs.lemmas.Bool.{cond-true, cond-false, eq-eqb, eqb-true, lt-ltb, ltb-true, or_cases, or_right}
use Rattle.std.proofs.lemmas.Option.{none-some}
use Rattle.map_model.specs.Lists.{Has, any}
use Rattle.map_model.proofs.ListLemmas.{any_has, has_any}
use Rattle.page_model.specs.Check.{names_page}
use Rattle.page_model.proofs.Tree as page_tree
use Rattle.btree_descent.specs.core_state.States.{Place, State, in_frame, nodes_of}
use Rattle.btree_descent.specs.row_words.declared.given.Given.{Given}
use Rattle.btree_descent.specs.row_words.Moments.{Moment}
use Rattle.btree_descent.specs.row_words.Openings.{opening}
use Rattle.btree_descent.specs.rows_trait.Views.{after_all, state}
use Rattle.btree_descent.specs.lean_proto.Paths.{above}
use Rattle.btree_descent.specs.Known.{Sound}
use Rattle.btree_descent.specs.Trails.{IsAbove, IsColdBelow, Routes}
use Rattle.page_pool.specs.Full.{IsWay}
use Rattle.page_provider.specs.Descents.{EveryDescent}
use Rattle.page_provider.specs.Faults.{IsWanted, LeadsTo}
use Rattle.btree_descent.specs.core_state.Needs.{has_hot_parent}
use Rattle.btree_descent.specs.core_state.States.{is_hot}
use Rattle.page_provider.specs.Moves.{is_on, way}
use Rattle.page_provider.proofs.Coming.{hot_parents, names_to}
use Rattle.page_provider.proofs.Easing.{in_own}
use Rattle.page_provider.proofs.Sightings.{state_same}

-- ## Frames of a path

has_at : (xs : List ℕ) (i : ℕ) → i < length xs → Has (slice_index xs i) xs
has_at [] i lt = absurd (omega arith)
has_at (x ∷ xs) zero lt = inl refl
has_at (x ∷ xs) (suc i) lt = inr (has_at xs i (omega arith))

-- what stands so many steps above the last is at that place
record IsAt (path : List ℕ) (n f : ℕ) : Type 0 where
  short : n < length path
  is : slice_index path (length path - suc n) ≡ f

at_of : (path : List ℕ) (n f : ℕ) → above path n ≡ Some f → IsAt path n f
at_of path n f e = go (ltb n (length path)) refl
  where
    go : (b : Bool) → ltb n (length path) ≡ b → IsAt path n f
    go true lt = record { short = ltb-true n (length path) lt; is = let s = sym (cond-true (ltb n (length path)) (Some (slice_index path (length path - suc n))) None lt) ∙ e in cc }
    go false off = absurd (none-some f (sym (cond-false (ltb n (length path)) (Some (slice_index path (length path - suc n))) None off) ∙ e))

above_of : (path : List ℕ) (n f : ℕ) → IsAt path n f → above path n ≡ Some f
above_of path n f a = cond-true (ltb n (length path)) (Some (slice_index path (length path - suc n))) None (lt-ltb n (length path) a.short) ∙ ap Some a.is

above_has : (path : List ℕ) (n f : ℕ) → above path n ≡ Some f → Has f path
above_has path n f e =
    let a = at_of path n f e in
    let short = a.short in
    subst (λ x. Has x path) a.is (has_at path (length path - suc n) (omega arith))

above_more : (x : ℕ) (xs : List ℕ) (n f : ℕ) → above xs n ≡ Some f → above (x ∷ xs) n ≡ Some f
above_more x xs n f e =
    let a = at_of xs n f e in
    let short = a.short in
    let at : suc (length xs) - suc n ≡ suc (length xs - suc n) = omega arith in
    above_of (x ∷ xs) n f (record { short = omega arith; is = ap (slice_index (x ∷ xs)) at ∙ a.is })

-- a frame that is not the first has one above it
record Under (path : List ℕ) (f : ℕ) : Type 0 where
  n : ℕ
  frame : ℕ
  upper : above path (suc n) ≡ Some frame
  lower : above path n ≡ Some f

under : (x : ℕ) (xs : List ℕ) (f : ℕ) → Has f xs → Under (x ∷ xs) f
under x [] f h = absurd h
under x (y ∷ ys) f (inl e) =
    let first : suc (suc (length ys)) - suc (suc (length ys)) ≡ 0 = omega arith in
    let second : suc (suc (length ys)) - suc (length ys) ≡ 1 = omega arith in record {
      n = length ys;
      frame = x;
      upper = above_of (x ∷ (y ∷ ys)) (suc (length ys)) x (record { short = omega arith; is = ap (slice_index (x ∷ (y ∷ ys))) first });
      lower = above_of (x ∷ (y ∷ ys)) (length ys) f (record { short = omega arith; is = ap (slice_index (x ∷ (y ∷ ys))) second ∙ sym e });
    }
under x (y ∷ ys) f (inr h) =
    let u = under y ys f h in record {
      n = u.n;
      frame = u.frame;
      upper = above_more x (y ∷ ys) (suc u.n) u.frame u.upper;
      lower = above_more x (y ∷ ys) u.n f u.lower;
    }

-- ## At a moment

hot_on : (path : List ℕ) (s : State) (p f : ℕ) → s.place p ≡ Place.Hot f → Has f path → way path s p ≡ true
hot_on path s p f hot has = ap (is_on path p) hot ∙ or_right (p == 0) (any (λ i. i == f) path) (has_any (λ i. i == f) path f has (eq-eqb f f refl))

module _ (v : Given) (m : Moment) (key : ℕ) (path : List ℕ) (sound : Sound v m) where
  -- a page has one parent
  named_by : (frame p q : ℕ) (r : Routes v m key frame) → r.span.child ≡ p → q < (opening v).format.pages → names_page (m.core.page q).node p ≡ true → q ≡ r.parent
  named_by frame p q r child below names =
      let t = names_to (m.core.page q).node p names in
      (page_tree.only (opening v).format (nodes_of m.core) sound.tree q r.parent t.0 r.span below r.below t.1 r.names (t.2 ∙ sym child)).0

  -- so whoever names a page that a frame of the path leads to stands in that frame
  pub parent_on : (frame p q : ℕ) (r : Routes v m key frame) → r.span.child ≡ p → Has frame path → q < (opening v).format.pages → names_page (m.core.page q).node p ≡ true → way path m.core q ≡ true
  parent_on frame p q r child has below names = subst (λ o. way path m.core o ≡ true) (sym (named_by frame p q r child below names)) (hot_on path m.core r.parent frame r.hot has)

  -- and is hot
  pub parents_hot : (frame p : ℕ) (r : Routes v m key frame) → r.span.child ≡ p → has_hot_parent (opening v) m.core p ≡ true
  parents_hot frame p r child = hot_parents (opening v) m.core p (λ q below names. ap (λ o. is_hot (m.core.place o)) (named_by frame p q r child below names) ∙ ap is_hot r.hot)

  -- nobody names page 0
  root_free : (q p : ℕ) → q < (opening v).format.pages → names_page (m.core.page q).node p ≡ true → p ≡ 0 → ⊥
  root_free q p below names zero_is =
      let t = names_to (m.core.page q).node p names in
      let c = (page_tree.child_page (opening v).format (nodes_of m.core) sound.tree q t.0 below t.1).0 in
      let e = t.2 in
      omega arith

  -- one page stands in a frame
  same_page : (p q f : ℕ) → m.core.place p ≡ Place.Hot f → m.core.place q ≡ Place.Hot f → p ≡ q
  same_page p q f a b = sound.residence.one p q f (ap (λ x. in_frame x f) a ∙ in_own f) (ap (λ x. in_frame x f) b ∙ in_own f)

  module _ (below : List ℕ) (starts : path ≡ 0 ∷ below) (led : (n frame next : ℕ) → above path (suc n) ≡ Some frame → above path n ≡ Some next → IsAbove v m key frame next) where
    hot_parent : (q p f : ℕ) → q < (opening v).format.pages → names_page (m.core.page q).node p ≡ true → m.core.place p ≡ Place.Hot f → Has f (0 ∷ below) → way path m.core q ≡ true
    hot_parent q p f lt names hot (inl e) = absurd (root_free q p lt names (same_page p 0 0 (hot ∙ ap (λ i. Place.Hot i) e) sound.residence.root))
    hot_parent q p f lt names hot (inr h) =
        let u = under 0 below f h in
        let upper = ap (λ xs. above xs (suc u.n)) starts ∙ u.upper in
        let a = led u.n u.frame f upper (ap (λ xs. above xs u.n) starts ∙ u.lower) in
        parent_on u.frame p q a.routes (same_page a.routes.span.child p f a.child hot) (above_has path (suc u.n) u.frame upper) lt names

    pub closed : IsWay (opening v) m.core (way path m.core)
    closed q p lt names on = go (m.core.place p) refl
      where
        root : p ≡ 0 → way path m.core q ≡ true
        root e = absurd (root_free q p lt names e)

        go : (x : Place) → m.core.place p ≡ x → way path m.core q ≡ true
        go (Place.Hot f) e = elim (or_cases (p == 0) (any (λ i. i == f) path) (ap (is_on path p) (sym e) ∙ on)) [
          | inl z ↦ root (eqb-true p 0 z)
          | inr h ↦ (let x = any_has (λ i. i == f) path h in hot_parent q p f lt names e (subst (λ xs. Has f xs) starts (subst (λ i. Has i path) (eqb-true x.0 f x.2) x.1)))
        ]
        go (Place.Cooling f t c) e = root (eqb-true p 0 (ap (is_on path p) (sym e) ∙ on))
        go Place.Cold e = root (eqb-true p 0 (ap (is_on path p) (sym e) ∙ on))

-- ## A trail

pub descent_is : EveryDescent
descent_is z v w frames key row path sound sized r t = (record { within = within; root = λ only. subst (λ xs. Has 0 xs) (sym t.starts) (inl refl); closed = λ only. closed w.given (state w) key path here t.below t.starts (led only) }, λ page cold. (leads page cold, wanted page cold))
  where
    here : Sound w.given (state w)
    here = subst (λ (g : Given). Sound g (after_all g w.seen)) (sym r.given) (sound w.seen)

    within : (f : ℕ) → Has f path → f < (opening w.given).frames
    within f h =
        let lt = t.within f h in
        let same : (opening w.given).frames ≡ frames = ap (λ (g : Given). (opening g).frames) r.given ∙ sized.given in
        omega arith

    led : z.alone ≡ true → (n frame next : ℕ) → above path (suc n) ≡ Some frame → above path n ≡ Some next → IsAbove w.given (state w) key frame next
    led only n frame next a b = subst (λ (x : Given × Moment). IsAbove x.0 x.1 key frame next) (λ i. (sym r.given i, sym (state_same r only) i)) (t.still only n frame next a b)

    leads : (page : ℕ) → IsColdBelow w.given (state w) key row page → LeadsTo z w path page
    leads page cold only q below names hot = parent_on w.given (state w) key path here row page q cold.routes cold.child (above_has path 0 row t.ends) below names

    wanted : (page : ℕ) → IsColdBelow w.given (state w) key row page → z.alone ≡ true → IsWanted z w page
    wanted page cold only = record {
      below = subst (λ p. p < (opening w.given).format.pages) cold.child (page_tree.child_page (opening w.given).format (nodes_of (state w).core) here.tree cold.routes.parent cold.routes.span cold.routes.below cold.routes.names).1;
      at_hand = inr (inr (only, parents_hot w.given (state w) key path here row page cold.routes cold.child));
    }
