-- The pages of a tidying: which neighbour a level wants; and that a level that is passed is so still behind the coming of a neighbour of a higher one, and wants none itself.
use Rattle.std.proofs.Common.{◌≡◌, ◌∙◌, ◌⊎◌, inl, inr, ◌<◌, ◌+◌, ◌&&◌, ◌||◌, ◌==◌, not, leb, ltb, ℕ, zero, suc, Bool, true, false, cond, List, [], ◌∷◌, length, Option, Some, None, ap, refl, sym, subst, arith, true≢false}
use Rattle.std.proofs.lemmas.Bool.{and_from, and_parts, eq-eqb, eqb-true, lt-ltb}
use Rattle.map_model.specs.Lists.{any}
use Rattle.page_model.specs.Check.{is_nil, names_page}
use Rattle.page_model.specs.Nodes.{Node, covers}
use Rattle.page_model.specs.Pairs.{Has, Pair, Span, spans}
use Rattle.page_model.specs.Tree.{IsTree, Names}
use Rattle.paged_desks.specs.core_calls.Warms.{IsWarmFrom}
use Rattle.paged_desks.specs.core_state.Events as happening
use Rattle.paged_desks.specs.core_state.Openings.{Opening}
use Rattle.paged_desks.specs.core_state.States.{State, is_hot, nodes_of}
use Rattle.paged_desks.specs.session_state.tidy_rules.Tidying.{Sisters, is_thin, join_of, join_under, page_among, page_at, sisters, thin_most}
use Rattle.row_walks.specs.Stages.{IsNeighbour, IsPassed}
use Rattle.row_walks.specs.declared.steps.At.{At}
use Rattle.paged_calls.specs.Growths.{AreLike}

-- ## Pages that are joined

some_is : {A : Type 0} (a b : A) → Some a ≡ Some b → a ≡ b
some_is a b e = cc

-- two pages beside each other
abbrev two_of : (x y : Pair) → Sisters
two_of x y = record { left = x.word; right = y.word }

-- one of the two is the page itself
pub sister_own : (ps : List Pair) (p : ℕ) (b : Sisters) → sisters ps p ≡ Some b → (b.left ≡ p) ⊎ (b.right ≡ p)
sister_own [] p b e = absurd (cc)
sister_own (x ∷ []) p b e = absurd (cc)
sister_own (x ∷ y ∷ ys) p b e = go (x.word == p) (y.word == p) (is_nil ys) refl refl (sister_own (y ∷ ys) p b) e
  where
    go : (u w n : Bool) → (x.word == p) ≡ u → (y.word == p) ≡ w → (sisters (y ∷ ys) p ≡ Some b → (b.left ≡ p) ⊎ (b.right ≡ p)) → cond (u || (w && n)) (Some (two_of x y)) (sisters (y ∷ ys) p) ≡ Some b → (b.left ≡ p) ⊎ (b.right ≡ p)
    go true w n q r ih f = inl (ap (λ (a : Sisters). a.left) (sym (some_is (two_of x y) b f)) ∙ eqb-true x.word p q)
    go false true true q r ih f = inr (ap (λ (a : Sisters). a.right) (sym (some_is (two_of x y) b f)) ∙ eqb-true y.word p r)
    go false true false q r ih f = ih f
    go false false n q r ih f = ih f

-- a pair of the parent names this page
pub record IsChildIn (ps : List Pair) (high p : ℕ) : Type 0 where
  pub span : Span
  pub has : Has span (spans ps high)
  pub child : span.child ≡ p

child_more : (x : Pair) (ps : List Pair) (high p : ℕ) → IsChildIn ps high p → IsChildIn (x ∷ ps) high p
child_more x ps high p c = record { span = c.span; has = inr c.has; child = c.child }

-- so each of the two is named
pub sister_named : (ps : List Pair) (high p : ℕ) (b : Sisters) → sisters ps p ≡ Some b → IsChildIn ps high b.left × IsChildIn ps high b.right
sister_named [] high p b e = absurd (cc)
sister_named (x ∷ []) high p b e = absurd (cc)
sister_named (x ∷ y ∷ ys) high p b e = go ((x.word == p) || ((y.word == p) && is_nil ys)) (sister_named (y ∷ ys) high p b) e
  where
    go : (u : Bool) → (sisters (y ∷ ys) p ≡ Some b → IsChildIn (y ∷ ys) high b.left × IsChildIn (y ∷ ys) high b.right) → cond u (Some (two_of x y)) (sisters (y ∷ ys) p) ≡ Some b → IsChildIn (x ∷ y ∷ ys) high b.left × IsChildIn (x ∷ y ∷ ys) high b.right
    go true ih f = subst (λ (a : Sisters). IsChildIn (x ∷ y ∷ ys) high a.left × IsChildIn (x ∷ y ∷ ys) high a.right) (some_is (two_of x y) b f) (record { span = _; has = inl refl; child = refl }, record { span = _; has = inr (inl refl); child = refl })
    go false ih f = let c = ih f in (child_more x (y ∷ ys) high b.left c.0, child_more x (y ∷ ys) high b.right c.1)

-- ## The page of a level

-- what is so of it
pub record IsAt (s : State) (key l n p : ℕ) : Type 0 where
  pub below : p < n
  pub covers_key : covers (nodes_of s p) key ≡ true
  pub level : (nodes_of s p).level ≡ l

pub page_is : (s : State) (key l n p : ℕ) → page_among s key l n ≡ Some p → IsAt s key l n p
page_is s key l zero p e = absurd (cc)
page_is s key l (suc n) p e = go (covers (nodes_of s n) key) ((nodes_of s n).level == l) refl refl (page_is s key l n p) e
  where
    go : (a b : Bool) → covers (nodes_of s n) key ≡ a → ((nodes_of s n).level == l) ≡ b → (page_among s key l n ≡ Some p → IsAt s key l n p) → cond (a && b) (Some n) (page_among s key l n) ≡ Some p → IsAt s key l (suc n) p
    go true true q r ih f = subst (IsAt s key l (suc n)) (some_is n p f) (record { below = omega arith; covers_key = q; level = eqb-true (nodes_of s n).level l r })
    go true false q r ih f = let k = ih f in record { below = (let lt = k.below in omega arith); covers_key = k.covers_key; level = k.level }
    go false b q r ih f = let k = ih f in record { below = (let lt = k.below in omega arith); covers_key = k.covers_key; level = k.level }

-- where pages are as they were but for the entries of leaves, it is the same one
among_like : (s t : State) → AreLike s t → (key l n : ℕ) → page_among t key l n ≡ page_among s key l n
among_like s t like key l zero = refl
among_like s t like key l (suc n) =
    let ih = among_like s t like key l n in
    let here : (covers (nodes_of t n) key && ((nodes_of t n).level == l)) ≡ (covers (nodes_of s n) key && ((nodes_of s n).level == l)) = ap (λ (v : Node). covers v key && (v.level == l)) (like n).fields in
    (λ i. cond (here i) (Some n) (ih i))

-- ## A neighbour

covers_live : (v : Node) (key : ℕ) → covers v key ≡ true → v.live ≡ true
covers_live v key e = (and_parts v.live (leb v.low key && ltb key v.high) e).0

module _ (g : Opening) (s : State) (tree : IsTree g.format (nodes_of s)) (key l : ℕ) where
  -- a page that a page of the level above names is of this level
  child_level : (q : ℕ) → page_at g s key (suc l) ≡ Some q → (p : ℕ) → IsChildIn (nodes_of s q).pairs (nodes_of s q).high p → (nodes_of s p).level ≡ l
  child_level q e p c =
      let a = page_is s key (suc l) g.format.pages q e in
      let names : Names (nodes_of s q) c.span = record { live = covers_live (nodes_of s q) key a.covers_key; inner = (let k = a.level in omega arith); has = c.has } in
      let d = (tree.down q a.below c.span names).level in
      subst (λ (i : ℕ). (nodes_of s i).level ≡ l) c.child (let k = a.level in omega arith)

  module _ (page : ℕ) (n : IsNeighbour g s key l page) where
    named : IsChildIn (nodes_of s n.parent).pairs (nodes_of s n.parent).high page
    named =
        let c = sister_named (nodes_of s n.parent).pairs (nodes_of s n.parent).high n.own_page n.pair n.are in
        elim n.either [
          | inl e ↦ subst (IsChildIn (nodes_of s n.parent).pairs (nodes_of s n.parent).high) (sym e) c.0
          | inr e ↦ subst (IsChildIn (nodes_of s n.parent).pairs (nodes_of s n.parent).high) (sym e) c.1
        ]

    pub neighbour_level : (nodes_of s page).level ≡ l
    neighbour_level = child_level n.parent n.found_parent page named

    any_child : (xs : List Span) (z : Span) → Has z xs → z.child ≡ page → any (λ (x : Span). x.child == page) xs ≡ true
    any_child [] z h e = absurd h
    any_child (x ∷ xs) z (inl q) e = left (x.child == page) (any (λ (y : Span). y.child == page) xs) (eq-eqb x.child page (ap (λ (y : Span). y.child) (sym q) ∙ e))
      where
        left : (a b : Bool) → a ≡ true → (a || b) ≡ true
        left true b f = refl
        left false b f = absurd (true≢false (sym f))
    any_child (x ∷ xs) z (inr h) e = right (x.child == page) (any (λ (y : Span). y.child == page) xs) (any_child xs z h e)
      where
        right : (a b : Bool) → b ≡ true → (a || b) ≡ true
        right true b f = refl
        right false b f = f

    -- its parent is of the key's way, and names it
    pub parent_at : IsAt s key (suc l) g.format.pages n.parent
    parent_at = page_is s key (suc l) g.format.pages n.parent n.found_parent

    pub parent_names : names_page (nodes_of s n.parent) page ≡ true
    parent_names =
        let v = nodes_of s n.parent in
        let a = parent_at in
        and_from (v.live && ltb 0 v.level) (any (λ (x : Span). x.child == page) (spans v.pairs v.high))
        (and_from v.live (ltb 0 v.level) (covers_live v key a.covers_key) (lt-ltb 0 v.level (let k = a.level in omega arith))) (any_child (spans v.pairs v.high) named.span named.has named.child)

-- ## Behind its coming

-- One page that was cold came. The others are as they were, and so is it but for the entries of a leaf.
module _ (g : Opening) (s t : State) (tree : IsTree g.format (nodes_of s)) (key page : ℕ) (warm : IsWarmFrom g s key 0) (cold : is_hot (s.place page) ≡ false) (like : AreLike s t) (others : (p : ℕ) → (p ≡ page → ⊥) → nodes_of t p ≡ nodes_of s p) where
  page_same : (l : ℕ) → page_at g t key l ≡ page_at g s key l
  page_same l = among_like s t like key l g.format.pages

  -- a page of the way was hot
  hot_at : (l p : ℕ) → page_at g s key l ≡ Some p → is_hot (s.place p) ≡ true
  hot_at l p e = let a = page_is s key l g.format.pages p e in warm p a.below a.covers_key (omega arith)

  way_same : (l p : ℕ) → page_at g s key l ≡ Some p → nodes_of t p ≡ nodes_of s p
  way_same l p e = others p (λ q. true≢false (sym (hot_at l p e) ∙ (ap (λ (i : ℕ). is_hot (s.place i)) q ∙ cold)))

  thin_same : (l : ℕ) → is_thin t (page_at g t key l) ≡ is_thin s (page_at g s key l)
  thin_same l = ap (is_thin t) (page_same l) ∙ go (page_at g s key l) refl
    where
      go : (o : Option ℕ) → page_at g s key l ≡ o → is_thin t o ≡ is_thin s o
      go None e = refl
      go (Some p) e = ap (λ (v : Node). not (p == 0) && leb (length v.pairs) thin_most) (way_same l p e)

  -- of another level than its own
  join_same : (own l : ℕ) → ((nodes_of s page).level ≡ l → ⊥) → join_under own g t (page_at g t key l) (page_at g t key (suc l)) ≡ join_under own g s (page_at g s key l) (page_at g s key (suc l))
  join_same own l other = (λ i. join_under own g t (page_same l i) (page_same (suc l) i)) ∙ go (page_at g s key l) (page_at g s key (suc l)) refl
    where
      joint : (q p : ℕ) → page_at g s key (suc l) ≡ Some q → (o : Option Sisters) → sisters (nodes_of s q).pairs p ≡ o → join_of own g t q o ≡ join_of own g s q o
      joint q p b None e = refl
      joint q p b (Some c) e =
          let named = sister_named (nodes_of s q).pairs (nodes_of s q).high p c e in
          let left : nodes_of t c.left ≡ nodes_of s c.left = others c.left (λ k. other (ap (λ (i : ℕ). (nodes_of s i).level) (sym k) ∙ child_level g s tree key l q b c.left named.0)) in
          let right : nodes_of t c.right ≡ nodes_of s c.right = others c.right (λ k. other (ap (λ (i : ℕ). (nodes_of s i).level) (sym k) ∙ child_level g s tree key l q b c.right named.1)) in
          (λ i. cond (leb (length (left i).pairs + length (right i).pairs) g.joined) (Some (happening.Event.Join own c.left c.right q)) None)

      go : (o r : Option ℕ) → page_at g s key (suc l) ≡ r → join_under own g t o r ≡ join_under own g s o r
      go (Some p) (Some q) b = ap (λ (v : Node). join_of own g t q (sisters v.pairs p)) (way_same (suc l) q b) ∙ joint q p b (sisters (nodes_of s q).pairs p) refl
      go (Some p) None b = refl
      go None (Some q) b = refl
      go None None b = refl

  -- the levels below its own are passed still
  pub passed_kept : (own : ℕ) (a : At) (level : ℕ) → (nodes_of s page).level ≡ level → IsPassed own g s key a level → IsPassed own g t key a level
  passed_kept own a level is p = record {
    from = p.from;
    within = p.within;
    thin = λ l lo hi. thin_same l ∙ p.thin l lo hi;
    none = λ l lo hi. join_same own l (λ e. absurd (let q = is in let lt = hi in omega arith)) ∙ p.none l lo hi;
  }

  -- and its own wants no neighbour, since both are hot
  module _ (l : ℕ) (n : IsNeighbour g s key l page) (warm_now : IsWarmFrom g t key 0) (here : is_hot (t.place page) ≡ true) where
    pub none_wanted : (p : ℕ) → IsNeighbour g t key l p → ⊥
    none_wanted p m = go (sister_own (nodes_of s n.parent).pairs n.own_page n.pair n.are) n.either (elim m.either [ inl e ↦ inl (e ∙ ap (λ (b : Sisters). b.left) pair_is) | inr e ↦ inr (e ∙ ap (λ (b : Sisters). b.right) pair_is) ])
      where
        own_is : m.own_page ≡ n.own_page
        own_is = some_is m.own_page n.own_page (sym m.found ∙ (page_same l ∙ n.found))

        parent_is : m.parent ≡ n.parent
        parent_is = some_is m.parent n.parent (sym m.found_parent ∙ (page_same (suc l) ∙ n.found_parent))

        pair_is : m.pair ≡ n.pair
        pair_is = some_is m.pair n.pair (sym m.are ∙ ((λ i. sisters (nodes_of t (parent_is i)).pairs (own_is i)) ∙ (ap (λ (v : Node). sisters v.pairs n.own_page) (way_same (suc l) n.parent n.found_parent) ∙ n.are)))

        own_hot : is_hot (t.place n.own_page) ≡ true
        own_hot = let a = page_is t key l g.format.pages n.own_page (page_same l ∙ n.found) in warm_now n.own_page a.below a.covers_key (omega arith)

        own_was : is_hot (s.place n.own_page) ≡ true
        own_was = hot_at l n.own_page n.found

        -- it is neither
        clash : (q : ℕ) → p ≡ q → is_hot (t.place q) ≡ true → ⊥
        clash q e hot = true≢false (sym hot ∙ (ap (λ (i : ℕ). is_hot (t.place i)) (sym e) ∙ m.cold))

        apart : page ≡ n.own_page → ⊥
        apart e = true≢false (sym own_was ∙ (ap (λ (i : ℕ). is_hot (s.place i)) (sym e) ∙ n.cold))

        go : (n.pair.left ≡ n.own_page) ⊎ (n.pair.right ≡ n.own_page) → (page ≡ n.pair.left) ⊎ (page ≡ n.pair.right) → (p ≡ n.pair.left) ⊎ (p ≡ n.pair.right) → ⊥
        go (inl o) (inl e) f = apart (e ∙ o)
        go (inl o) (inr e) (inl f) = clash n.own_page (f ∙ o) own_hot
        go (inl o) (inr e) (inr f) = clash page (f ∙ sym e) here
        go (inr o) (inr e) f = apart (e ∙ o)
        go (inr o) (inl e) (inr f) = clash n.own_page (f ∙ o) own_hot
        go (inr o) (inl e) (inl f) = clash page (f ∙ sym e) here
