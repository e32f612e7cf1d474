-- How the pairs of a page that stands in a row name pages.
use Rattle.std.proofs.Common.{◌≡◌, ◌≢◌, ◌==◌, ◌||◌, ◌&&◌, ltb, ◌<◌, ◌≤◌, ◌+◌, ◌^◌, inl, inr, ℕ, zero, suc, Bool, true, false, List, [], ◌∷◌, length, refl, sym, ap, subst, ◌∙◌, arith, true≢false}
use Rattle.std.proofs.lemmas.Bool.Decides.{nat_tests}
use Rattle.map_model.specs.Lists.{any}
use Rattle.page_model.specs.Pairs.{Pair, Has, Span, spans, first_key}
use Rattle.page_model.specs.Nodes.{Node, NodeOk}
use Rattle.page_model.specs.Page.{word_at}
use Rattle.page_model.specs.Page as stored
use Rattle.page_model.specs.Tree.{IsChild}
use Rattle.page_model.specs.Check.{names_page}
use Rattle.btree_descent.specs.core_state.States.{Place, is_hot}
use Rattle.btree_descent.specs.core_state.Needs.{has_hot_child}
use Rattle.btree_descent.specs.row_words.declared.given.Given.{Given}
use Rattle.btree_descent.specs.row_words.Moments.{Moment}
use Rattle.btree_descent.specs.row_words.Openings.{opening}
use Rattle.btree_descent.specs.row_words.Words.{swip, swips, is_inner}
use Rattle.btree_descent.proofs.row_words.Frames.{hot_place, framed_live, framed_level, framed_inner, swips_length, hot_swip, cold_swip}
use Rattle.btree_descent.proofs.row_words.Stays.{cases, and_true, some_below}
use Rattle.btree_descent.specs.Known.{Sound}
use Rattle.row_image.specs.Hot.{StandsIn}
use Rattle.row_image.specs.Sights.{HasHotChild, NamesAt, PairLaws, EveryPair}
use Rattle.row_image.proofs.Pages.{names_pair}

-- ## Lists

swips_at : (place : ℕ → Place) (xs : List Pair) (j : ℕ) → j < length xs → word_at j (swips place xs) ≡ swip (place (word_at j xs)) (word_at j xs)
swips_at place [] j lt = absurd (omega arith)
swips_at place (x ∷ xs) zero lt = refl
swips_at place (x ∷ xs) (suc j) lt = swips_at place xs j (omega arith)

pair_at : (xs : List Pair) (j : ℕ) → j < length xs → (x : Pair) × Has x xs × (x.word ≡ word_at j xs)
pair_at [] j lt = absurd (omega arith)
pair_at (x ∷ xs) zero lt = (x, inl refl, refl)
pair_at (x ∷ xs) (suc j) lt = let r = pair_at xs j (omega arith) in (r.0, inr r.1, r.2)

-- what pair j names, with its fences
span_at : (xs : List Pair) (high j : ℕ) → j < length xs → (s : Span) × Has s (spans xs high) × (s.child ≡ word_at j xs)
span_at [] high j lt = absurd (omega arith)
span_at (x ∷ xs) high zero lt = (record { child = x.word; low = x.key; high = first_key xs high }, inl refl, refl)
span_at (x ∷ xs) high (suc j) lt = let r = span_at xs high j (omega arith) in (r.0, inr r.1, r.2)

-- what is named is named by a pair
named_by : (xs : List Pair) (high c : ℕ) → any (λ (s : Span). s.child == c) (spans xs high) ≡ true → (j : ℕ) × (j < length xs) × (word_at j xs ≡ c)
named_by [] high c h = absurd (true≢false (sym h))
named_by (x ∷ xs) high c h = go (x.word == c) refl h (named_by xs high c)
  where
    go : (b : Bool) → (x.word == c) ≡ b → (b || any (λ (s : Span). s.child == c) (spans xs high)) ≡ true → (any (λ (s : Span). s.child == c) (spans xs high) ≡ true → (j : ℕ) × (j < length xs) × (word_at j xs ≡ c))
        → (j : ℕ) × (j < length (x ∷ xs)) × (word_at j (x ∷ xs) ≡ c)
    go true e t ih = (0, omega arith, grind (arith, nat_tests))
    go false e t ih = let r = ih t in (suc r.0, (let l = r.1 in omega arith), r.2)

-- ## Nodes

inner_to : (v : Node) → is_inner v ≡ true → (v.live ≡ true) × (0 < v.level)
inner_to v h = let a = and_true v.live (ltb 0 v.level) h in (a.0, (let t = a.1 in grind (arith, nat_tests)))

swip_cold : (x : Place) (c : ℕ) → is_hot x ≡ false → swip x c ≡ c
swip_cold (Place.Hot f) c h = absurd (true≢false h)
swip_cold (Place.Cooling f e w) c h = refl
swip_cold Place.Cold c h = refl

module _ (v : Given) (m : Moment) (row : ℕ) (n : stored.Page) (sound : Sound v m) (it : StandsIn v m row n) where
  abbrev node : Node
  node = (m.core.page n.number).node

  abbrev place : ℕ → Place
  place = m.core.place

  inner_is : is_inner n.node ≡ is_inner node
  inner_is =
      let live : n.node.live ≡ node.live = ap (λ (q : stored.Page). q.node.live) it.page ∙ framed_live place node in
      let level : n.node.level ≡ node.level = ap (λ (q : stored.Page). q.node.level) it.page ∙ framed_level place node in
      (λ i. live i && ltb 0 (level i))

  module _ (inner : is_inner node ≡ true) where
    pairs_are : n.node.pairs ≡ swips place node.pairs
    pairs_are = let u = inner_to node inner in ap (λ (q : stored.Page). q.node.pairs) it.page ∙ ap (λ (z : Node). z.pairs) (framed_inner place node u.0 u.1)

    count_is : length n.node.pairs ≡ length node.pairs
    count_is = ap (λ (xs : List Pair). length xs) pairs_are ∙ swips_length place node.pairs

    module _ (at : ℕ) (lt : at < length node.pairs) where
      abbrev child : ℕ
      child = word_at at node.pairs

      word_is : word_at at n.node.pairs ≡ swip (place child) child
      word_is = ap (word_at at) pairs_are ∙ swips_at place node.pairs at lt

      child_small : child < 2 ^ 63
      child_small =
          let u = inner_to node inner in
          let ok : NodeOk (opening v).format node = (sound.tree.formed n.number it.stands.below).node u.0 in
          let x = pair_at node.pairs at lt in
          let below = (ok.children u.1 x.0 x.1).1 in
          let is = x.2 in
          let few = sound.few in
          omega arith

      child_named : names_page node child ≡ true
      child_named =
          let u = inner_to node inner in
          let x = pair_at node.pairs at lt in
          subst (λ z. names_page node z ≡ true) x.2 (names_pair node x.0 u.0 u.1 x.1)

      child_level : suc (m.core.page child).node.level ≡ node.level
      child_level =
          let u = inner_to node inner in
          let s = span_at node.pairs node.high at lt in
          let is : IsChild node (m.core.page s.0.child).node s.0 = sound.tree.down n.number it.stands.below s.0 (record { live = u.0; inner = u.1; has = s.1 }) in
          subst (λ z. suc (m.core.page z).node.level ≡ node.level) s.2 is.level

      hot_of : (f : ℕ) → word_at at n.node.pairs ≡ 2 ^ 63 + f → place child ≡ Place.Hot f
      hot_of f is =
          let w = word_is in
          let h = hot_swip (place child) child child_small (omega arith) in
          let e = h.2 in
          let same : h.0 ≡ f = omega arith in
          h.1 ∙ ap Place.Hot same

      cold_of : (p : ℕ) → word_at at n.node.pairs ≡ p → p < 2 ^ 63 → (is_hot (place child) ≡ false) × (child ≡ p)
      cold_of p is low =
          let w = word_is in
          let d = cold_swip (place child) child (omega arith) in
          (d.0, (let e = d.1 in omega arith))

  names_at : (at : ℕ) → is_inner n.node ≡ true → at < length n.node.pairs → NamesAt m n.number at (word_at at node.pairs)
  names_at at inner lt = let i = sym inner_is ∙ inner in record { inner = i; short = (let e = count_is i in omega arith); names = refl }

  of_names : (at q : ℕ) → NamesAt m n.number at q → (word : ℕ) → swip (place q) q ≡ word → (is_inner n.node ≡ true) × (at < length n.node.pairs) × (word_at at n.node.pairs ≡ word)
  of_names at q k word is = (inner_is ∙ k.inner, (let e = count_is k.inner in let l = k.short in omega arith), word_is k.inner at k.short ∙ (ap (λ z. swip (place z) z) k.names ∙ is))

  pub pair_laws : PairLaws m n
  pair_laws = record {
    hot = λ at f inner lt is. let k = names_at at inner lt in (word_at at node.pairs, k, hot_of k.inner at k.short f is);
    cold = λ at p inner lt is low. let k = names_at at inner lt in let d = cold_of k.inner at k.short p is low in (record { inner = k.inner; short = k.short; names = d.1 }, ap (λ z. is_hot (place z)) (sym d.1) ∙ d.0);
    named_hot = λ at q f k hot. of_names at q k (2 ^ 63 + f) (ap (λ x. swip x q) hot);
    named_cold = λ at q k cold. of_names at q k q (swip_cold (place q) q cold);
  }

  -- ## Hot children

  pub hot_child_at : (at f : ℕ) → is_inner n.node ≡ true → at < length n.node.pairs → word_at at n.node.pairs ≡ 2 ^ 63 + f → HasHotChild v m n.number f
  hot_child_at at f inner lt is =
      let k = names_at at inner lt in
      let hot = hot_of k.inner at k.short f is in record {
        page = word_at at node.pairs;
        names = child_named k.inner at k.short;
        hot = hot;
        within = (sound.residence.within (word_at at node.pairs) f (hot_place (place (word_at at node.pairs)) f hot)).1;
        lower = child_level k.inner at k.short;
      }

  -- each hot child has a pair
  hot_named : (c f : ℕ) → names_page node c ≡ true → place c ≡ Place.Hot f → (is_inner n.node ≡ true) × ((j : ℕ) × (j < length n.node.pairs) × (word_at j n.node.pairs ≡ 2 ^ 63 + f))
  hot_named c f named hot =
      let a = and_true (is_inner node) (any (λ (s : Span). s.child == c) (spans node.pairs node.high)) named in
      let j = named_by node.pairs node.high c a.1 in
      let r = of_names j.0 c (record { inner = a.0; short = j.1; names = j.2 }) (2 ^ 63 + f) (ap (λ x. swip x c) hot) in
      (r.0, (j.0, r.1, r.2))

  pub no_hot_child : (opening v).frames ≤ 2 ^ 32 → (is_inner n.node ≡ true → (j f : ℕ) → j < length n.node.pairs → f < 2 ^ 32 → word_at j n.node.pairs ≢ 2 ^ 63 + f) → has_hot_child (opening v) m.core n.number ≡ false
  no_hot_child few none = cases (has_hot_child (opening v) m.core n.number) (λ y. absurd (it_has (some_below (opening v).format.pages (λ c. names_page node c && is_hot (place c)) y))) (λ e. e)
    where
      hot_frame : (x : Place) → is_hot x ≡ true → (f : ℕ) × (x ≡ Place.Hot f)
      hot_frame (Place.Hot f) h = (f, refl)
      hot_frame (Place.Cooling f e w) h = absurd (true≢false (sym h))
      hot_frame Place.Cold h = absurd (true≢false (sym h))

      it_has : (c : ℕ) × (c < (opening v).format.pages) × ((names_page node c && is_hot (place c)) ≡ true) → ⊥
      it_has t =
          let a = and_true (names_page node t.0) (is_hot (place t.0)) t.2 in
          let h = hot_frame (place t.0) a.1 in
          let r = hot_named t.0 h.0 a.0 h.1 in
          let within = (sound.residence.within t.0 h.0 (hot_place (place t.0) h.0 h.1)).1 in
          none r.0 r.1.0 h.0 r.1.1 (omega arith) r.1.2

pub every_pair : EveryPair
every_pair v m row n sound it = pair_laws v m row n sound it
