-- A cold leaf is read: the pages are a tree with the pairs that were found, and where the opening is faithful nothing changes.
use Rattle.map_model.specs.Lists.{upd}
use Rattle.map_model.proofs.ListLemmas.{upd_same, upd_other}
use Rattle.core_state.specs.image_model.Entries.{Contents}
use Rattle.page_model.specs.Pairs.{Pair, Has as HasPair, Rising, spans}
use Rattle.page_model.specs.Records.{any}
use Rattle.page_model.specs.Nodes.{Format, Node, is_leaf}
use Rattle.page_model.specs.Check.{is_rising, names_page}
use Rattle.page_model.specs.Tree.{IsTree}
use Rattle.page_model.proofs.Leaves.{Refilled, refilled_tree}
use Rattle.core_state.specs.States.{State, is_cold, nodes_of}
use Rattle.core_state.specs.Openings.{Opening}
use Rattle.core_state.specs.Events.{Event}
use Rattle.core_state.specs.Needs.{are_same, are_words, may_have, needs}
use Rattle.core_state.specs.Steps.{happens, with_pairs}
use Rattle.core_commit.proofs.Copies.{Copied, at_place, loaded}
use Rattle.std.proofs.Common.{◌≡◌, ◌<◌, ◌≤◌, ℕ, suc, Bool, true, false, ◌&&◌, ◌||◌, not, leb, ltb, ◌==◌, List, [], ◌∷◌, length, refl, sym, ap, ap₂, ◌∙◌, inl, inr, arith, true≢false}
use Rattle.std.proofs.lemmas.Bool.{and_parts, cases_eq, eqb-true, leb-true, ltb-true}
use mathlib.Core.Path.{fun_ext}

-- ## What the need says

-- a cold leaf, for which these pairs are well formed
pub record IsFetch (g : Opening) (s : State) (p : ℕ) (pairs : List Pair) : Type 0 where
  pub below : p < g.format.pages
  pub cold : is_cold (s.place p) ≡ true
  pub live : (s.saved p).node.live ≡ true
  pub leaf : (s.saved p).node.level ≡ 0
  pub sized : length pairs ≤ g.format.room
  pub rising : Rising (s.saved p).node.low pairs (s.saved p).node.high
  pub words : (x : Pair) → HasPair x pairs → x.word ≤ g.format.dead
  pub own : g.faithful ≡ true → pairs ≡ (s.saved p).node.pairs

rising_to : (a : ℕ) (xs : List Pair) (b : ℕ) → is_rising a xs b ≡ true → Rising a xs b
rising_to a [] b h = leb-true a b h
rising_to a (x ∷ xs) b h = let q = and_parts (leb a x.key) (is_rising (suc x.key) xs b) h in (leb-true a x.key q.0, rising_to (suc x.key) xs b q.1)

words_to : (f : Format) (xs : List Pair) → are_words f xs ≡ true → (x : Pair) → HasPair x xs → x.word ≤ f.dead
words_to f [] h x i = absurd i
words_to f (y ∷ ys) h x (inl e) = let q = and_parts (leb y.word f.dead) (are_words f ys) h in let l = leb-true y.word f.dead q.0 in let z = ap (λ (v : Pair). v.word) e in omega arith
words_to f (y ∷ ys) h x (inr i) = words_to f ys (and_parts (leb y.word f.dead) (are_words f ys) h).1 x i

same_to : (xs ys : List Pair) → are_same xs ys ≡ true → xs ≡ ys
same_to [] [] h = refl
same_to [] (y ∷ ys) h = absurd (true≢false (sym h))
same_to (x ∷ xs) [] h = absurd (true≢false (sym h))
same_to (x ∷ xs) (y ∷ ys) h =
    let a = and_parts (x.key == y.key) ((x.word == y.word) && are_same xs ys) h in
    let b = and_parts (x.word == y.word) (are_same xs ys) a.1 in
    ap₂ (λ (v : Pair) (vs : List Pair). v ∷ vs) (ap₂ (λ (k w : ℕ). record { key = k; word = w }) (eqb-true x.key y.key a.0) (eqb-true x.word y.word b.0)) (same_to xs ys b.1)

own_to : (b c : Bool) → (not b || c) ≡ true → b ≡ true → c ≡ true
own_to true c h e = h
own_to false c h e = absurd (true≢false (sym e))

pub fetch_is : (g : Opening) (s : State) (p : ℕ) (pairs : List Pair) → needs g s (Event.Fetch p pairs) ≡ true → IsFetch g s p pairs
fetch_is g s p pairs m =
    let n = (s.saved p).node in
    let own = not g.faithful || are_same pairs n.pairs in
    let a = and_parts (ltb p g.format.pages) (is_cold (s.place p) && may_have g n pairs) m in
    let b = and_parts (is_cold (s.place p)) (may_have g n pairs) a.1 in
    let c = and_parts (is_leaf n) (leb (length pairs) g.format.room && (is_rising n.low pairs n.high && (are_words g.format pairs && own))) b.1 in
    let d = and_parts n.live (n.level == 0) c.0 in
    let e = and_parts (leb (length pairs) g.format.room) (is_rising n.low pairs n.high && (are_words g.format pairs && own)) c.1 in
    let h = and_parts (is_rising n.low pairs n.high) (are_words g.format pairs && own) e.1 in
    let w = and_parts (are_words g.format pairs) own h.1 in record {
      below = ltb-true p g.format.pages a.0;
      cold = b.0;
      live = d.0;
      leaf = eqb-true n.level 0 d.1;
      sized = leb-true (length pairs) g.format.room e.0;
      rising = rising_to n.low pairs n.high h.0;
      words = words_to g.format pairs w.0;
      own = λ f. same_to pairs n.pairs (own_to g.faithful (are_same pairs n.pairs) w.1 f);
    }

-- ## What it leaves

-- where the opening is faithful, nothing changes
pub fetch_same : (g : Opening) (s : State) → Copied s.page s.saved s.place → g.faithful ≡ true → (p : ℕ) (pairs : List Pair) → needs g s (Event.Fetch p pairs) ≡ true → happens g s (Event.Fetch p pairs) ≡ s
fetch_same g s k f p pairs m =
    let i = fetch_is g s p pairs m in
    let c : with_pairs pairs (s.saved p) ≡ s.saved p = ap (λ (l : List Pair). with_pairs l (s.saved p)) (i.own f) in
    ap₂ (λ (page saved : ℕ → Contents). record s { page = page; saved = saved })
    (fun_ext (λ q. ap (λ (x : Contents). upd s.page p x q) c ∙ loaded s.page s.saved s.place k p i.cold q))
    (fun_ext (λ q. ap (λ (x : Contents). upd s.saved p x q) c ∙ at_place (λ j v. v ≡ s.saved j) s.saved p (s.saved p) q (λ e. ap s.saved (sym e)) (λ _. refl)))

-- number and log of each page stay
pub fetch_gsn : (s : State) → Copied s.page s.saved s.place → (p : ℕ) (pairs : List Pair) → is_cold (s.place p) ≡ true → (q : ℕ) →
    ((upd s.page p (with_pairs pairs (s.saved p)) q).gsn ≡ (s.page q).gsn) × ((upd s.page p (with_pairs pairs (s.saved p)) q).last ≡ (s.page q).last)
fetch_gsn s k p pairs c q = at_place (λ j v. (v.gsn ≡ (s.page j).gsn) × (v.last ≡ (s.page j).last)) s.page p (with_pairs pairs (s.saved p)) q
    (λ e. let z = sym (k.cold p c) ∙ ap s.page (sym e) in (ap (λ (v : Contents). v.gsn) z, ap (λ (v : Contents). v.last) z))
    (λ _. (refl, refl))

-- a leaf names no page
leaf_names : (n : Node) (c : ℕ) → n.level ≡ 0 → names_page n c ≡ false
leaf_names n c e = go n.live
  where
    go : (b : Bool) → ((b && ltb 0 n.level) && any (λ z. z.child == c) (spans n.pairs n.high)) ≡ false
    go true = rw e refl
    go false = refl

-- so that each page names whom it named
pub fetch_names : (g : Opening) (s : State) → Copied s.page s.saved s.place → (p : ℕ) (pairs : List Pair) → IsFetch g s p pairs → (q c : ℕ) → names_page (nodes_of (happens g s (Event.Fetch p pairs)) q) c ≡ names_page (nodes_of s q) c
fetch_names g s k p pairs i q c = at_place (λ j v. names_page v.node c ≡ names_page (s.page j).node c) s.page p (with_pairs pairs (s.saved p)) q
    (λ e. leaf_names (with_pairs pairs (s.saved p)).node c i.leaf ∙ sym (leaf_names (s.page q).node c (ap (λ (j : ℕ). (s.page j).node.level) e ∙ (ap (λ (v : Contents). v.node.level) (k.cold p i.cold) ∙ i.leaf))))
    (λ _. refl)

-- the pages are a tree
pub fetch_tree : (g : Opening) (s : State) → Copied s.page s.saved s.place → IsTree g.format (nodes_of s) → (p : ℕ) (pairs : List Pair) → IsFetch g s p pairs → IsTree g.format (nodes_of (happens g s (Event.Fetch p pairs)))
fetch_tree g s k t p pairs i = refilled_tree g.format (nodes_of s) (nodes_of (happens g s (Event.Fetch p pairs))) t p pairs fills
  where
    cold : (s.page p).node ≡ (s.saved p).node
    cold = ap (λ (v : Contents). v.node) (k.cold p i.cold)

    fills : Refilled g.format (nodes_of s) (nodes_of (happens g s (Event.Fetch p pairs))) p pairs
    fills = record {
      here = ap (λ (v : Contents). v.node) (upd_same s.page p (with_pairs pairs (s.saved p)) p refl) ∙ ap (λ (n : Node). record n { pairs = pairs }) (sym cold);
      others = λ q n. ap (λ (v : Contents). v.node) (upd_other s.page p (with_pairs pairs (s.saved p)) q n);
      page = i.below;
      live = ap (λ (n : Node). n.live) cold ∙ i.live;
      leaf = ap (λ (n : Node). n.level) cold ∙ i.leaf;
      sized = i.sized;
      rising = rw cold i.rising;
      values = i.words;
    }

-- and what is saved of each page
pub fetch_copied : (g : Opening) (s : State) → Copied s.page s.saved s.place → (p : ℕ) (pairs : List Pair) → is_cold (s.place p) ≡ true → Copied (happens g s (Event.Fetch p pairs)).page (happens g s (Event.Fetch p pairs)).saved s.place
fetch_copied g s k p pairs c = record {
  cold = λ q d. elim (cases_eq q p) [
    | inl e ↦ upd_same s.page p x q e ∙ sym (upd_same s.saved p x q e)
    | inr n ↦ upd_other s.page p x q n ∙ (k.cold q d ∙ sym (upd_other s.saved p x q n))
  ];
  clean = λ q. elim (cases_eq q p) [
    | inl e ↦ λ l. upd_same s.page p x q e ∙ sym (upd_same s.saved p x q e)
    | inr n ↦ λ l. upd_other s.page p x q n ∙ (k.clean q (other q n l) ∙ sym (upd_other s.saved p x q n))
  ];
  behind = λ q. elim (cases_eq q p) [
    | inl e ↦ (let a = ap (λ (v : Contents). v.gsn) (upd_same s.page p x q e ∙ sym (upd_same s.saved p x q e)) in omega arith)
    | inr n ↦ (let a = ap (λ (v : Contents). v.gsn) (upd_other s.page p x q n) in let b = ap (λ (v : Contents). v.gsn) (upd_other s.saved p x q n) in let l = k.behind q in omega arith)
  ];
}
  where
    x : Contents
    x = with_pairs pairs (s.saved p)

    other : (q : ℕ) → (q ≡ p → ⊥) → (upd s.page p x q).gsn ≤ (upd s.saved p x q).gsn → (s.page q).gsn ≤ (s.saved q).gsn
    other q n l = let a = ap (λ (v : Contents). v.gsn) (upd_other s.page p x q n) in let b = ap (λ (v : Contents). v.gsn) (upd_other s.saved p x q n) in omega arith
