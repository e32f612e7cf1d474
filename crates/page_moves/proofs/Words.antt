-- The words of a node of which one pair names its child by another word.
use Rattle.std.proofs.Common.{◌≡◌, ◌==◌, ◌<◌, ◌≤◌, ◌+◌, ◌-◌, ◌*◌, ltb, ℕ, zero, suc, true, List, [], ◌∷◌, ◌++◌, length, set, replicate, refl, sym, ap, subst, ◌∙◌, arith, inl, inr}
use Rattle.std.proofs.lemmas.Bool.{cases_lt, cases_eq, cond-true, eq-eqb, ltb-true, and_parts}
use Rattle.map_model.specs.Lists.{upd}
use Rattle.page_model.specs.Pairs.{Pair, Has, Rising, Span, spans, first_key}
use Rattle.page_model.specs.Page.{word_at}
use Rattle.page_model.specs.Page as stored
use Rattle.page_model.specs.Nodes.{Format, Node}
use Rattle.page_model.specs.Tree.{Names, IsTree}
use Rattle.page_model.specs.Needs.{key_at}
use Rattle.page_model.proofs.Tree.{only}
use Rattle.lean_proto.specs.btree_node.Words.{flat, pair_words, words_of}
use Rattle.lean_proto.specs.core_state.States.{Place}
use Rattle.lean_proto.specs.row_words.Words.{swip, swips, is_inner}
use Rattle.lean_proto.proofs.row_words.Stays as words

-- pair i with another word
abbrev pub reword : List Pair → ℕ → ℕ → List Pair
reword [] i w = []
reword (x ∷ xs) zero w = record { key = x.key; word = w } ∷ xs
reword (x ∷ xs) (suc i) w = x ∷ reword xs i w

pub reword_length : (xs : List Pair) (i w : ℕ) → length (reword xs i w) ≡ length xs
reword_length [] i w = refl
reword_length (x ∷ xs) zero w = refl
reword_length (x ∷ xs) (suc i) w = ap suc (reword_length xs i w)

set_flat : (xs : List Pair) (i w : ℕ) (rest : List ℕ) → i < length xs → set (flat xs ++ rest) (2 * i + 1) w ≡ flat (reword xs i w) ++ rest
set_flat [] i w rest lt = absurd (omega arith)
set_flat (x ∷ xs) zero w rest lt = refl
set_flat (x ∷ xs) (suc i) w rest lt =
    let e : 2 * suc i + 1 ≡ suc (suc (2 * i + 1)) = omega arith in
    ap (λ j. set (x.key ∷ x.word ∷ (flat xs ++ rest)) j w) e ∙ ap (λ ys. x.key ∷ x.word ∷ ys) (set_flat xs i w rest (omega arith))

set_pairs : (xs : List Pair) (i w : ℕ) → i < length xs → set (pair_words xs) (2 * i + 1) w ≡ pair_words (reword xs i w)
set_pairs xs i w lt = set_flat xs i w (replicate (120 - 2 * length xs) 0) lt ∙ ap (λ n. flat (reword xs i w) ++ replicate (120 - 2 * n) 0) (sym (reword_length xs i w))

-- a page of whose node one pair has another word
pub set_words : (n : stored.Page) (i w : ℕ) → i < length n.node.pairs → set (words_of n) (7 + 2 * i) w ≡ words_of (stored.with_pairs n (reword n.node.pairs i w))
set_words n i w lt =
    let e : 7 + 2 * i ≡ suc (suc (suc (suc (suc (suc (2 * i + 1)))))) = omega arith in
    let m = reword_length n.node.pairs i w in
    ap (λ j. set (words_of n) j w) e
    ∙ (ap (λ ys. n.number ∷ n.gsn ∷ n.generation ∷ Rattle.lean_proto.specs.btree_node.Words.packed (length n.node.pairs) n.node.level n.last_log (Rattle.lean_proto.specs.btree_node.Words.kind_of n.node.live) ∷ n.node.low ∷ n.node.high ∷ ys) (set_pairs n.node.pairs i w lt)
    ∙ ap (λ q. n.number ∷ n.gsn ∷ n.generation ∷ Rattle.lean_proto.specs.btree_node.Words.packed q n.node.level n.last_log (Rattle.lean_proto.specs.btree_node.Words.kind_of n.node.live) ∷ n.node.low ∷ n.node.high ∷ pair_words (reword n.node.pairs i w)) (sym m))

-- ## Swips

-- a page that no pair names moves
swips_none : (place : ℕ → Place) (p : ℕ) (x : Place) (xs : List Pair) → ((j : ℕ) → j < length xs → word_at j xs ≡ p → ⊥) → swips (upd place p x) xs ≡ swips place xs
swips_none place p x [] none = refl
swips_none place p x (y ∷ ys) none =
    let head : upd place p x y.word ≡ place y.word = words.cases (p == y.word) (λ t. absurd (none 0 (omega arith) (sym (Rattle.std.proofs.lemmas.Bool.eqb-true p y.word t)))) (λ n. words.kept place p x y.word n) in
    let rest = swips_none place p x ys (λ j lt e. none (suc j) (omega arith) e) in
    (λ k. record { key = y.key; word = swip (head k) y.word } ∷ rest k)

-- a page moves that one pair names
pub swips_moved : (place : ℕ → Place) (p : ℕ) (x : Place) (xs : List Pair) (i : ℕ) → i < length xs → word_at i xs ≡ p → ((j : ℕ) → j < length xs → word_at j xs ≡ p → j ≡ i) → swips (upd place p x) xs ≡ reword (swips place xs) i (swip x p)
swips_moved place p x [] i lt named once = absurd (omega arith)
swips_moved place p x (y ∷ ys) zero lt named once =
    let head : upd place p x y.word ≡ x = words.here place p x y.word (eq-eqb p y.word (sym named)) in
    let rest = swips_none place p x ys (λ j l e. let a = once (suc j) (omega arith) e in omega arith) in
    (λ k. record { key = y.key; word = swip (head k) (named k) } ∷ rest k)
swips_moved place p x (y ∷ ys) (suc i) lt named once =
    let head : upd place p x y.word ≡ place y.word = words.cases (p == y.word) (λ t. let a = once 0 (omega arith) (sym (Rattle.std.proofs.lemmas.Bool.eqb-true p y.word t)) in absurd (omega arith)) (λ n. words.kept place p x y.word n) in
    let rest = swips_moved place p x ys i (omega arith) named (λ j l e. let a = once (suc j) (omega arith) e in omega arith) in
    (λ k. record { key = y.key; word = swip (head k) y.word } ∷ rest k)

-- ## In a tree

-- what pair j names
pub record Named (xs : List Pair) (high j : ℕ) : Type 0 where
  pub span : Span
  pub has : Has span (spans xs high)
  pub child : span.child ≡ word_at j xs
  pub low : span.low ≡ key_at j xs

pub named_at : (xs : List Pair) (high j : ℕ) → j < length xs → Named xs high j
named_at [] high j lt = absurd (omega arith)
named_at (x ∷ xs) high zero lt = record { span = record { child = x.word; low = x.key; high = first_key xs high }; has = inl refl; child = refl; low = refl }
named_at (x ∷ xs) high (suc j) lt = let n = named_at xs high j (omega arith) in record { span = n.span; has = inr n.has; child = n.child; low = n.low }

rising_at : (a : ℕ) (xs : List Pair) (high j : ℕ) → Rising a xs high → j < length xs → a ≤ key_at j xs
rising_at a [] high j r lt = absurd (omega arith)
rising_at a (x ∷ xs) high zero r lt = r.0
rising_at a (x ∷ xs) high (suc j) r lt = let b = rising_at (suc x.key) xs high j r.1 (omega arith) in let c = r.0 in omega arith

one_key : (a : ℕ) (xs : List Pair) (high i j : ℕ) → Rising a xs high → i < length xs → j < length xs → key_at i xs ≡ key_at j xs → i ≡ j
one_key a [] high i j r li lj e = absurd (omega arith)
one_key a (x ∷ xs) high zero zero r li lj e = refl
one_key a (x ∷ xs) high zero (suc j) r li lj e = let b = rising_at (suc x.key) xs high j r.1 (omega arith) in absurd (omega arith)
one_key a (x ∷ xs) high (suc i) zero r li lj e = let b = rising_at (suc x.key) xs high i r.1 (omega arith) in absurd (omega arith)
one_key a (x ∷ xs) high (suc i) (suc j) r li lj e = ap suc (one_key (suc x.key) xs high i j r.1 (omega arith) (omega arith) e)

pub is_inner_to : (v : Node) → is_inner v ≡ true → (v.live ≡ true) × (0 < v.level)
is_inner_to v h = let a = and_parts v.live (ltb 0 v.level) h in (a.0, ltb-true 0 v.level a.1)

module _ (f : Format) (node : ℕ → Node) (t : IsTree f node) (q : ℕ) (lt : q < f.pages) (inner : is_inner (node q) ≡ true) where
  abbrev xs : List Pair
  xs = (node q).pairs

  pub names_pair : (j : ℕ) (l : j < length xs) → Names (node q) (named_at xs (node q).high j l).span
  names_pair j l = record { live = (is_inner_to (node q) inner).0; inner = (is_inner_to (node q) inner).1; has = (named_at xs (node q).high j l).has }

  -- a child is named by one pair
  pub once : (i j : ℕ) → i < length xs → j < length xs → word_at j xs ≡ word_at i xs → j ≡ i
  once i j li lj e =
      let a = named_at xs (node q).high i li in
      let b = named_at xs (node q).high j lj in
      let same = (only f node t q q b.span a.span lt lt (names_pair j lj) (names_pair i li) (b.child ∙ (e ∙ sym a.child))).1 in
      one_key (node q).low xs (node q).high j i ((t.formed q lt).node (is_inner_to (node q) inner).0).rising lj li (sym b.low ∙ (ap (λ (s : Span). s.low) same ∙ a.low))

-- a node does not name itself
pub not_self : (f : Format) (node : ℕ → Node) → IsTree f node → (p : ℕ) (s : Span) → p < f.pages → Names (node p) s → s.child ≡ p → ⊥
not_self f node t p s lt n e = let c = (t.down p lt s n).level in let d : suc (node p).level ≡ (node p).level = subst (λ j. suc (node j).level ≡ (node p).level) e c in omega arith
