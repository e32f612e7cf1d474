-- Pairs by their places, and loops over them.
use Rattle.std.proofs.Common.{◌≡◌, ◌+◌, ◌<◌, ◌≤◌, ◌&&◌, ℕ, zero, suc, Bool, true, false, leb, List, [], ◌∷◌, length, drop, get_or, refl, sym, ap, ◌∙◌, arith, add-one}
use Rattle.page_model.specs.Pairs.{Pair, Rising, first_key, Span, spans}
use Rattle.page_model.specs.Needs.{key_at}
use Rattle.page_model.specs.Nodes.{Format, Node}
use Rattle.page_model.specs.Page.{Page, word_at}
use Rattle.page_model.specs.Check.{all, is_rising, word_ok, is_child}
use Rattle.disk_image.specs.btree_node.Words.{IsOrdered}
use Rattle.std.proofs.lemmas.Bool.{and_from, le-leb}
use Rattle.node_tree.specs.Nodes.{nodes_of}
use Rattle.node_tree.specs.Inside.{stands_below, fence_behind}

-- the pair at a place
abbrev pub pair_at : ℕ → List Pair → Pair
pair_at i ps = record { key = key_at i ps; word = word_at i ps }

drop_suc : (ps : List Pair) (i : ℕ) → i < length ps → drop i ps ≡ pair_at i ps ∷ drop (suc i) ps
drop_suc [] i h = absurd (omega arith)
drop_suc (x ∷ xs) zero h = refl
drop_suc (x ∷ xs) (suc i) h = drop_suc xs i (omega arith)

pub drop_pair : (ps : List Pair) (i : ℕ) → i < length ps → drop i ps ≡ pair_at i ps ∷ drop (i + 1) ps
drop_pair ps i h = drop_suc ps i h ∙ ap (λ k. pair_at i ps ∷ drop k ps) (sym (add-one i))

pub drop_none : (ps : List Pair) (i : ℕ) → length ps ≤ i → drop i ps ≡ []
drop_none [] zero h = refl
drop_none [] (suc i) h = refl
drop_none (x ∷ xs) zero h = absurd (omega arith)
drop_none (x ∷ xs) (suc i) h = drop_none xs i (omega arith)

-- ## The fence behind a pair

fence-suc : (ps : List Pair) (high i : ℕ) → suc i < length ps → key_at (suc i) ps ≡ fence_behind i ps high
fence-suc [] high i h = absurd (omega arith)
fence-suc (x ∷ []) high i h = absurd (omega arith)
fence-suc (x ∷ y ∷ ys) high zero h = refl
fence-suc (x ∷ y ∷ ys) high (suc i) h = fence-suc (y ∷ ys) high i (omega arith)

pub fence-next : (ps : List Pair) (high i : ℕ) → i + 1 < length ps → key_at (i + 1) ps ≡ fence_behind i ps high
fence-next ps high i h = ap (λ k. key_at k ps) (add-one i) ∙ fence-suc ps high i (omega arith)

pub fence-last : (ps : List Pair) (high i : ℕ) → i < length ps → length ps ≤ i + 1 → high ≡ fence_behind i ps high
fence-last [] high i h e = absurd (omega arith)
fence-last (x ∷ []) high zero h e = refl
fence-last (x ∷ []) high (suc i) h e = absurd (omega arith)
fence-last (x ∷ y ∷ ys) high zero h e = absurd (omega arith)
fence-last (x ∷ y ∷ ys) high (suc i) h e = fence-last (y ∷ ys) high i (omega arith) (omega arith)

fence-drop : (ps : List Pair) (high i : ℕ) → i < length ps → first_key (drop (suc i) ps) high ≡ fence_behind i ps high
fence-drop [] high i h = absurd (omega arith)
fence-drop (x ∷ xs) high zero h = refl
fence-drop (x ∷ xs) high (suc i) h = fence-drop xs high i (omega arith)

pub fence-first : (ps : List Pair) (high i : ℕ) → i < length ps → first_key (drop (i + 1) ps) high ≡ fence_behind i ps high
fence-first ps high i h = ap (λ k. first_key (drop k ps) high) (add-one i) ∙ fence-drop ps high i h

-- ## Order

rising_true : (low : ℕ) (ps : List Pair) (high : ℕ) → Rising low ps high → is_rising low ps high ≡ true
rising_true low [] high r = le-leb low high r
rising_true low (x ∷ xs) high r = and_from (leb low x.key) (is_rising (suc x.key) xs high) (le-leb low x.key r.0) (rising_true (suc x.key) xs high r.1)

-- keys of pairs are in order where there are pairs
pub ordered_rising : (low high : ℕ) (ps : List Pair) → 0 < length ps → IsOrdered low ps high → is_rising low ps high ≡ true
ordered_rising low high [] h o = absurd (omega arith)
ordered_rising low high (x ∷ xs) h o = rising_true low (x ∷ xs) high o

-- ## Loops over pairs

module _ (f : Format) (v : Node) (i : ℕ) (h : i < length v.pairs) where
  words-step : all (word_ok f v) (drop i v.pairs) ≡ (word_ok f v (pair_at i v.pairs) && all (word_ok f v) (drop (i + 1) v.pairs))
  words-step = ap (all (word_ok f v)) (drop_pair v.pairs i h)

  pub words_bad : word_ok f v (pair_at i v.pairs) ≡ false → all (word_ok f v) v.pairs ≡ all (word_ok f v) (drop i v.pairs) → false ≡ all (word_ok f v) v.pairs
  words_bad e r = sym (r ∙ (words-step ∙ ap (λ b. b && all (word_ok f v) (drop (i + 1) v.pairs)) e))

  pub words_more : word_ok f v (pair_at i v.pairs) ≡ true → all (word_ok f v) v.pairs ≡ all (word_ok f v) (drop i v.pairs) → all (word_ok f v) v.pairs ≡ all (word_ok f v) (drop (i + 1) v.pairs)
  words_more e r = r ∙ (words-step ∙ ap (λ b. b && all (word_ok f v) (drop (i + 1) v.pairs)) e)

module _ (node : ℕ → Node) (v : Node) (i : ℕ) (h : i < length v.pairs) where
  abbrev children : List Pair → Bool
  children ps = all (λ (s : Span). is_child v (node s.child) s) (spans ps v.high)

  abbrev child : Bool
  child = stands_below (node (word_at i v.pairs)) v.level (key_at i v.pairs) (fence_behind i v.pairs v.high)

  children-step : children (drop i v.pairs) ≡ (child && children (drop (i + 1) v.pairs))
  children-step =
      ap children (drop_pair v.pairs i h)
      ∙ ap (λ k. stands_below (node (word_at i v.pairs)) v.level (key_at i v.pairs) k && children (drop (i + 1) v.pairs)) (fence-first v.pairs v.high i h)

  pub children_bad : child ≡ false → children v.pairs ≡ children (drop i v.pairs) → false ≡ children v.pairs
  children_bad e r = sym (r ∙ (children-step ∙ ap (λ b. b && children (drop (i + 1) v.pairs)) e))

  pub children_more : child ≡ true → children v.pairs ≡ children (drop i v.pairs) → children v.pairs ≡ children (drop (i + 1) v.pairs)
  children_more e r = r ∙ (children-step ∙ ap (λ b. b && children (drop (i + 1) v.pairs)) e)

-- ## Pages by their numbers

pub node_at : (pages : List Page) (i : ℕ) (v : Page) → i < length pages → v ≡ get_or pages i v → nodes_of pages i ≡ v.node
node_at [] i v h e = absurd (omega arith)
node_at (x ∷ xs) zero v h e = ap (λ (p : Page). p.node) (sym e)
node_at (x ∷ xs) (suc i) v h e = node_at xs i v (omega arith) e
