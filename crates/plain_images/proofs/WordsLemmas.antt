-- The list of all words has the word of each key, and undo keeps it so.
use Rattle.std.proofs.Common.{◌≡◌, ◌<◌, ◌≤◌, ℕ, zero, suc, Bool, true, false, cond, ◌&&◌, not, ltb, ◌==◌, List, [], ◌∷◌, Option, Some, None, refl, sym, ◌∙◌, ap, subst, inl, inr, arith, true≢false}
use Rattle.std.proofs.lemmas.Bool.{cases_eq, eq-eqb, ne_eqb, eqb-true, eqb-false, le-ltb, cond-true, cond-false}
use Rattle.page_model.specs.Pairs.{Pair, find, put, keep}
use Rattle.page_model.specs.Nodes.{Format, Node, holds}
use Rattle.page_model.specs.Tree.{entry, value_of, word_or}
use Rattle.page_model.proofs.Pairs.{placed, put_prefix, put_here, put_back, find_put_same, find_put_other, find_keep_on, find_keep_off}
use Rattle.image_model.specs.Entries.{Entry}
use Rattle.plain_images.specs.Undo.{word_undone}
use Rattle.plain_images.specs.Words.{IsRising, leaf_onto, words_in, undo_words, values_in}

-- ## The words of leaves

abbrev or_else : Option ℕ → Option ℕ → Option ℕ
or_else (Some w) o = Some w
or_else None o = o

or_none : (o : Option ℕ) → or_else o None ≡ o
or_none (Some w) = refl
or_none None = refl

pull : (k : ℕ) (b : Bool) (xs ys : List Pair) → find k (cond b xs ys) ≡ cond b (find k xs) (find k ys)
pull k true xs ys = refl
pull k false xs ys = refl

both : (b : Bool) (o : Option ℕ) → o ≡ cond b o o
both true o = refl
both false o = refl

step : (c h g : Bool) (w : ℕ) (p r a b : Option ℕ) → (c ≡ true → h ≡ g) → (c ≡ true → p ≡ Some w) → (c ≡ false → p ≡ r) → r ≡ cond g (or_else a b) b →
    cond h p r ≡ cond g (or_else (cond c (Some w) a) b) b
step true true true w p r a b same on off ih = on refl
step true true false w p r a b same on off ih = absurd (true≢false (same refl))
step true false true w p r a b same on off ih = absurd (true≢false (sym (same refl)))
step true false false w p r a b same on off ih = ih
step false true g w p r a b same on off ih = off refl ∙ ih
step false false g w p r a b same on off ih = ih

find_leaf : (v : Node) (xs ws : List Pair) (k : ℕ) → find k (leaf_onto v xs ws) ≡ cond (holds v k) (or_else (find k xs) (find k ws)) (find k ws)
find_leaf v [] ws k = both (holds v k) (find k ws)
find_leaf v (x ∷ xs) ws k =
    pull k (holds v x.key) (put x.key x.word (leaf_onto v xs ws)) (leaf_onto v xs ws)
    ∙ step (x.key == k) (holds v x.key) (holds v k) x.word (find k (put x.key x.word (leaf_onto v xs ws))) (find k (leaf_onto v xs ws)) (find k xs) (find k ws)
    (λ c. ap (holds v) (eqb-true x.key k c))
    (λ c. ap (λ j. find j (put x.key x.word (leaf_onto v xs ws))) (sym (eqb-true x.key k c)) ∙ find_put_same x.key x.word (leaf_onto v xs ws))
    (λ c. find_put_other x.key x.word k (leaf_onto v xs ws) (eqb-false x.key k c))
    (find_leaf v xs ws k)

pub words_entry : (n : ℕ) (node : ℕ → Node) (k : ℕ) → find k (words_in n node) ≡ entry n node k
words_entry zero node k = refl
words_entry (suc p) node k = find_leaf (node p) (node p).pairs (keep q (words_in p node)) k ∙ go (holds (node p) k) refl (words_entry p node k)
  where
    q : ℕ → Bool
    q j = not (holds (node p) j)

    go : (g : Bool) → holds (node p) k ≡ g → find k (words_in p node) ≡ entry p node k →
        cond g (or_else (find k (node p).pairs) (find k (keep q (words_in p node)))) (find k (keep q (words_in p node))) ≡ cond g (find k (node p).pairs) (entry p node k)
    go true e ih = ap (or_else (find k (node p).pairs)) (find_keep_off q k (words_in p node) (ap not e)) ∙ or_none (find k (node p).pairs)
    go false e ih = find_keep_on q k (words_in p node) (ap not e) ∙ ih

-- ## Undo

pub find_undone : (lost : Entry → Bool) (z : List Entry) (ws : List Pair) (k d : ℕ) → word_or d (find k (undo_words lost z ws)) ≡ word_undone lost z k (word_or d (find k ws))
find_undone lost [] ws k d = refl
find_undone lost (r ∷ z) ws k d = find_undone lost z (cond (lost r) (put r.key r.before ws) ws) k d ∙ ap (word_undone lost z k) (go (lost r))
  where
    go : (b : Bool) → word_or d (find k (cond b (put r.key r.before ws) ws)) ≡ cond (b && (k == r.key)) r.before (word_or d (find k ws))
    go false = refl
    go true = elim (cases_eq k r.key) [
      | inl e ↦ ap (λ j. word_or d (find j (put r.key r.before ws))) e ∙ ap (word_or d) (find_put_same r.key r.before ws) ∙ sym (cond-true (k == r.key) r.before (word_or d (find k ws)) (eq-eqb k r.key e))
      | inr n ↦ ap (word_or d) (find_put_other r.key r.before k ws (λ e. n (sym e))) ∙ sym (cond-false (k == r.key) r.before (word_or d (find k ws)) (ne_eqb k r.key n))
    ]

-- ## Keys rise

loosened : (low from : ℕ) (xs : List Pair) → low ≤ from → IsRising from xs → IsRising low xs
loosened low from [] l r = tt
loosened low from (x ∷ xs) l r = let a = r.0 in (omega arith, r.1)

rising_put : (low k w : ℕ) (xs : List Pair) → low ≤ k → IsRising low xs → IsRising low (put k w xs)
rising_put low k w [] l r = (l, tt)
rising_put low k w (x ∷ xs) l r = elim (placed k x) [
  | inl q ↦ subst (IsRising low) (sym (put_prefix k w x xs q)) (l, (omega arith, r.1))
  | inr (inl e) ↦ subst (IsRising low) (sym (put_here k w x xs e)) (l, subst (λ (j : ℕ). IsRising (suc j) xs) e r.1)
  | inr (inr q) ↦ subst (IsRising low) (sym (put_back k w x xs q)) (r.0, rising_put (suc x.key) k w xs (omega arith) r.1)
]

rising_keep : (p : ℕ → Bool) (low : ℕ) (xs : List Pair) → IsRising low xs → IsRising low (keep p xs)
rising_keep p low [] r = tt
rising_keep p low (x ∷ xs) r = go (p x.key) (rising_keep p (suc x.key) xs r.1) r.0
  where
    go : (b : Bool) → IsRising (suc x.key) (keep p xs) → low ≤ x.key → IsRising low (cond b (x ∷ keep p xs) (keep p xs))
    go true ih l = (l, ih)
    go false ih l = loosened low (suc x.key) (keep p xs) (omega arith) ih

rising_values : (f : Format) (low : ℕ) (xs : List Pair) → IsRising low xs → IsRising low (values_in f xs)
rising_values f low [] r = tt
rising_values f low (x ∷ xs) r = go (ltb x.word f.dead) (rising_values f (suc x.key) xs r.1) r.0
  where
    go : (b : Bool) → IsRising (suc x.key) (values_in f xs) → low ≤ x.key → IsRising low (cond b (x ∷ values_in f xs) (values_in f xs))
    go true ih l = (l, ih)
    go false ih l = loosened low (suc x.key) (values_in f xs) (omega arith) ih

rising_if : (b : Bool) (k w : ℕ) (xs : List Pair) → IsRising 0 xs → IsRising 0 (cond b (put k w xs) xs)
rising_if true k w xs r = rising_put 0 k w xs (omega arith) r
rising_if false k w xs r = r

rising_leaf : (v : Node) (xs ws : List Pair) → IsRising 0 ws → IsRising 0 (leaf_onto v xs ws)
rising_leaf v [] ws r = r
rising_leaf v (x ∷ xs) ws r = rising_if (holds v x.key) x.key x.word (leaf_onto v xs ws) (rising_leaf v xs ws r)

rising_words : (n : ℕ) (node : ℕ → Node) → IsRising 0 (words_in n node)
rising_words zero node = tt
rising_words (suc p) node = rising_leaf (node p) (node p).pairs (keep (λ k. not (holds (node p) k)) (words_in p node)) (rising_keep (λ k. not (holds (node p) k)) 0 (words_in p node) (rising_words p node))

rising_undone : (lost : Entry → Bool) (z : List Entry) (ws : List Pair) → IsRising 0 ws → IsRising 0 (undo_words lost z ws)
rising_undone lost [] ws r = r
rising_undone lost (e ∷ z) ws r = rising_undone lost z (cond (lost e) (put e.key e.before ws) ws) (rising_if (lost e) e.key e.before ws r)

pub rising_all : (f : Format) (lost : Entry → Bool) (z : List Entry) (n : ℕ) (node : ℕ → Node) → IsRising 0 (values_in f (undo_words lost z (words_in n node)))
rising_all f lost z n node = rising_values f 0 (undo_words lost z (words_in n node)) (rising_undone lost z (words_in n node) (rising_words n node))

-- ## Values

find_below : (low k : ℕ) (xs : List Pair) → k < low → IsRising low xs → find k xs ≡ None
find_below low k [] l r = refl
find_below low k (x ∷ xs) l r = let a = r.0 in
    cond-false (x.key == k) (Some x.word) (find k xs) (ne_eqb x.key k (λ e. omega arith)) ∙ find_below (suc x.key) k xs (omega arith) r.1

abbrev said : Format → Option ℕ → Option ℕ
said f o = value_of f (Some (word_or f.dead o))

dead_none : (f : Format) → said f None ≡ None
dead_none f = cond-false (ltb f.dead f.dead) (Some f.dead) None (le-ltb f.dead f.dead (omega arith))

find_values : (f : Format) (low : ℕ) (xs : List Pair) (k : ℕ) → IsRising low xs → find k (values_in f xs) ≡ said f (find k xs)
find_values f low [] k r = sym (dead_none f)
find_values f low (x ∷ xs) k r = pull k (ltb x.word f.dead) (x ∷ values_in f xs) (values_in f xs) ∙ go (ltb x.word f.dead) (x.key == k) refl refl (find_values f (suc x.key) xs k r.1)
  where
    gone : (x.key == k) ≡ true → find k xs ≡ None
    gone c = let e = eqb-true x.key k c in find_below (suc x.key) k xs (omega arith) r.1

    go : (b c : Bool) → ltb x.word f.dead ≡ b → (x.key == k) ≡ c → find k (values_in f xs) ≡ said f (find k xs) →
        cond b (cond c (Some x.word) (find k (values_in f xs))) (find k (values_in f xs)) ≡ said f (cond c (Some x.word) (find k xs))
    go true true eb ec ih = sym (cond-true (ltb x.word f.dead) (Some x.word) None eb)
    go false true eb ec ih = ih ∙ ap (said f) (gone ec) ∙ dead_none f ∙ sym (cond-false (ltb x.word f.dead) (Some x.word) None eb)
    go true false eb ec ih = ih
    go false false eb ec ih = ih

pub find_all : (f : Format) (lost : Entry → Bool) (z : List Entry) (n : ℕ) (node : ℕ → Node) (k : ℕ) →
    find k (values_in f (undo_words lost z (words_in n node))) ≡ value_of f (Some (word_undone lost z k (word_or f.dead (entry n node k))))
find_all f lost z n node k =
    find_values f 0 (undo_words lost z (words_in n node)) k (rising_undone lost z (words_in n node) (rising_words n node))
    ∙ ap (λ w. value_of f (Some w)) (find_undone lost z (words_in n node) k f.dead)
    ∙ ap (λ o. value_of f (Some (word_undone lost z k (word_or f.dead o)))) (words_entry n node k)
