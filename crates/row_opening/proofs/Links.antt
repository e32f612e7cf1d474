-- The words of a page whose pairs name frames.
use Rattle.std.proofs.Common.{◌≡◌, ◌<◌, ◌≤◌, ◌+◌, ◌*◌, ◌-◌, ◌^◌, ltb, true, false, ℕ, zero, suc, inl, inr, List, [], ◌∷◌, ◌++◌, length, get_or, set, take, drop, replicate, refl, sym, ap, subst, ◌∙◌, arith}
use Rattle.std.proofs.lemmas.List.{length-append, length-replicate, take_at, drop_at}
use Rattle.std.proofs.lemmas.Bool.{cases_Bool, cond-true, cond-false}
use borrow.Rule.Slice.PartMut.{put_mid}
use Rattle.page_model.specs.Pairs.{Pair, Has}
use Rattle.page_model.specs.Page.{Page, with_pairs}
use Rattle.rows_trait.specs.btree_node.Words.{flat, packed, kind_of, pair_words, words_of}
use Rattle.rows_trait.proofs.btree_node.FlatLemmas.{length-flat}
use Rattle.row_opening.specs.Inside.{linked, linked_page, turned, ArePlain, page_row}

-- ## Pairs in words

pub plain_long : (n : ℕ) (ws : List ℕ) → ArePlain n ws → 2 * n ≤ length ws
plain_long zero ws h = omega arith
plain_long (suc n) [] h = absurd h
plain_long (suc n) (k ∷ []) h = absurd h
plain_long (suc n) (k ∷ w ∷ ws) h = let ih = plain_long n ws h.1 in omega arith

pub turned_long : (n : ℕ) (ws : List ℕ) → length (turned n ws) ≡ length ws
turned_long zero ws = refl
turned_long (suc n) [] = refl
turned_long (suc n) (k ∷ []) = refl
turned_long (suc n) (k ∷ w ∷ ws) = ap (λ z. suc (suc z)) (turned_long n ws)

-- the next word is a child's number still
pub turned_at : (n i : ℕ) (ws : List ℕ) → ArePlain n ws → i < n → get_or (turned i ws) (2 * i + 1) 0 < 2 ^ 63
turned_at zero i ws h lt = absurd (omega arith)
turned_at (suc n) i [] h lt = absurd h
turned_at (suc n) i (k ∷ []) h lt = absurd h
turned_at (suc n) zero (k ∷ w ∷ ws) h lt = h.0
turned_at (suc n) (suc i) (k ∷ w ∷ ws) h lt =
    let e : 2 * suc i + 1 ≡ suc (suc (2 * i + 1)) = omega arith in
    subst (λ j. get_or (k ∷ (2 ^ 63 + w) ∷ turned i ws) j 0 < 2 ^ 63) (sym e) (turned_at n i ws h.1 (omega arith))

-- and becomes a frame
pub turned_more : (n i : ℕ) (ws : List ℕ) → ArePlain n ws → i < n → set (turned i ws) (2 * i + 1) (2 ^ 63 + get_or (turned i ws) (2 * i + 1) 0) ≡ turned (i + 1) ws
turned_more zero i ws h lt = absurd (omega arith)
turned_more (suc n) i [] h lt = absurd h
turned_more (suc n) i (k ∷ []) h lt = absurd h
turned_more (suc n) zero (k ∷ w ∷ ws) h lt = refl
turned_more (suc n) (suc i) (k ∷ w ∷ ws) h lt =
    let e : 2 * suc i + 1 ≡ suc (suc (2 * i + 1)) = omega arith in
    let f : i + 1 ≡ suc i = omega arith in
    let g : suc i + 1 ≡ suc (suc i) = omega arith in
    let ih : set (turned i ws) (2 * i + 1) (2 ^ 63 + get_or (turned i ws) (2 * i + 1) 0) ≡ turned (suc i) ws = turned_more n i ws h.1 (omega arith) ∙ ap (λ j. turned j ws) f in
    ap (λ j. set (k ∷ (2 ^ 63 + w) ∷ turned i ws) j (2 ^ 63 + get_or (k ∷ (2 ^ 63 + w) ∷ turned i ws) j 0)) e
    ∙ (ap (λ z. k ∷ (2 ^ 63 + w) ∷ z) ih ∙ ap (λ j. turned j (k ∷ w ∷ ws)) (sym g))

-- ## Pairs

pub linked_long : (ps : List Pair) → length (linked ps) ≡ length ps
linked_long [] = refl
linked_long (x ∷ xs) = ap suc (linked_long xs)

turned_flat : (ps : List Pair) (rest : List ℕ) → turned (length ps) (flat ps ++ rest) ≡ flat (linked ps) ++ rest
turned_flat [] rest = refl
turned_flat (x ∷ xs) rest = ap (λ z. x.key ∷ (2 ^ 63 + x.word) ∷ z) (turned_flat xs rest)

turned_pairs : (ps : List Pair) → turned (length ps) (pair_words ps) ≡ pair_words (linked ps)
turned_pairs ps = turned_flat ps (replicate (120 - 2 * length ps) 0) ∙ ap (λ n. flat (linked ps) ++ replicate (120 - 2 * n) 0) (sym (linked_long ps))

pairs_long : (ps : List Pair) → length ps ≤ 60 → length (pair_words ps) ≡ 120
pairs_long ps h = let a = length-append (flat ps) (replicate {A = ℕ} (120 - 2 * length ps) 0) in let b = length-flat ps in let d = length-replicate {A = ℕ} (120 - 2 * length ps) 0 in omega arith

pub plain_pairs : (ps : List Pair) (rest : List ℕ) → ((x : Pair) → Has x ps → x.word < 2 ^ 63) → ArePlain (length ps) (flat ps ++ rest)
plain_pairs [] rest h = tt
plain_pairs (x ∷ xs) rest h = (h x (inl refl), plain_pairs xs rest (λ y i. h y (inr i)))

-- ## A row

abbrev pub none : List ℕ
none = 0 ∷ 0 ∷ []

pub copied : (p : Page) (row ws : List ℕ) → row ≡ replicate 129 0 → ws ≡ words_of p → put_mid 1 126 row ws ≡ 0 ∷ (words_of p ++ none)
copied p row ws zeros is = ap (λ r. put_mid 1 126 r ws) zeros ∙ ap (λ z. 0 ∷ (z ++ none)) is

pub pairs_of_row : (p : Page) (tail row : List ℕ) → length p.node.pairs ≤ 60 → row ≡ 0 ∷ (words_of p ++ tail) → take 120 (drop 7 row) ≡ pair_words p.node.pairs
pairs_of_row p tail row room is = ap (λ r. take 120 (drop 7 r)) is ∙ take_at (pair_words p.node.pairs) tail 120 (pairs_long p.node.pairs room)

pub linked_row : (p : Page) (tail row new : List ℕ) → length p.node.pairs ≤ 60 → row ≡ 0 ∷ (words_of p ++ tail) → new ≡ turned (length p.node.pairs) (take 120 (drop 7 row)) →
    put_mid 7 120 row new ≡ 0 ∷ (words_of (with_pairs p (linked p.node.pairs)) ++ tail)
linked_row p tail row new room is done =
    let ps = p.node.pairs in
    let e : new ≡ pair_words (linked ps) = done ∙ (ap (turned (length ps)) (pairs_of_row p tail row room is) ∙ turned_pairs ps) in
    ap (λ r. put_mid 7 120 r new) is
    ∙ (ap (λ z. 0 ∷ p.number ∷ p.gsn ∷ p.generation ∷ packed (length ps) p.node.level p.last_log (kind_of p.node.live) ∷ p.node.low ∷ p.node.high ∷ (z ++ drop 120 (pair_words ps ++ tail))) e
    ∙ (ap (λ z. 0 ∷ p.number ∷ p.gsn ∷ p.generation ∷ packed (length ps) p.node.level p.last_log (kind_of p.node.live) ∷ p.node.low ∷ p.node.high ∷ (pair_words (linked ps) ++ z)) (drop_at (pair_words ps) tail 120 (pairs_long ps room))
    ∙ ap (λ n. 0 ∷ p.number ∷ p.gsn ∷ p.generation ∷ packed n p.node.level p.last_log (kind_of p.node.live) ∷ p.node.low ∷ p.node.high ∷ (pair_words (linked ps) ++ tail)) (sym (linked_long ps))))

pub words_long : (p : Page) → length p.node.pairs ≤ 60 → length (words_of p) ≡ 126
words_long p h = let a = pairs_long p.node.pairs h in omega arith

pub row_long : (p : Page) → 129 ≤ length (page_row p)
row_long p =
    let ps = p.node.pairs in
    let a = length-append (words_of p) (2 ^ 63 ∷ p.gsn ∷ []) in
    let b = length-append (flat ps) (replicate {A = ℕ} (120 - 2 * length ps) 0) in
    let d = length-flat ps in let e = length-replicate {A = ℕ} (120 - 2 * length ps) 0 in omega arith

set_last : (W : List ℕ) (a b x y : ℕ) (n : ℕ) → length W ≡ n → set (set (W ++ (x ∷ y ∷ [])) n a) (suc n) b ≡ W ++ (a ∷ b ∷ [])
set_last [] a b x y n e = ap (λ j. set (set (x ∷ y ∷ []) j a) (suc j) b) (sym e)
set_last (z ∷ W) a b x y zero e = absurd (omega arith)
set_last (z ∷ W) a b x y (suc n) e = ap (λ l. z ∷ l) (set_last W a b x y n (omega arith))

pub finished : (p : Page) (row : List ℕ) (a b : ℕ) → length p.node.pairs ≤ 60 → row ≡ 0 ∷ (words_of p ++ none) → set (set row 127 a) 128 b ≡ 0 ∷ (words_of p ++ (a ∷ b ∷ []))
finished p row a b room is = ap (λ r. set (set r 127 a) 128 b) is ∙ ap (λ l. 0 ∷ l) (set_last (words_of p) a b 0 0 126 (words_long p room))

-- a leaf stays as it is
pub leaf_page : (p : Page) → ltb 0 p.node.level ≡ false → linked_page p ≡ p
leaf_page p h = cond-false (ltb 0 p.node.level) (with_pairs p (linked p.node.pairs)) p h

pub inner_page : (p : Page) → ltb 0 p.node.level ≡ true → linked_page p ≡ with_pairs p (linked p.node.pairs)
inner_page p h = cond-true (ltb 0 p.node.level) (with_pairs p (linked p.node.pairs)) p h

pub same_count : (p : Page) → length (linked_page p).node.pairs ≡ length p.node.pairs
same_count p = elim (cases_Bool (ltb 0 p.node.level)) [
  | inl t ↦ ap (λ q. length q.node.pairs) (inner_page p t) ∙ linked_long p.node.pairs
  | inr f ↦ ap (λ q. length q.node.pairs) (leaf_page p f)
]
