-- Pairs as words, key and word in turn.
use Rattle.std.proofs.Common.{◌≡◌, ℕ, ◌*◌, ◌/◌, ◌%◌, ◌<◌, ◌≤◌, suc, zero, List, [], ◌∷◌, ◌++◌, length, get_or, take, drop, refl, sym, ap, ◌∙◌, arith}
use Rattle.std.proofs.lemmas.List.{append-nil, append_assoc, take_all, take-append-drop}
use Rattle.page_model.specs.Pairs.{Pair}
use Rattle.page_model.specs.Needs.{key_at}
use Rattle.page_model.specs.Page.{word_at}
use Rattle.btree_node.specs.Words.{flat, pairs_in, pairs_of}

pub two_suc : (n : ℕ) → 2 * suc n ≡ suc (suc (2 * n))
two_suc n = omega arith

pub length-flat : (ps : List Pair) → length (flat ps) ≡ 2 * length ps
length-flat [] = refl
length-flat (p ∷ ps) = let e = length-flat ps in omega arith

pub flat-append : (xs ys : List Pair) → flat (xs ++ ys) ≡ flat xs ++ flat ys
flat-append [] ys = refl
flat-append (p ∷ xs) ys = ap (λ (r : List ℕ). p.key ∷ p.word ∷ r) (flat-append xs ys)

-- the key and the word of pair i
pub flat-key : (ps : List Pair) (zs : List ℕ) (i : ℕ) → i < length ps → get_or (flat ps ++ zs) (2 * i) 0 ≡ key_at i ps
flat-key [] zs i h = absurd (omega arith)
flat-key (p ∷ ps) zs zero h = refl
flat-key (p ∷ ps) zs (suc i) h = rw two_suc (flat-key ps zs i (omega arith))

pub flat-word : (ps : List Pair) (zs : List ℕ) (i : ℕ) → i < length ps → get_or (flat ps ++ zs) (suc (2 * i)) 0 ≡ word_at i ps
flat-word [] zs i h = absurd (omega arith)
flat-word (p ∷ ps) zs zero h = refl
flat-word (p ∷ ps) zs (suc i) h = rw two_suc (flat-word ps zs i (omega arith))

-- pairs are read back from their words
pub pairs_in-flat : (ps : List Pair) (zs : List ℕ) → pairs_in (length ps) (flat ps ++ zs) ≡ ps
pairs_in-flat [] zs = refl
pairs_in-flat (p ∷ ps) zs = ap (λ (r : List Pair). p ∷ r) (pairs_in-flat ps zs)

pub flat-pairs_in : (n : ℕ) (ws : List ℕ) → 2 * n ≤ length ws → flat (pairs_in n ws) ≡ take (2 * n) ws
flat-pairs_in zero ws h = refl
flat-pairs_in (suc n) [] h = absurd (omega arith)
flat-pairs_in (suc n) (a ∷ []) h = absurd (omega arith)
flat-pairs_in (suc n) (a ∷ b ∷ ws) h = rw two_suc (ap (λ (us : List ℕ). a ∷ b ∷ us) (flat-pairs_in n ws (omega arith)))

pub length-pairs_in : (n : ℕ) (ws : List ℕ) → length (pairs_in n ws) ≡ n
length-pairs_in zero ws = refl
length-pairs_in (suc n) ws = ap suc (length-pairs_in n (drop 2 ws))

-- a list of an even number of words is one of pairs
pub pairs_of-flat : (ps : List Pair) → pairs_of (flat ps) ≡ ps
pairs_of-flat ps =
    let l = length-flat ps in
    let n : length (flat ps) / 2 ≡ length ps = omega arith in
    ap (λ j. pairs_in j (flat ps)) n ∙ ap (pairs_in (length ps)) (sym (append-nil (flat ps))) ∙ pairs_in-flat ps []

pub words-pairs_of : (ws : List ℕ) (ps : List Pair) → ws ≡ flat ps → pairs_of ws ≡ ps
words-pairs_of ws ps e = ap pairs_of e ∙ pairs_of-flat ps

pub words-whole : (ws : List ℕ) (ps : List Pair) → ws ≡ flat ps → length ws % 2 ≡ 0
words-whole ws ps e = let l = length-flat ps in let k = ap length e in omega arith

pub flat-pairs_of : (ws : List ℕ) → length ws % 2 ≡ 0 → flat (pairs_of ws) ≡ ws
flat-pairs_of ws even = flat-pairs_in (length ws / 2) ws (omega arith) ∙ take_all (2 * (length ws / 2)) ws (omega arith)

pub length-pairs_of : (ws : List ℕ) → length (pairs_of ws) ≡ length ws / 2
length-pairs_of ws = length-pairs_in (length ws / 2) ws

-- the words of pairs, cut at a pair
pub flat-cut : (H : List ℕ) (ps : List Pair) (i : ℕ) (Z : List ℕ) → H ++ (flat ps ++ Z) ≡ (H ++ flat (take i ps)) ++ (flat (drop i ps) ++ Z)
flat-cut H ps i Z =
    let e : flat ps ≡ flat (take i ps) ++ flat (drop i ps) = ap flat (sym (take-append-drop i ps)) ∙ flat-append (take i ps) (drop i ps) in
    ap (λ (xs : List ℕ). H ++ (xs ++ Z)) e ∙ ap (λ (xs : List ℕ). H ++ xs) (append_assoc (flat (take i ps)) (flat (drop i ps)) Z) ∙ sym (append_assoc H (flat (take i ps)) (flat (drop i ps) ++ Z))
