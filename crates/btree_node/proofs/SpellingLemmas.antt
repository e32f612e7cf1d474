-- Which words spell a page, and that they spell one page.
use Rattle.std.proofs.Common.{◌≡◌, ℕ, ◌+◌, ◌-◌, ◌*◌, ◌/◌, ◌%◌, ◌<◌, ◌≤◌, ◌⊎◌, ◌==◌, inl, inr, suc, zero, ltb, leb, Bool, true, false, ◌&&◌, List, [], ◌∷◌, ◌++◌, length, get_or, take, drop, replicate, refl, sym, ap, ◌∙◌, subst, arith, length-drop}
use Rattle.std.proofs.lemmas.Bool.Decides.{nat_tests}
use Rattle.std.proofs.lemmas.List.{length-append, length-replicate, drop_more, drop-drop, take-append-drop, drop_at, take_at}
use Rattle.page_model.specs.Pairs.{Pair, Rising}
use Rattle.page_model.specs.Needs.{key_at}
use Rattle.page_model.specs.Page.{Page, word_at}
use Rattle.page_model.proofs.Pairs.{rising_le}
use Rattle.btree_node.specs.Words.{flat, kind_of, packed, pair_words, words_of, IsOrdered, Fits, Spells, pairs_in, page_of, IsPage}
use Rattle.btree_node.specs.Inside.{all_zero, rises}
use Rattle.btree_node.proofs.FlatLemmas.{length-flat, flat-key, flat-word, pairs_in-flat, flat-pairs_in, length-pairs_in}

-- ## One page

pub kind-small : (b : Bool) → kind_of b ≤ 2
kind-small true = omega arith
kind-small false = omega arith

kind-live : (b : Bool) → (kind_of b == 1) ≡ b
kind-live true = refl
kind-live false = refl

kind-back : (k : ℕ) → (k ≡ 1) ⊎ (k ≡ 2) → k ≡ kind_of (k == 1)
kind-back k (inl e) = e ∙ sym (ap (λ j. kind_of (j == 1)) e)
kind-back k (inr e) = e ∙ sym (ap (λ j. kind_of (j == 1)) e)

-- the words of a page spell it
pub page_of-words_of : (v : Page) → Fits v → page_of (words_of v) ≡ v
page_of-words_of v f =
    let n = length v.node.pairs in
    let k = kind_of v.node.live in
    let room = f.room in
    let a = f.level in
    let b = f.last_log in
    let d = kind-small v.node.live in
    let e0 : packed n v.node.level v.last_log k % 256 ≡ n = omega arith in
    let e1 : packed n v.node.level v.last_log k / 256 % 256 ≡ v.node.level = omega arith in
    let e2 : packed n v.node.level v.last_log k / 65536 % 256 ≡ v.last_log = omega arith in
    let e3 : packed n v.node.level v.last_log k / 16777216 ≡ k = omega arith in
    let e4 : pairs_in n (pair_words v.node.pairs) ≡ v.node.pairs = pairs_in-flat v.node.pairs _ in
    rw (e0, e1, e2, e3, e4, kind-live) refl

pub one-page : (ws : List ℕ) (v : Page) → Spells ws v → page_of ws ≡ v
one-page ws v s = ap page_of s.spelled ∙ page_of-words_of v s.fits

pub length-words : (v : Page) → length v.node.pairs ≤ 60 → length (words_of v) ≡ 126
length-words v room =
    let ps = v.node.pairs in
    let Z : List ℕ = replicate (120 - 2 * length ps) 0 in
    let a = length-append (flat ps) Z in
    let b = length-flat ps in
    let c : length Z ≡ 120 - 2 * length ps = length-replicate (120 - 2 * length ps) 0 in
    omega arith

pub is-page : (ws : List ℕ) (v : Page) → Spells ws v → IsPage ws
is-page ws v s = subst (Spells ws) (sym (one-page ws v s)) s

-- what a type's invariant says of its value
pub spells-view : (ws : List ℕ) (v : Page) → page_of ws ≡ v → IsPage ws → Spells ws v
spells-view ws v e s = subst (Spells ws) e s

-- words were written that spell a page: both goals of a closing
pub record Written (ws : List ℕ) (v : Page) : Type 0 where
  pub page : IsPage ws
  pub same : page_of ws ≡ v

pub written : (ws : List ℕ) (v : Page) → ws ≡ words_of v → Fits v → Written ws v
written ws v e f = let s : Spells ws v = record { spelled = e; fits = f } in record { page = is-page ws v s; same = one-page ws v s }

pub spells-count : (ws : List ℕ) (v : Page) → Spells ws v → get_or ws 3 0 % 256 ≡ length v.node.pairs
spells-count ws v s =
    let f = s.fits in
    let room = f.room in
    let a = f.level in
    let b = f.last_log in
    let d = kind-small v.node.live in
    let e : get_or ws 3 0 ≡ packed (length v.node.pairs) v.node.level v.last_log (kind_of v.node.live) = ap (λ (us : List ℕ). get_or us 3 0) s.spelled in
    omega arith

pub spells-key : (ws : List ℕ) (v : Page) (i : ℕ) → Spells ws v → i < length v.node.pairs → get_or ws (6 + 2 * i) 0 ≡ key_at i v.node.pairs
spells-key ws v i s h =
    let six : 6 + 2 * i ≡ suc (suc (suc (suc (suc (suc (2 * i)))))) = omega arith in
    ap (λ (us : List ℕ). get_or us (6 + 2 * i) 0) s.spelled ∙ rw six (flat-key v.node.pairs _ i h)

pub spells-word : (ws : List ℕ) (v : Page) (i : ℕ) → Spells ws v → i < length v.node.pairs → get_or ws (7 + 2 * i) 0 ≡ word_at i v.node.pairs
spells-word ws v i s h =
    let seven : 7 + 2 * i ≡ suc (suc (suc (suc (suc (suc (suc (2 * i))))))) = omega arith in
    ap (λ (us : List ℕ). get_or us (7 + 2 * i) 0) s.spelled ∙ rw seven (flat-word v.node.pairs _ i h)

-- ## The tests of words

rises-step : (n h k : ℕ) (ws : List ℕ) → rises n h (k ∷ ws) ≡ (leb n k && (ltb k h && rises (k + 1) h (drop 1 ws)))
rises-step n h k [] = refl
rises-step n h k (w ∷ ws) = refl

rises-drop : (n h : ℕ) (ws : List ℕ) (i : ℕ) → i < length ws → rises n h (drop i ws) ≡ (leb n (get_or ws i 0) && (ltb (get_or ws i 0) h && rises (get_or ws i 0 + 1) h (drop (i + 2) ws)))
rises-drop n h ws i lt =
    let k = get_or ws i 0 in
    let e : drop 1 (drop (i + 1) ws) ≡ drop (i + 2) ws = drop-drop 1 (i + 1) ws ∙ ap (λ j. drop j ws) (omega arith) in
    ap (rises n h) (drop_more ws i 0 lt) ∙ rises-step n h k (drop (i + 1) ws) ∙ ap (λ (us : List ℕ). leb n k && (ltb k h && rises (k + 1) h us)) e

pub rises-more : (b : Bool) (n h : ℕ) (ws : List ℕ) (i : ℕ) → i < length ws → n ≤ get_or ws i 0 → get_or ws i 0 < h → rises n h (drop i ws) ≡ b → rises (get_or ws i 0 + 1) h (drop (i + 2) ws) ≡ b
rises-more b n h ws i lt le below e = let d = rises-drop n h ws i lt in grind (arith, nat_tests)

zeros : (ws : List ℕ) → all_zero ws ≡ true → ws ≡ replicate (length ws) 0
zeros [] e = refl
zeros (x ∷ ws) e =
    let a : x ≡ 0 = grind (arith, nat_tests) in
    let b : all_zero ws ≡ true = grind (arith, nat_tests) in
    ap (λ y. y ∷ ws) a ∙ ap (λ (us : List ℕ). 0 ∷ us) (zeros ws b)

zeros-are : (n : ℕ) → all_zero (replicate n 0) ≡ true
zeros-are zero = refl
zeros-are (suc n) = zeros-are n

pub rising-true : (low high : ℕ) (ps : List Pair) → Rising low ps high → rises low high (flat ps) ≡ true
rising-true low high [] r = refl
rising-true low high (p ∷ ps) r =
    let a = r.0 in
    let b = rising_le (suc p.key) ps high r.1 in
    let e : rises (p.key + 1) high (flat ps) ≡ true = ap (λ j. rises j high (flat ps)) (omega arith) ∙ rising-true (suc p.key) high ps r.1 in
    grind (arith, nat_tests)

pub rising-from_true : (low high : ℕ) (ps : List Pair) → low ≤ high → rises low high (flat ps) ≡ true → Rising low ps high
rising-from_true low high [] h e = h
rising-from_true low high (p ∷ ps) h e =
    let a : low ≤ p.key = grind (arith, nat_tests) in
    let b : p.key < high = grind (arith, nat_tests) in
    let c : rises (p.key + 1) high (flat ps) ≡ true = grind (arith, nat_tests) in
    (a, rising-from_true (suc p.key) high ps (omega arith) (ap (λ j. rises j high (flat ps)) (omega arith) ∙ c))

pub ordered-true : (low high : ℕ) (ps : List Pair) → IsOrdered low ps high → rises low high (flat ps) ≡ true
ordered-true low high [] r = refl
ordered-true low high (p ∷ ps) r = rising-true low high (p ∷ ps) r

pub ordered-from_true : (low high : ℕ) (ps : List Pair) → rises low high (flat ps) ≡ true → IsOrdered low ps high
ordered-from_true low high [] e = tt
ordered-from_true low high (p ∷ ps) e =
    let a : low ≤ p.key = grind (arith, nat_tests) in
    let b : p.key < high = grind (arith, nat_tests) in
    rising-from_true low high (p ∷ ps) (omega arith) e

-- six words, then the rest
six-words : (ws : List ℕ) → length ws ≡ 126 → ws ≡ get_or ws 0 0 ∷ get_or ws 1 0 ∷ get_or ws 2 0 ∷ get_or ws 3 0 ∷ get_or ws 4 0 ∷ get_or ws 5 0 ∷ drop 6 ws
six-words ws l =
    let at = λ (i : ℕ) (h : i < length ws). drop_more ws i 0 h in
    at 0 (omega arith)
    ∙ ap (λ (r : List ℕ). get_or ws 0 0 ∷ r) (at 1 (omega arith)
    ∙ ap (λ (r : List ℕ). get_or ws 1 0 ∷ r) (at 2 (omega arith)
    ∙ ap (λ (r : List ℕ). get_or ws 2 0 ∷ r) (at 3 (omega arith)
    ∙ ap (λ (r : List ℕ). get_or ws 3 0 ∷ r) (at 4 (omega arith)
    ∙ ap (λ (r : List ℕ). get_or ws 4 0 ∷ r) (at 5 (omega arith))))))

pub page-from : (ws : List ℕ) → length ws ≡ 126 → (get_or ws 3 0 / 16777216 ≡ 1) ⊎ (get_or ws 3 0 / 16777216 ≡ 2) → get_or ws 3 0 % 256 ≤ 60 → get_or ws 3 0 / 256 % 256 ≤ 7 → all_zero (drop (6 + 2 * (get_or ws 3 0 % 256)) ws) ≡ true → rises (get_or ws 4 0) (get_or ws 5 0) (take (2 * (get_or ws 3 0 % 256)) (drop 6 ws)) ≡ true → IsPage ws
page-from ws l k c v z r =
    let w = get_or ws 3 0 in
    let n = w % 256 in
    let ds = drop 6 ws in
    let ps = pairs_in n ds in
    let ld : length ds ≡ 120 = length-drop 6 ws ∙ omega arith in
    let lp : length ps ≡ n = length-pairs_in n ds in
    let fp : flat ps ≡ take (2 * n) ds = flat-pairs_in n ds (omega arith) in
    let dz : drop (2 * n) ds ≡ drop (6 + 2 * n) ws = drop-drop (2 * n) 6 ws in
    let lz : length (drop (6 + 2 * n) ws) ≡ 120 - 2 * length ps = length-drop (6 + 2 * n) ws ∙ omega arith in
    let zz : drop (2 * n) ds ≡ replicate (120 - 2 * length ps) 0 = dz ∙ zeros _ z ∙ ap (λ j. replicate j 0) lz in
    let tail : ds ≡ pair_words ps = sym (take-append-drop (2 * n) ds) ∙ ap (λ (us : List ℕ). us ++ drop (2 * n) ds) (sym fp) ∙ ap (λ (us : List ℕ). flat ps ++ us) zz in
    let kk = kind-back (w / 16777216) k in
    let pw : w ≡ packed (length ps) (w / 256 % 256) (w / 65536 % 256) (kind_of (w / 16777216 == 1)) = omega arith in
    record {
      spelled = six-words ws l
          ∙ ap (λ x. get_or ws 0 0 ∷ get_or ws 1 0 ∷ get_or ws 2 0 ∷ x ∷ get_or ws 4 0 ∷ get_or ws 5 0 ∷ ds) pw
          ∙ ap (λ (us : List ℕ). get_or ws 0 0 ∷ get_or ws 1 0 ∷ get_or ws 2 0 ∷ packed (length ps) (w / 256 % 256) (w / 65536 % 256) (kind_of (w / 16777216 == 1)) ∷ get_or ws 4 0 ∷ get_or ws 5 0 ∷ us) tail;
      fits = record {
        room = omega arith;
        level = v;
        last_log = omega arith;
        ordered = ordered-from_true _ _ ps (ap (rises (get_or ws 4 0) (get_or ws 5 0)) fp ∙ r);
      };
    }

pub page-kind : (ws : List ℕ) → IsPage ws → (get_or ws 3 0 / 16777216 ≡ 1) ⊎ (get_or ws 3 0 / 16777216 ≡ 2)
page-kind ws s =
    let v = page_of ws in
    let room = s.fits.room in
    let a = s.fits.level in
    let b = s.fits.last_log in
    let e : get_or ws 3 0 ≡ packed (length v.node.pairs) v.node.level v.last_log (kind_of v.node.live) = ap (λ (us : List ℕ). get_or us 3 0) s.spelled in
    go v.node.live (let d = kind-small v.node.live in omega arith)
  where
    go : (b : Bool) → get_or ws 3 0 / 16777216 ≡ kind_of b → (get_or ws 3 0 / 16777216 ≡ 1) ⊎ (get_or ws 3 0 / 16777216 ≡ 2)
    go true e = inl e
    go false e = inr e

pub page-room : (ws : List ℕ) → IsPage ws → get_or ws 3 0 % 256 ≤ 60
page-room ws s = let e = spells-count ws (page_of ws) s in let a = s.fits.room in omega arith

pub page-zero : (ws : List ℕ) → IsPage ws → all_zero (drop (6 + 2 * (get_or ws 3 0 % 256)) ws) ≡ true
page-zero ws s =
    let ps = (page_of ws).node.pairs in
    let e : get_or ws 3 0 % 256 ≡ length ps = spells-count ws (page_of ws) s in
    let c = get_or ws 3 0 % 256 in
    let Z = replicate (120 - 2 * length ps) 0 in
    let lf : length (flat ps) ≡ 2 * c = length-flat ps ∙ ap (λ j. 2 * j) (sym e) in
    let d : drop (6 + 2 * c) ws ≡ Z = sym (drop-drop (2 * c) 6 ws) ∙ ap (λ (us : List ℕ). drop (2 * c) (drop 6 us)) s.spelled ∙ drop_at (flat ps) Z (2 * c) lf in
    ap all_zero d ∙ zeros-are (120 - 2 * length ps)

pub page-rises : (ws : List ℕ) → IsPage ws → rises (get_or ws 4 0) (get_or ws 5 0) (take (2 * (get_or ws 3 0 % 256)) (drop 6 ws)) ≡ true
page-rises ws s =
    let v = page_of ws in
    let ps = v.node.pairs in
    let e : get_or ws 3 0 % 256 ≡ length ps = spells-count ws v s in
    let c = get_or ws 3 0 % 256 in
    let Z = replicate (120 - 2 * length ps) 0 in
    let lf : length (flat ps) ≡ 2 * c = length-flat ps ∙ ap (λ j. 2 * j) (sym e) in
    let t : take (2 * c) (drop 6 ws) ≡ flat ps = ap (λ (us : List ℕ). take (2 * c) (drop 6 us)) s.spelled ∙ take_at (flat ps) Z (2 * c) lf in
    ap (rises (get_or ws 4 0) (get_or ws 5 0)) t ∙ ordered-true v.node.low v.node.high ps s.fits.ordered
