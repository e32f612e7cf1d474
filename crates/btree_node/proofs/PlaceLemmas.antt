-- The places of keys in pairs whose keys rise.
use Rattle.std.proofs.Common.{◌≡◌, ℕ, ◌+◌, ◌-◌, ◌*◌, ◌<◌, ◌≤◌, ◌==◌, inl, inr, suc, zero, ltb, leb, List, [], ◌∷◌, length, set, take, drop, Some, None, refl, sym, ap, ◌∙◌, subst, arith, get_or}
use Rattle.std.proofs.lemmas.Bool.{cases_lt, cases_eq, cond-true, cond-false, lt-ltb, le-ltb, lt-leb, le-leb, eq-eqb, ne_eqb}
use Rattle.std.proofs.lemmas.Bool.Decides.{nat_tests}
use Rattle.std.specs.List.{insert}
use Rattle.page_model.specs.Pairs.{Pair, Rising, find, put, below, onward, route}
use Rattle.page_model.specs.Needs.{key_at}
use Rattle.page_model.specs.Page.{Page, word_at}
use Rattle.page_model.proofs.Pairs.{rising_put, rising_le, rising_below, find_out, put_prefix, put_here, put_back}
use Rattle.btree_node.specs.Words.{IsOrdered, Spells}
use Rattle.btree_node.specs.Inside.{pair, place, IsAt, IsGap}
use Rattle.btree_node.proofs.SpellingLemmas.{spells-key}

-- ## Order

pub ordered-rising : (low : ℕ) (ps : List Pair) (high i : ℕ) → IsOrdered low ps high → i < length ps → Rising low ps high
ordered-rising low [] high i o h = absurd (omega arith)
ordered-rising low (p ∷ ps) high i o h = o

pub rising-ordered : (low : ℕ) (ps : List Pair) (high : ℕ) → Rising low ps high → IsOrdered low ps high
rising-ordered low [] high r = tt
rising-ordered low (p ∷ ps) high r = r

pub rising-from : (low high : ℕ) (ps : List Pair) (i : ℕ) → Rising low ps high → i < length ps → low ≤ key_at i ps
rising-from low high [] i r h = absurd (omega arith)
rising-from low high (p ∷ ps) zero r h = r.0
rising-from low high (p ∷ ps) (suc i) r h = let e = rising-from (suc p.key) high ps i r.1 (omega arith) in let f = r.0 in omega arith

pub ordered-put : (low high k w : ℕ) (ps : List Pair) → low ≤ k → k < high → IsOrdered low ps high → IsOrdered low (put k w ps) high
ordered-put low high k w [] a b o = (a, omega arith)
ordered-put low high k w (p ∷ ps) a b o = rising-ordered low (put k w (p ∷ ps)) high (rising_put low k w (p ∷ ps) high o a b)

rising-set : (low high : ℕ) (ps : List Pair) (i w : ℕ) → Rising low ps high → Rising low (set ps i (pair (key_at i ps) w)) high
rising-set low high [] i w r = r
rising-set low high (p ∷ ps) zero w r = r
rising-set low high (p ∷ ps) (suc i) w r = (r.0, rising-set (suc p.key) high ps i w r.1)

pub ordered-set : (low high : ℕ) (ps : List Pair) (i w : ℕ) → IsOrdered low ps high → IsOrdered low (set ps i (pair (key_at i ps) w)) high
ordered-set low high [] i w o = tt
ordered-set low high (p ∷ ps) i w o = rising-ordered low (set (p ∷ ps) i (pair (key_at i (p ∷ ps)) w)) high (rising-set low high (p ∷ ps) i w o)

-- ## Places

pub place-length : (k : ℕ) (ps : List Pair) → place k ps ≤ length ps
place-length k [] = omega arith
place-length k (p ∷ ps) = grind (arith, nat_tests, place-length k ps)

pub place-above : (k : ℕ) (ps : List Pair) (i : ℕ) → i < length ps → k ≤ key_at i ps → place k ps ≤ i
place-above k [] i h le = absurd (omega arith)
place-above k (p ∷ ps) zero h le = grind (arith, nat_tests)
place-above k (p ∷ ps) (suc i) h le = let r = place-above k ps i (omega arith) le in grind (arith, nat_tests)

rising-below : (low high k : ℕ) (ps : List Pair) (i : ℕ) → Rising low ps high → i < length ps → key_at i ps < k → i < place k ps
rising-below low high k [] i r h lt = absurd (omega arith)
rising-below low high k (p ∷ ps) zero r h lt = grind (arith, nat_tests)
rising-below low high k (p ∷ ps) (suc i) r h lt =
    let e = rising-below (suc p.key) high k ps i r.1 (omega arith) lt in
    let f = rising-from (suc p.key) high ps i r.1 (omega arith) in
    let g : p.key < k = omega arith in
    grind (arith, nat_tests)

pub place-below : (low high k : ℕ) (ps : List Pair) (i : ℕ) → IsOrdered low ps high → i < length ps → key_at i ps < k → i < place k ps
place-below low high k ps i o h lt = rising-below low high k ps i (ordered-rising low ps high i o h) h lt

place-past : (k : ℕ) (p : Pair) (ps : List Pair) → p.key < k → place k (p ∷ ps) ≡ suc (place k ps)
place-past k p ps lt = cond-true (ltb p.key k) (suc (place k ps)) 0 (lt-ltb p.key k lt)

place-here : (k : ℕ) (p : Pair) (ps : List Pair) → k ≤ p.key → place k (p ∷ ps) ≡ 0
place-here k p ps ge = cond-false (ltb p.key k) (suc (place k ps)) 0 (le-ltb p.key k ge)

find-past : (k : ℕ) (p : Pair) (ps : List Pair) → p.key < k → find k (p ∷ ps) ≡ find k ps
find-past k p ps lt = cond-false (p.key == k) (Some p.word) (find k ps) (ne_eqb p.key k (λ e. omega arith))

find-here : (k : ℕ) (p : Pair) (ps : List Pair) → p.key ≡ k → find k (p ∷ ps) ≡ Some p.word
find-here k p ps e = cond-true (p.key == k) (Some p.word) (find k ps) (eq-eqb p.key k e)

-- ## What stands at a place

find-at : (k : ℕ) (ps : List Pair) → place k ps < length ps → key_at (place k ps) ps ≡ k → find k ps ≡ Some (word_at (place k ps) ps)
find-at k [] h e = absurd (omega arith)
find-at k (p ∷ ps) h e = elim (cases_lt p.key k) [
  | inl lt ↦
      let t = place-past k p ps lt in
      let h2 : place k ps < length ps = omega arith in
      let e2 : key_at (place k ps) ps ≡ k = sym (ap (λ j. key_at j (p ∷ ps)) t) ∙ e in
      find-past k p ps lt ∙ find-at k ps h2 e2 ∙ sym (ap (λ j. Some (word_at j (p ∷ ps))) t)
  | inr ge ↦
      let t = place-here k p ps ge in
      let e2 : p.key ≡ k = sym (ap (λ j. key_at j (p ∷ ps)) t) ∙ e in
      find-here k p ps e2 ∙ sym (ap (λ j. Some (word_at j (p ∷ ps))) t)
]

-- the pair at the key's place has another key
pub record NotAt (k : ℕ) (ps : List Pair) : Type 0 where
  pub other : place k ps < length ps → key_at (place k ps) ps ≡ k → ⊥

not_at-tail : (k : ℕ) (p : Pair) (ps : List Pair) → p.key < k → NotAt k (p ∷ ps) → NotAt k ps
not_at-tail k p ps lt n = let t = place-past k p ps lt in record { other = λ h e. n.other (omega arith) (ap (λ j. key_at j (p ∷ ps)) t ∙ e) }

not_at-head : (k : ℕ) (p : Pair) (ps : List Pair) → k ≤ p.key → NotAt k (p ∷ ps) → k < p.key
not_at-head k p ps ge n = let t = place-here k p ps ge in elim (cases_eq p.key k) [
  | inl e ↦ absurd (n.other (omega arith) (ap (λ j. key_at j (p ∷ ps)) t ∙ e))
  | inr ne ↦ grind arith
]

find-none : (low high k : ℕ) (ps : List Pair) → Rising low ps high → NotAt k ps → find k ps ≡ None
find-none low high k [] r n = refl
find-none low high k (p ∷ ps) r n = elim (cases_lt p.key k) [
  | inl lt ↦ find-past k p ps lt ∙ find-none (suc p.key) high k ps r.1 (not_at-tail k p ps lt n)
  | inr ge ↦ let gt = not_at-head k p ps ge n in find_out p.key k (p ∷ ps) high (omega arith, r.1) gt
]

ordered-none : (low high k : ℕ) (ps : List Pair) → IsOrdered low ps high → NotAt k ps → find k ps ≡ None
ordered-none low high k [] o n = refl
ordered-none low high k (p ∷ ps) o n = find-none low high k (p ∷ ps) o n

put-new : (k w : ℕ) (ps : List Pair) → NotAt k ps → put k w ps ≡ insert ps (place k ps) (pair k w)
put-new k w [] n = refl
put-new k w (p ∷ ps) n = elim (cases_lt p.key k) [
  | inl lt ↦ put_back k w p ps lt ∙ ap (λ (r : List Pair). p ∷ r) (put-new k w ps (not_at-tail k p ps lt n)) ∙ sym (ap (λ j. insert (p ∷ ps) j (pair k w)) (place-past k p ps lt))
  | inr ge ↦ put_prefix k w p ps (not_at-head k p ps ge n) ∙ sym (ap (λ j. insert (p ∷ ps) j (pair k w)) (place-here k p ps ge))
]

put-there : (k w : ℕ) (ps : List Pair) → place k ps < length ps → key_at (place k ps) ps ≡ k → put k w ps ≡ set ps (place k ps) (pair k w)
put-there k w [] h e = absurd (omega arith)
put-there k w (p ∷ ps) h e = elim (cases_lt p.key k) [
  | inl lt ↦
      let t = place-past k p ps lt in
      let h2 : place k ps < length ps = omega arith in
      let e2 : key_at (place k ps) ps ≡ k = sym (ap (λ j. key_at j (p ∷ ps)) t) ∙ e in
      put_back k w p ps lt ∙ ap (λ (r : List Pair). p ∷ r) (put-there k w ps h2 e2) ∙ sym (ap (λ j. set (p ∷ ps) j (pair k w)) t)
  | inr ge ↦
      let t = place-here k p ps ge in
      let e2 : p.key ≡ k = sym (ap (λ j. key_at j (p ∷ ps)) t) ∙ e in
      put_here k w p ps e2 ∙ sym (ap (λ j. set (p ∷ ps) j (pair k w)) t)
]

-- ## What a search says

pub at-find : (k : ℕ) (ps : List Pair) (i : ℕ) → IsAt k ps i → Some (word_at i ps) ≡ find k ps
at-find k ps i a =
    let h : place k ps < length ps = let e = a.before in let w = a.within in omega arith in
    sym (find-at k ps h (sym (ap (λ j. key_at j ps) a.before) ∙ a.key) ∙ ap (λ j. Some (word_at j ps)) (sym a.before))

pub at-put : (k w : ℕ) (ps : List Pair) (i : ℕ) → IsAt k ps i → set ps i (pair (key_at i ps) w) ≡ put k w ps
at-put k w ps i a =
    let h : place k ps < length ps = let e = a.before in let w = a.within in omega arith in
    sym (put-there k w ps h (sym (ap (λ j. key_at j ps) a.before) ∙ a.key) ∙ ap (λ j. set ps j (pair k w)) (sym a.before) ∙ ap (λ x. set ps i (pair x w)) (sym a.key))

pub gap-not_at : (k : ℕ) (ps : List Pair) → find k ps ≡ None → NotAt k ps
gap-not_at k ps n = record { other = λ h e. let s = find-at k ps h e in cc }

pub gap-put : (k w : ℕ) (ps : List Pair) (i : ℕ) → IsGap k ps i → insert ps i (pair k w) ≡ put k w ps
gap-put k w ps i a = sym (put-new k w ps (gap-not_at k ps a.none) ∙ ap (λ j. insert ps j (pair k w)) (sym a.before))

-- what a search finds in words
pub node-gap : (ws : List ℕ) (v : Page) (k i : ℕ) → Spells ws v → i ≡ place k v.node.pairs → (i < length v.node.pairs → get_or ws (6 + 2 * i) 0 ≡ k → ⊥) → IsGap k v.node.pairs i
node-gap ws v k i s e differs =
    let ps = v.node.pairs in
    let le = place-length k ps in
    record {
      before = e;
      within = omega arith;
      none = ordered-none v.node.low v.node.high k ps s.fits.ordered (record {
        other = λ h q. differs (omega arith) (let lt : i < length ps = omega arith in spells-key ws v i s lt ∙ ap (λ j. key_at j ps) e ∙ q);
      });
    }

pub node-at : (ws : List ℕ) (v : Page) (k i : ℕ) → Spells ws v → i ≡ place k v.node.pairs → i < length v.node.pairs → get_or ws (6 + 2 * i) 0 ≡ k → IsAt k v.node.pairs i
node-at ws v k i s e h q = record { before = e; within = h; key = sym (spells-key ws v i s h) ∙ q }

-- ## Routes

route-past : (k d : ℕ) (p : Pair) (ps : List Pair) → p.key ≤ k → route (p ∷ ps) k d ≡ route ps k p.word
route-past k d p ps le = cond-true (leb p.key k) (route ps k p.word) d (le-leb p.key k le)

route-here : (k d : ℕ) (p : Pair) (ps : List Pair) → k < p.key → route (p ∷ ps) k d ≡ d
route-here k d p ps lt = cond-false (leb p.key k) (route ps k p.word) d (lt-leb p.key k lt)

route-above : (low high k d : ℕ) (ps : List Pair) → Rising low ps high → k < low → route ps k d ≡ d
route-above low high k d [] r lt = refl
route-above low high k d (p ∷ ps) r lt = let f = r.0 in route-here k d p ps (omega arith)

route-at : (low high k d : ℕ) (ps : List Pair) → Rising low ps high → place k ps < length ps → key_at (place k ps) ps ≡ k → route ps k d ≡ word_at (place k ps) ps
route-at low high k d [] r h e = absurd (omega arith)
route-at low high k d (p ∷ ps) r h e = elim (cases_lt p.key k) [
  | inl lt ↦
      let t = place-past k p ps lt in
      let h2 : place k ps < length ps = omega arith in
      let e2 : key_at (place k ps) ps ≡ k = sym (ap (λ j. key_at j (p ∷ ps)) t) ∙ e in
      route-past k d p ps (omega arith) ∙ route-at (suc p.key) high k p.word ps r.1 h2 e2 ∙ sym (ap (λ j. word_at j (p ∷ ps)) t)
  | inr ge ↦
      let t = place-here k p ps ge in
      let e2 : p.key ≡ k = sym (ap (λ j. key_at j (p ∷ ps)) t) ∙ e in
      route-past k d p ps (omega arith) ∙ route-above (suc p.key) high k p.word ps r.1 (omega arith) ∙ sym (ap (λ j. word_at j (p ∷ ps)) t)
]

-- the word before a place, or d before the first
abbrev word_before : List Pair → ℕ → ℕ → ℕ
word_before ps d zero = d
word_before ps d (suc j) = word_at j ps

word_before-cons : (p : Pair) (ps : List Pair) (n : ℕ) → word_before ps p.word n ≡ word_at n (p ∷ ps)
word_before-cons p ps zero = refl
word_before-cons p ps (suc n) = refl

route-gap : (k d : ℕ) (ps : List Pair) → NotAt k ps → route ps k d ≡ word_before ps d (place k ps)
route-gap k d [] n = refl
route-gap k d (p ∷ ps) n = elim (cases_lt p.key k) [
  | inl lt ↦
      let t = place-past k p ps lt in
      route-past k d p ps (omega arith) ∙ route-gap k p.word ps (not_at-tail k p ps lt n) ∙ word_before-cons p ps (place k ps) ∙ sym (ap (λ j. word_before (p ∷ ps) d j) t)
  | inr ge ↦ route-here k d p ps (not_at-head k p ps ge n) ∙ sym (ap (λ j. word_before (p ∷ ps) d j) (place-here k p ps ge))
]

pub route-found : (low high k i : ℕ) (ps : List Pair) → IsOrdered low ps high → IsAt k ps i → word_at i ps ≡ route ps k 0
route-found low high k i ps o a =
    let e = a.before in
    let w = a.within in
    sym (route-at low high k 0 ps (ordered-rising low ps high i o w) (omega arith) (sym (ap (λ j. key_at j ps) e) ∙ a.key) ∙ ap (λ j. word_at j ps) (sym e))

pub gap-positive : (k : ℕ) (ps : List Pair) (i : ℕ) → IsGap k ps i → 0 < length ps → key_at 0 ps ≤ k → 0 < i
gap-positive k [] i g h l = absurd (omega arith)
gap-positive k (p ∷ ps) i g h l = elim (cases_lt p.key k) [
  | inl lt ↦ let t = place-past k p ps lt in let e = g.before in omega arith
  | inr ge ↦ let x = not_at-head k p ps ge (gap-not_at k (p ∷ ps) g.none) in absurd (omega arith)
]

pub route-between : (k i : ℕ) (ps : List Pair) → IsGap k ps i → 0 < i → word_at (i - 1) ps ≡ route ps k 0
route-between k i ps g pos =
    let j : i ≡ suc (i - 1) = omega arith in
    sym (route-gap k 0 ps (gap-not_at k ps g.none) ∙ ap (word_before ps 0) (sym g.before ∙ j))

-- ## Cuts at a key

none-below : (a sep b : ℕ) (ps : List Pair) → Rising a ps b → sep ≤ a → below sep ps ≡ []
none-below a sep b [] r h = refl
none-below a sep b (p ∷ ps) r h = let f = r.0 in cond-false (ltb p.key sep) (p ∷ below sep ps) (below sep ps) (le-ltb p.key sep (omega arith)) ∙ none-below (suc p.key) sep b ps r.1 (omega arith)

all-onward : (a sep b : ℕ) (ps : List Pair) → Rising a ps b → sep ≤ a → onward sep ps ≡ ps
all-onward a sep b [] r h = refl
all-onward a sep b (p ∷ ps) r h = let f = r.0 in cond-true (leb sep p.key) (p ∷ onward sep ps) (onward sep ps) (le-leb sep p.key (omega arith)) ∙ ap (λ (qs : List Pair). p ∷ qs) (all-onward (suc p.key) sep b ps r.1 (omega arith))

pub take-below : (low high : ℕ) (ps : List Pair) (i : ℕ) → Rising low ps high → i < length ps → take i ps ≡ below (key_at i ps) ps
take-below low high [] i r h = absurd (omega arith)
take-below low high (p ∷ ps) zero r h = sym (none-below p.key p.key high (p ∷ ps) (omega arith, r.1) (omega arith))
take-below low high (p ∷ ps) (suc i) r h =
    let sep = key_at i ps in
    let f = rising-from (suc p.key) high ps i r.1 (omega arith) in
    ap (λ (qs : List Pair). p ∷ qs) (take-below (suc p.key) high ps i r.1 (omega arith)) ∙ sym (cond-true (ltb p.key sep) (p ∷ below sep ps) (below sep ps) (lt-ltb p.key sep (omega arith)))

pub drop-onward : (low high : ℕ) (ps : List Pair) (i : ℕ) → Rising low ps high → i < length ps → drop i ps ≡ onward (key_at i ps) ps
drop-onward low high [] i r h = absurd (omega arith)
drop-onward low high (p ∷ ps) zero r h = sym (all-onward p.key p.key high (p ∷ ps) (omega arith, r.1) (omega arith))
drop-onward low high (p ∷ ps) (suc i) r h =
    let sep = key_at i ps in
    let f = rising-from (suc p.key) high ps i r.1 (omega arith) in
    drop-onward (suc p.key) high ps i r.1 (omega arith) ∙ sym (cond-false (leb sep p.key) (p ∷ onward sep ps) (onward sep ps) (lt-leb sep p.key (omega arith)))

pub key-within : (low high : ℕ) (ps : List Pair) (i : ℕ) → Rising low ps high → i < length ps → (low ≤ key_at i ps) × (key_at i ps ≤ high)
key-within low high [] i r h = absurd (omega arith)
key-within low high (p ∷ ps) zero r h = let e = rising_le (suc p.key) ps high r.1 in (r.0, omega arith)
key-within low high (p ∷ ps) (suc i) r h = let e = key-within (suc p.key) high ps i r.1 (omega arith) in let a = e.0 in let b = r.0 in (omega arith, e.1)

-- what stands before a key's place
rising-place : (low high sep : ℕ) (ps : List Pair) → Rising low ps high → take (place sep ps) ps ≡ below sep ps
rising-place low high sep [] r = refl
rising-place low high sep (p ∷ ps) r = elim (cases_lt p.key sep) [
  | inl lt ↦
      ap (λ j. take j (p ∷ ps)) (place-past sep p ps lt) ∙ ap (λ (qs : List Pair). p ∷ qs) (rising-place (suc p.key) high sep ps r.1)
      ∙ sym (cond-true (ltb p.key sep) (p ∷ below sep ps) (below sep ps) (lt-ltb p.key sep lt))
  | inr ge ↦ ap (λ j. take j (p ∷ ps)) (place-here sep p ps ge) ∙ sym (none-below p.key sep high (p ∷ ps) (omega arith, r.1) ge)
]

pub take-place : (low high sep : ℕ) (ps : List Pair) → IsOrdered low ps high → take (place sep ps) ps ≡ below sep ps
take-place low high sep [] o = refl
take-place low high sep (p ∷ ps) o = rising-place low high sep (p ∷ ps) o

pub below-ordered : (low high sep : ℕ) (ps : List Pair) → IsOrdered low ps high → IsOrdered low (below sep ps) sep
below-ordered low high sep [] o = tt
below-ordered low high sep (p ∷ ps) o = elim (cases_lt p.key sep) [
  | inl lt ↦ let f = o.0 in rising-ordered low (below sep (p ∷ ps)) sep (rising_below low sep high (p ∷ ps) o (omega arith))
  | inr ge ↦ subst (λ (qs : List Pair). IsOrdered low qs sep) (sym (none-below p.key sep high (p ∷ ps) (omega arith, o.1) ge)) tt
]
