-- The pairs of some keys go, and the others move together.
use Rattle.std.proofs.Common.{◌≡◌, ℕ, ◌+◌, ◌*◌, ◌<◌, ◌≤◌, ◌==◌, ◌||◌, inl, inr, suc, zero, not, if◌then◌else◌, Bool, true, false, Result, Ok, Err, List, [], ◌∷◌, ◌++◌, length, get_or, set, take, drop, refl, sym, ap, ◌∙◌, arith}
use Rattle.std.specs.List.{list_any}
use Rattle.std.specs.Result.{is_ok, MatchResult}
use Rattle.std.proofs.lemmas.Bool.{cases_lt, cases_eq, cond-true, cond-false, eq-eqb, ne_eqb}
use Rattle.std.proofs.lemmas.List.{get_or-drop, drop-drop, drop-set-lt, take_more_set, append_assoc, length-append, length-set, append-nil}
use Rattle.page_model.specs.Pairs.{Pair, keep, is_in}
use Rattle.btree_node.specs.Words.{flat, pairs_in}
use Rattle.btree_node.specs.Inside.{pair, stays}
use Rattle.btree_node.proofs.FlatLemmas.{flat-append}

-- ## Whether a key is one of some

in-step : (k x : ℕ) (xs : List ℕ) → is_in k (x ∷ xs) ≡ ((x == k) || is_in k xs)
in-step k x xs = elim (cases_eq x k) [
  | inl e ↦ let t = eq-eqb x k e in cond-true (x == k) true (is_in k xs) t ∙ sym (ap (λ b. b || is_in k xs) t)
  | inr ne ↦ let t = ne_eqb x k ne in cond-false (x == k) true (is_in k xs) t ∙ sym (ap (λ b. b || is_in k xs) t)
]

pub any-in : (k : ℕ) (xs : List ℕ) → list_any (λ y. y == k) xs ≡ is_in k xs
any-in k [] = refl
any-in k (x ∷ xs) = ap (λ b. (x == k) || b) (any-in k xs) ∙ sym (in-step k x xs)

in-at : (k : ℕ) (xs : List ℕ) (i : ℕ) → i < length xs → get_or xs i 0 ≡ k → is_in k xs ≡ true
in-at k [] i h e = absurd (omega arith)
in-at k (x ∷ xs) zero h e = cond-true (x == k) true (is_in k xs) (eq-eqb x k e)
in-at k (x ∷ xs) (suc i) h e = elim (cases_eq x k) [
  | inl a ↦ cond-true (x == k) true (is_in k xs) (eq-eqb x k a)
  | inr ne ↦ cond-false (x == k) true (is_in k xs) (ne_eqb x k ne) ∙ in-at k xs i (omega arith) e
]

in-none : (k : ℕ) (xs : List ℕ) → ((i : ℕ) → i < length xs → get_or xs i 0 ≡ k → ⊥) → is_in k xs ≡ false
in-none k [] n = refl
in-none k (x ∷ xs) n = cond-false (x == k) true (is_in k xs) (ne_eqb x k (λ e. n 0 (omega arith) e)) ∙ in-none k xs (λ i h e. n (suc i) (omega arith) e)

pub searched-in : (k : ℕ) (xs : List ℕ) (r : Result ℕ ℕ) → MatchResult r (λ i. (i < length xs) × (get_or xs i 0 ≡ k)) (λ i. (i ≤ length xs) × ((j : ℕ) → j < i → get_or xs j 0 < k) × ((j : ℕ) → i ≤ j → j < length xs → k < get_or xs j 0)) → is_ok r ≡ is_in k xs
searched-in k xs (Ok i) m = sym (in-at k xs i m.0 m.1)
searched-in k xs (Err i) m = sym (in-none k xs (λ j h e. elim (cases_lt j i) [
  | inl lt ↦ let a = m.1 j lt in omega arith
  | inr ge ↦ let a = m.2 j ge h in omega arith
]))

-- ## One pair more

pairs_in-more : (i : ℕ) (ds : List ℕ) → pairs_in (suc i) ds ≡ pairs_in i ds ++ pair (get_or ds (2 * i) 0) (get_or ds (suc (2 * i)) 0) ∷ []
pairs_in-more zero ds = refl
pairs_in-more (suc i) ds =
    let a : get_or (drop 2 ds) (2 * i) 0 ≡ get_or ds (2 * suc i) 0 = get_or-drop 2 ds (2 * i) 0 ∙ ap (λ j. get_or ds j 0) (omega arith) in
    let b : get_or (drop 2 ds) (suc (2 * i)) 0 ≡ get_or ds (suc (2 * suc i)) 0 = get_or-drop 2 ds (suc (2 * i)) 0 ∙ ap (λ j. get_or ds j 0) (omega arith) in
    ap (λ (ps : List Pair). pair (get_or ds 0 0) (get_or ds 1 0) ∷ ps)
    (pairs_in-more i (drop 2 ds) ∙ ap (λ x. pairs_in i (drop 2 ds) ++ pair x (get_or (drop 2 ds) (suc (2 * i)) 0) ∷ []) a ∙ ap (λ y. pairs_in i (drop 2 ds) ++ pair (get_or ds (2 * suc i) 0) y ∷ []) b)

keep-append : (p : ℕ → Bool) (xs ys : List Pair) → keep p (xs ++ ys) ≡ keep p xs ++ keep p ys
keep-append p [] ys = refl
keep-append p (x ∷ xs) ys = go (keep-append p xs ys) (p x.key)
  where
    go : keep p (xs ++ ys) ≡ keep p xs ++ keep p ys → (b : Bool) → (if b then x ∷ keep p (xs ++ ys) else keep p (xs ++ ys)) ≡ (if b then x ∷ keep p xs else keep p xs) ++ keep p ys
    go ih true = ap (λ (zs : List Pair). x ∷ zs) ih
    go ih false = ih

-- the pairs that stay of the first i
abbrev staying : (keys os : List ℕ) → ℕ → List Pair
staying keys os i = keep (stays keys) (pairs_in i (drop 6 os))

-- the first i pairs of words were looked at, and those that stay moved together
pub record Closed (keys os ws : List ℕ) (i kept : ℕ) : Type 0 where
  pub within : kept ≤ i
  pub size : length ws ≡ 126
  pub long : length (keep (stays keys) (pairs_in i (drop 6 os))) ≡ kept
  pub closed : take (6 + 2 * kept) ws ≡ take 6 os ++ flat (keep (stays keys) (pairs_in i (drop 6 os)))
  pub rest : drop (6 + 2 * i) ws ≡ drop (6 + 2 * i) os

pub closed-none : (keys os : List ℕ) → length os ≡ 126 → Closed keys os os 0 0
closed-none keys os l = record { within = omega arith; size = l; long = refl; closed = sym (append-nil (take 6 os)); rest = refl }

rest-read : (ws os : List ℕ) (n j : ℕ) → drop n ws ≡ drop n os → get_or ws (n + j) 0 ≡ get_or os (n + j) 0
rest-read ws os n j e = sym (get_or-drop n ws j 0) ∙ ap (λ (xs : List ℕ). get_or xs j 0) e ∙ get_or-drop n os j 0

rest-more : (ws os : List ℕ) (i : ℕ) → drop (6 + 2 * i) ws ≡ drop (6 + 2 * i) os → drop (6 + 2 * (i + 1)) ws ≡ drop (6 + 2 * (i + 1)) os
rest-more ws os i e =
    let n : 6 + 2 * i + 2 ≡ 6 + 2 * (i + 1) = omega arith in
    sym (ap (λ j. drop j ws) n) ∙ sym (drop-drop 2 (6 + 2 * i) ws) ∙ ap (drop 2) e ∙ drop-drop 2 (6 + 2 * i) os ∙ ap (λ j. drop j os) n

-- what stays of one pair more
staying-more : (keys os ws : List ℕ) (i : ℕ) → drop (6 + 2 * i) ws ≡ drop (6 + 2 * i) os → staying keys os (i + 1) ≡ staying keys os i ++ keep (stays keys) (pair (get_or ws (6 + 2 * i) 0) (get_or ws (7 + 2 * i) 0) ∷ [])
staying-more keys os ws i e =
    let ds = drop 6 os in
    let a : get_or ds (2 * i) 0 ≡ get_or ws (6 + 2 * i) 0 = get_or-drop 6 os (2 * i) 0 ∙ ap (λ j. get_or os j 0) (omega arith) ∙ sym (rest-read ws os (6 + 2 * i) 0 e) ∙ ap (λ j. get_or ws j 0) (omega arith) in
    let b : get_or ds (suc (2 * i)) 0 ≡ get_or ws (7 + 2 * i) 0 = get_or-drop 6 os (suc (2 * i)) 0 ∙ ap (λ j. get_or os j 0) (omega arith) ∙ sym (rest-read ws os (6 + 2 * i) 1 e) ∙ ap (λ j. get_or ws j 0) (omega arith) in
    let n : i + 1 ≡ suc i = omega arith in
    ap (staying keys os) n ∙ ap (keep (stays keys)) (pairs_in-more i ds) ∙ keep-append (stays keys) (pairs_in i ds) _
    ∙ ap (λ x. staying keys os i ++ keep (stays keys) (pair x (get_or ds (suc (2 * i)) 0) ∷ [])) a
    ∙ ap (λ y. staying keys os i ++ keep (stays keys) (pair (get_or ws (6 + 2 * i) 0) y ∷ [])) b

keep-one : (keys : List ℕ) (x : Pair) (b : Bool) → is_in x.key keys ≡ b → keep (stays keys) (x ∷ []) ≡ (if not b then x ∷ [] else [])
keep-one keys x b e = ap (λ q. if not q then x ∷ [] else []) e

pub closed-gone : (keys os ws : List ℕ) (i kept : ℕ) → Closed keys os ws i kept → is_in (get_or ws (6 + 2 * i) 0) keys ≡ true → Closed keys os ws (i + 1) kept
closed-gone keys os ws i kept c e =
    let k = c.within in
    let s : staying keys os (i + 1) ≡ staying keys os i = staying-more keys os ws i c.rest ∙ ap (λ (zs : List Pair). staying keys os i ++ zs) (keep-one keys (pair (get_or ws (6 + 2 * i) 0) (get_or ws (7 + 2 * i) 0)) true e) ∙ append-nil (staying keys os i) in
    record {
      within = omega arith;
      size = c.size;
      long = ap length s ∙ c.long;
      closed = c.closed ∙ ap (λ (zs : List Pair). take 6 os ++ flat zs) (sym s);
      rest = rest-more ws os i c.rest;
    }

pub closed-kept : (keys os ws : List ℕ) (i kept : ℕ) → i < 60 → Closed keys os ws i kept → is_in (get_or ws (6 + 2 * i) 0) keys ≡ false →
    Closed keys os (set (set ws (6 + 2 * kept) (get_or ws (6 + 2 * i) 0)) (7 + 2 * kept) (get_or ws (7 + 2 * i) 0)) (i + 1) (kept + 1)
closed-kept keys os ws i kept lt c e =
    let k = c.within in
    let l = c.size in
    let x = get_or ws (6 + 2 * i) 0 in
    let y = get_or ws (7 + 2 * i) 0 in
    let us = set ws (6 + 2 * kept) x in
    let vs = set us (7 + 2 * kept) y in
    let lu : length us ≡ 126 = length-set ws (6 + 2 * kept) x ∙ c.size in
    let lv : length vs ≡ 126 = length-set us (7 + 2 * kept) y ∙ lu in
    let s : staying keys os (i + 1) ≡ staying keys os i ++ pair x y ∷ [] = staying-more keys os ws i c.rest ∙ ap (λ (zs : List Pair). staying keys os i ++ zs) (keep-one keys (pair x y) false e) in
    let t : take (6 + 2 * (kept + 1)) vs ≡ (take (6 + 2 * kept) ws ++ x ∷ []) ++ y ∷ [] =
    ap (λ j. take j vs) (omega arith) ∙ take_more_set us (7 + 2 * kept) y (omega arith)
    ∙ ap (λ (zs : List ℕ). zs ++ y ∷ []) (ap (λ j. take j us) (omega arith) ∙ take_more_set ws (6 + 2 * kept) x (omega arith)) in
    let d : drop (6 + 2 * (i + 1)) vs ≡ drop (6 + 2 * (i + 1)) ws = drop-set-lt (6 + 2 * (i + 1)) us (7 + 2 * kept) y (omega arith) ∙ drop-set-lt (6 + 2 * (i + 1)) ws (6 + 2 * kept) x (omega arith) in
    let K = staying keys os i in
    let ll : length (staying keys os (i + 1)) ≡ kept + 1 = ap length s ∙ length-append K (pair x y ∷ []) ∙ ap (λ j. j + 1) c.long in
    record {
      within = omega arith;
      size = lv;
      long = ll;
      closed = t ∙ append_assoc (take (6 + 2 * kept) ws) (x ∷ []) (y ∷ []) ∙ ap (λ (zs : List ℕ). zs ++ x ∷ y ∷ []) c.closed ∙ append_assoc (take 6 os) (flat K) (x ∷ y ∷ [])
          ∙ ap (λ (zs : List ℕ). take 6 os ++ zs) (sym (flat-append K (pair x y ∷ []))) ∙ ap (λ (zs : List Pair). take 6 os ++ flat zs) (sym s);
      rest = d ∙ rest-more ws os i c.rest;
    }
