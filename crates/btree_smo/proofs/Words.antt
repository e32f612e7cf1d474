-- Pairs and keys of a record.
use Rattle.std.proofs.Common.{◌≡◌, ◌<◌, ◌≤◌, ◌+◌, ◌-◌, ◌*◌, ℕ, zero, suc, List, [], ◌∷◌, ◌++◌, length, map, set, take, drop, replicate, refl, sym, ap, subst, ◌∙◌, arith}
use Rattle.std.specs.Prelude.{slice_index}
use Rattle.std.specs.List.{All}
use Rattle.std.proofs.lemmas.List.{take_more_set, map-append}
use Rattle.std.proofs.lemmas.List.Elements.{All-push}
use Rattle.page_model.specs.Pairs as model
use Rattle.disk_image.specs.btree_node.Words.{pairs_in}
use Rattle.disk_image.specs.log_record.Model.{model_pair}
use Rattle.disk_image.specs.log_record.Spelling.{PairFits, no_pair}
use Rattle.disk_image.specs.log_record.declared.record.Pair.{Pair}

pairs_suc : (n : ℕ) (ws : List ℕ) → pairs_in (suc n) ws ≡ pairs_in n ws ++ record { key = slice_index ws (2 * n); word = slice_index ws (2 * n + 1) } ∷ []
pairs_suc zero ws = (λ i. record { key = slice_index ws 0; word = slice_index ws 1 } ∷ [])
pairs_suc (suc n) ws =
    let e = pairs_suc n (drop 2 ws) in
    let k : 2 * n + 2 ≡ 2 * suc n = omega arith in
    let j : 2 * n + 1 + 2 ≡ 2 * suc n + 1 = omega arith in
    let a : slice_index (drop 2 ws) (2 * n) ≡ slice_index ws (2 * suc n) = dropped ws (2 * n) ∙ ap (slice_index ws) k in
    let b : slice_index (drop 2 ws) (2 * n + 1) ≡ slice_index ws (2 * suc n + 1) = dropped ws (2 * n + 1) ∙ ap (slice_index ws) j in
    ap (λ (ps : List model.Pair). record { key = slice_index ws 0; word = slice_index ws 1 } ∷ ps) (e ∙ (λ i. pairs_in n (drop 2 ws) ++ record { key = a i; word = b i } ∷ []))
  where
    dropped : (xs : List ℕ) (i : ℕ) → slice_index (drop 2 xs) i ≡ slice_index xs (i + 2)
    dropped [] i = refl
    dropped (x ∷ []) i = let e : suc (suc i) ≡ i + 2 = omega arith in ap (slice_index (x ∷ [])) e
    dropped (x ∷ y ∷ xs) i = let e : suc (suc i) ≡ i + 2 = omega arith in ap (slice_index (x ∷ y ∷ xs)) e

pairs_next : (n : ℕ) (ws : List ℕ) → pairs_in (n + 1) ws ≡ pairs_in n ws ++ record { key = slice_index ws (2 * n); word = slice_index ws (2 * n + 1) } ∷ []
pairs_next n ws = let e : n + 1 ≡ suc n = omega arith in ap (λ k. pairs_in k ws) e ∙ pairs_suc n ws

-- one more pair is set
pub first_more : (ws : List ℕ) (ps : List Pair) (n : ℕ) → n < length ps → map model_pair (take n ps) ≡ pairs_in n ws
    → map model_pair (take (n + 1) (set ps n (record { key = slice_index ws (2 * n); word = slice_index ws (2 * n + 1) }))) ≡ pairs_in (n + 1) ws
first_more ws ps n lt e =
    let p : Pair = record { key = slice_index ws (2 * n); word = slice_index ws (2 * n + 1) } in
    ap (map model_pair) (take_more_set ps n p lt) ∙ (map-append model_pair (take n ps) (p ∷ []) ∙ (ap (λ (qs : List model.Pair). qs ++ model_pair p ∷ []) e ∙ sym (pairs_next n ws)))

pub fits_more : (ps : List Pair) (n : ℕ) (p : Pair) → n < length ps → All PairFits (take n ps) → PairFits p → All PairFits (take (n + 1) (set ps n p))
fits_more ps n p lt f one = subst (All PairFits) (sym (take_more_set ps n p lt)) (All-push PairFits (take n ps) p f one)

pub behind : (ps : List Pair) (n count : ℕ) (p : Pair) → n < count → drop count (set ps n p) ≡ drop count ps
behind [] n count p lt = refl
behind (x ∷ xs) n zero p lt = absurd (omega arith)
behind (x ∷ xs) zero (suc count) p lt = refl
behind (x ∷ xs) (suc n) (suc count) p lt = behind xs n count p (omega arith)

pub none_behind : (count : ℕ) → count ≤ 60 → drop count (replicate {A = Pair} 60 no_pair) ≡ replicate (60 - count) no_pair
none_behind count le = go 60 count le
  where
    go : (n a : ℕ) → a ≤ n → drop a (replicate {A = Pair} n no_pair) ≡ replicate (n - a) no_pair
    go n zero l = let e : n - 0 ≡ n = omega arith in ap (λ k. replicate {A = Pair} k no_pair) (sym e)
    go zero (suc a) l = absurd (omega arith)
    go (suc n) (suc a) l = let e : suc n - suc a ≡ n - a = omega arith in go n a (omega arith) ∙ ap (λ k. replicate {A = Pair} k no_pair) (sym e)

-- ## Keys

pub key_behind : (ks : List ℕ) (n count k : ℕ) → n < count → drop count (set ks n k) ≡ drop count ks
key_behind [] n count k lt = refl
key_behind (x ∷ xs) n zero k lt = absurd (omega arith)
key_behind (x ∷ xs) zero (suc count) k lt = refl
key_behind (x ∷ xs) (suc n) (suc count) k lt = key_behind xs n count k (omega arith)

pub none_keys : (count : ℕ) → count ≤ 60 → drop count (replicate {A = ℕ} 60 0) ≡ replicate (60 - count) 0
none_keys count le = go 60 count le
  where
    go : (n a : ℕ) → a ≤ n → drop a (replicate {A = ℕ} n 0) ≡ replicate (n - a) 0
    go n zero l = let e : n - 0 ≡ n = omega arith in ap (λ k. replicate {A = ℕ} k 0) (sym e)
    go zero (suc a) l = absurd (omega arith)
    go (suc n) (suc a) l = let e : suc n - suc a ≡ n - a = omega arith in go n a (omega arith) ∙ ap (λ k. replicate {A = ℕ} k 0) (sym e)
