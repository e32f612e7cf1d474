-- Readers as bits.
use Rattle.std.proofs.Common.{◌≡◌, ◌≢◌, ◌==◌, ◌||◌, ◌<◌, ◌≤◌, ◌+◌, ◌-◌, ◌*◌, ◌%◌, ◌^◌, not, ℕ, zero, suc, Bool, true, false, cond, List, [], ◌∷◌, bit_and, bit_or, refl, sym, ap, ◌∙◌, ⊎_elim, true≢false, lit<, arith}
use Rattle.std.specs.Int.{bit_at, bit_not, trailing_zeros, w64}
use Rattle.std.proofs.Math.Nat.{pow-suc, pow-le-pow_right}
use Rattle.std.proofs.lemmas.Bool.{eq-eqb, ne_eqb, eqb-true, cases_lt, cases_eq}
use Rattle.std.proofs.lemmas.Nat.{or_lt, and_le_l, mod_below}
use Rattle.std.proofs.lemmas.Nat.Bits.{bit_at-zero, bit_at_set_same, bit_at_set_other, bit_at_clear_same, bit_at_clear_other, bit_at-trailing_zeros, same_from_bits_below, bit_at_above, bit_at_cat_low, bit_at_cat_high}
use Rattle.map_model.specs.Lists.{any}
use Rattle.lean_proto.specs.core_state.Needs.{is_reader}
use Rattle.lean_proto.specs.row_words.Words.{mask}
use Rattle.lean_proto.proofs.row_words.Stays.{cases}
use Rattle.key_locks.specs.Rows.{IsWorker}
use Rattle.key_locks.specs.Inside.{others}

-- ## Bits of a mask

pub mask_below : (n : ℕ) (l : List ℕ) → mask n l < 2 ^ suc n
mask_below zero l = lit< tt
mask_below (suc n) l = go (is_reader (suc n) l) (mask_below n l)
  where
    go : (b : Bool) → mask n l < 2 ^ suc n → cond b (2 ^ suc n + mask n l) (mask n l) < 2 ^ suc (suc n)
    go true ih = let e = pow-suc 2 (suc n) in omega arith
    go false ih = let e = pow-suc 2 (suc n) in omega arith

-- one more bit
one_bit : (b : Bool) (k m i : ℕ) → m < 2 ^ k → bit_at (cond b (2 ^ k + m) m) i ≡ cond (i == k) (cond b 1 0) (bit_at m i)
one_bit true k m i lt = ⊎_elim low high (cases_lt i k)
  where
    whole : 2 ^ k + m ≡ 1 * 2 ^ k + m
    whole = omega arith

    low : i < k → bit_at (2 ^ k + m) i ≡ cond (i == k) 1 (bit_at m i)
    low l = let ne : (i == k) ≡ false = ne_eqb i k (λ e. omega arith) in rw ne (ap (λ z. bit_at z i) whole ∙ bit_at_cat_low 1 k m i l)

    at_top : i ≡ k → bit_at 1 (i - k) ≡ 1
    at_top e = let z : i - k ≡ 0 = omega arith in ap (bit_at 1) z

    high : k ≤ i → bit_at (2 ^ k + m) i ≡ cond (i == k) 1 (bit_at m i)
    high l =
        let up : bit_at (2 ^ k + m) i ≡ bit_at 1 (i - k) = ap (λ z. bit_at z i) whole ∙ bit_at_cat_high 1 k m i lt l in
        ⊎_elim (λ (e : i ≡ k). let t : (i == k) ≡ true = eq-eqb i k e in rw t (up ∙ at_top e))
        (λ (ne : i ≡ k → ⊥). let t : (i == k) ≡ false = ne_eqb i k ne in
        rw t (up ∙ (bit_at_above 1 1 (i - k) (lit< tt) (omega arith) ∙ sym (bit_at_above m k i lt l))))
        (cases_eq i k)
one_bit false k m i lt = ⊎_elim
    (λ (e : i ≡ k). let t : (i == k) ≡ true = eq-eqb i k e in rw t (bit_at_above m k i lt (omega arith)))
    (λ (ne : i ≡ k → ⊥). let t : (i == k) ≡ false = ne_eqb i k ne in rw t refl)
    (cases_eq i k)

-- a worker's bit
pub bit_in : (n : ℕ) (l : List ℕ) (i : ℕ) → 0 < i → i ≤ n → bit_at (mask n l) i ≡ cond (is_reader i l) 1 0
bit_in zero l i some le = absurd (omega arith)
bit_in (suc n) l i some le = one_bit (is_reader (suc n) l) (suc n) (mask n l) i (mask_below n l) ∙ ⊎_elim
    (λ (e : i ≡ suc n). let t : (i == suc n) ≡ true = eq-eqb i (suc n) e in rw t (ap (λ z. cond (is_reader z l) 1 0) (sym e)))
    (λ (ne : i ≡ suc n → ⊥). let t : (i == suc n) ≡ false = ne_eqb i (suc n) ne in rw t (bit_in n l i some (omega arith)))
    (cases_eq i (suc n))

pub bit_first : (n : ℕ) (l : List ℕ) → bit_at (mask n l) 0 ≡ 0
bit_first zero l = refl
bit_first (suc n) l = one_bit (is_reader (suc n) l) (suc n) (mask n l) 0 (mask_below n l) ∙ (let t : (0 == suc n) ≡ false = ne_eqb 0 (suc n) (λ e. omega arith) in rw t (bit_first n l))

bit_past : (n : ℕ) (l : List ℕ) (i : ℕ) → n < i → bit_at (mask n l) i ≡ 0
bit_past n l i lt = bit_at_above (mask n l) (suc n) i (mask_below n l) (omega arith)

-- lists with the reader i, or without it, have the same bit i
same_bit : (n : ℕ) (l k : List ℕ) (i : ℕ) → is_reader i l ≡ is_reader i k → bit_at (mask n l) i ≡ bit_at (mask n k) i
same_bit n l k zero e = bit_first n l ∙ sym (bit_first n k)
same_bit n l k (suc i) e = ⊎_elim
    (λ (lt : n < suc i). bit_past n l (suc i) lt ∙ sym (bit_past n k (suc i) lt))
    (λ (le : suc i ≤ n). bit_in n l (suc i) (omega arith) le ∙ (ap (λ b. cond b 1 0) e ∙ sym (bit_in n k (suc i) (omega arith) le)))
    (cases_lt n (suc i))

small : (n : ℕ) (l : List ℕ) → n < 64 → mask n l < 2 ^ 64
small n l lt = let b = mask_below n l in let p : 2 ^ suc n ≤ 2 ^ 64 = pow-le-pow_right {n = 2} (lit< tt) {i = suc n} {j = 64} (omega arith) in omega arith

-- ## Readers of a list

pub reads_more : (w : ℕ) (l : List ℕ) → is_reader w (cond (is_reader w l) l (w ∷ l)) ≡ true
reads_more w l = cases (is_reader w l) (λ t. rw t t) (λ f. let e : (w == w) ≡ true = eq-eqb w w refl in rw f (rw e refl))

pub reads_else : (w u : ℕ) (l : List ℕ) → u ≢ w → is_reader u (cond (is_reader w l) l (w ∷ l)) ≡ is_reader u l
reads_else w u l ne = cases (is_reader w l) (λ t. rw t refl) (λ f. let e : (w == u) ≡ false = ne_eqb w u (λ z. ne (sym z)) in rw f (rw e refl))

pub others_not : (w : ℕ) (l : List ℕ) → is_reader w (others w l) ≡ false
others_not w [] = refl
others_not w (x ∷ l) = go (x == w) refl (others_not w l)
  where
    go : (b : Bool) → (x == w) ≡ b → is_reader w (others w l) ≡ false → is_reader w (cond (not b) (x ∷ others w l) (others w l)) ≡ false
    go true t ih = ih
    go false t ih = rw t ih

pub others_else : (w u : ℕ) (l : List ℕ) → u ≢ w → is_reader u (others w l) ≡ is_reader u l
others_else w u [] ne = refl
others_else w u (x ∷ l) ne = go (x == w) refl (others_else w u l ne)
  where
    go : (b : Bool) → (x == w) ≡ b → is_reader u (others w l) ≡ is_reader u l → is_reader u (cond (not b) (x ∷ others w l) (others w l)) ≡ ((x == u) || is_reader u l)
    go true t ih = let e : (x == u) ≡ false = ne_eqb x u (λ z. ne (sym z ∙ eqb-true x w t)) in rw e ih
    go false t ih = ap (λ z. (x == u) || z) ih

-- nobody is left, or somebody
pub others_none : (w : ℕ) (l : List ℕ) → others w l ≡ [] → any (λ v. not (v == w)) l ≡ false
others_none w [] e = refl
others_none w (x ∷ l) e = go (x == w) refl e (others_none w l)
  where
    go : (b : Bool) → (x == w) ≡ b → cond (not b) (x ∷ others w l) (others w l) ≡ [] → (others w l ≡ [] → any (λ v. not (v == w)) l ≡ false) → any (λ v. not (v == w)) (x ∷ l) ≡ false
    go true t e ih = rw t (ih e)
    go false t e ih = absurd (cc)

pub others_some : (w u : ℕ) (l : List ℕ) → is_reader u (others w l) ≡ true → any (λ v. not (v == w)) l ≡ true
others_some w u [] e = absurd (true≢false (sym e))
others_some w u (x ∷ l) e = go (x == w) refl e (others_some w u l)
  where
    go : (b : Bool) → (x == w) ≡ b → is_reader u (cond (not b) (x ∷ others w l) (others w l)) ≡ true → (is_reader u (others w l) ≡ true → any (λ v. not (v == w)) l ≡ true) → any (λ v. not (v == w)) (x ∷ l) ≡ true
    go true t e ih = rw t (ih e)
    go false t e ih = rw t refl

-- ## What code makes of a mask

pub mask_with : (n w x : ℕ) (l : List ℕ) → n < 64 → w < 64 → IsWorker n w → x ≡ mask n l → bit_or x (1 * 2 ^ w % 2 ^ 64) ≡ mask n (cond (is_reader w l) l (w ∷ l))
mask_with n w x l lt within is e = same_from_bits_below 64 (bit_or x (1 * 2 ^ w % 2 ^ 64)) (mask n more) (or_lt 64 x (1 * 2 ^ w % 2 ^ 64) (let s = small n l lt in omega arith) bounded) (small n more lt) bits
  where
    more : List ℕ
    more = cond (is_reader w l) l (w ∷ l)

    bounded : 1 * 2 ^ w % 2 ^ 64 < 2 ^ 64
    bounded = mod_below (1 * 2 ^ w) (2 ^ 64) (lit< tt)

    bits : (i : ℕ) → i < 64 → bit_at (bit_or x (1 * 2 ^ w % 2 ^ 64)) i ≡ bit_at (mask n more) i
    bits i below = ⊎_elim
        (λ (t : i ≡ w). ap (bit_at (bit_or x (1 * 2 ^ w % 2 ^ 64))) t ∙ (bit_at_set_same w64 x w within ∙ sym (ap (bit_at (mask n more)) t ∙ (bit_in n more w is.one is.among ∙ ap (λ b. cond b 1 0) (reads_more w l)))))
        (λ (ne : i ≡ w → ⊥). bit_at_set_other w64 x w within i ne ∙ (ap (λ z. bit_at z i) e ∙ same_bit n l more i (sym (reads_else w i l ne))))
        (cases_eq i w)

pub mask_without : (n w x : ℕ) (l : List ℕ) → n < 64 → w < 64 → x ≡ mask n l → bit_and x (bit_not w64 (1 * 2 ^ w % 2 ^ 64)) ≡ mask n (others w l)
mask_without n w x l lt within e = same_from_bits_below 64 (bit_and x (bit_not w64 (1 * 2 ^ w % 2 ^ 64))) (mask n (others w l))
    (let a = and_le_l x (bit_not w64 (1 * 2 ^ w % 2 ^ 64)) in let s = small n l lt in omega arith) (small n (others w l) lt) bits
  where
    gone : bit_at (mask n (others w l)) w ≡ 0
    gone = ⊎_elim
        (λ (z : w ≡ 0). ap (bit_at (mask n (others w l))) z ∙ bit_first n (others w l))
        (λ (ne : w ≡ 0 → ⊥). ⊎_elim (λ (past : n < w). bit_past n (others w l) w past) (λ (le : w ≤ n). bit_in n (others w l) w (omega arith) le ∙ ap (λ b. cond b 1 0) (others_not w l)) (cases_lt n w))
        (cases_eq w 0)

    bits : (i : ℕ) → i < 64 → bit_at (bit_and x (bit_not w64 (1 * 2 ^ w % 2 ^ 64))) i ≡ bit_at (mask n (others w l)) i
    bits i below = ⊎_elim
        (λ (t : i ≡ w). ap (bit_at (bit_and x (bit_not w64 (1 * 2 ^ w % 2 ^ 64)))) t ∙ (bit_at_clear_same w64 x w within ∙ sym (ap (bit_at (mask n (others w l))) t ∙ gone)))
        (λ (ne : i ≡ w → ⊥). bit_at_clear_other w64 x w within i below ne ∙ (ap (λ z. bit_at z i) e ∙ same_bit n l (others w l) i (sym (others_else w i l ne))))
        (cases_eq i w)

-- ## The least reader

set_reader : (n : ℕ) (l : List ℕ) (u : ℕ) → IsWorker n u → is_reader u l ≡ true → bit_at (mask n l) u ≡ 1
set_reader n l u is r = bit_in n l u is.one is.among ∙ ap (λ b. cond b 1 0) r

reader_set : (n : ℕ) (l : List ℕ) (u : ℕ) → bit_at (mask n l) u ≡ 1 → is_reader u l ≡ true
reader_set n l zero e = absurd (let z = bit_first n l in omega arith)
reader_set n l (suc u) e = ⊎_elim
    (λ (past : n < suc u). absurd (let z = bit_past n l (suc u) past in omega arith))
    (λ (le : suc u ≤ n). yes (is_reader (suc u) l) (sym (bit_in n l (suc u) (omega arith) le) ∙ e))
    (cases_lt n (suc u))
  where
    bit : Bool → ℕ
    bit b = cond b 1 0

    yes : (b : Bool) → bit b ≡ 1 → b ≡ true
    yes true z = refl
    yes false z = absurd (omega arith)

pub no_reader : (n : ℕ) (l : List ℕ) → ((u : ℕ) → is_reader u l ≡ true → IsWorker n u) → mask n l ≡ 0 → l ≡ []
no_reader n [] are e = refl
no_reader n (x ∷ l) are e =
    let here : is_reader x (x ∷ l) ≡ true = (let t : (x == x) ≡ true = eq-eqb x x refl in rw t refl) in
    absurd (let one = set_reader n (x ∷ l) x (are x here) here in let none = ap (λ z. bit_at z x) e ∙ bit_at-zero x in omega arith)

pub least_reader : (n x : ℕ) (l : List ℕ) → n < 64 → ((u : ℕ) → is_reader u l ≡ true → IsWorker n u) → x ≡ mask n l → 0 < x
    → (is_reader (trailing_zeros w64 x) l ≡ true) × ((u : ℕ) → is_reader u l ≡ true → trailing_zeros w64 x ≤ u)
least_reader n x l lt are e some =
    let t = bit_at-trailing_zeros w64 x some (let s = small n l lt in omega arith) in (
      reader_set n l (trailing_zeros w64 x) (ap (λ z. bit_at z (trailing_zeros w64 x)) (sym e) ∙ t.1),
      λ u r. ⊎_elim
          (λ (below : u < trailing_zeros w64 x). absurd (let one = set_reader n l u (are u r) r in let none = ap (λ z. bit_at z u) (sym e) ∙ t.2 u below in omega arith))
          (λ (le : trailing_zeros w64 x ≤ u). le)
          (cases_lt u (trailing_zeros w64 x)),
    )
