-- Words and numbers: what is spelled is read, and what is read was spelled.
use Rattle.std.proofs.Common.{◌≡◌, ◌++◌, ◌∷◌, [], ℕ, suc, zero, List, Option, Some, None, ◌∙◌, sym, refl, ap, subst, ◌+◌, ◌-◌, ◌*◌, ◌/◌, ◌%◌, ◌^◌, ◌<◌, ◌≤◌, ◌&&◌, Bool, true, false, cond, nat_lt, nat_le, nat_eq, get_or, arith}
use mathlib.Core.List.{append_assoc}
use Rattle.std.proofs.lemmas.List.{append-nil}
use Rattle.std.proofs.lemmas.Bool.{eqb-true}
use Rattle.std.proofs.lemmas.Bool.Decides.{nat_tests}
use Rattle.std.proofs.lemmas.Fmt.{decimal_by_steps, decimal_by_steps_wide, decimal_digit, decimal_step, first_decimal}
use Rattle.std.specs.Fmt.{decimal}
use Rattle.script_lang.specs.Words.{first_word, after_word, goes_on, digits_on, nothing_else, number_of, ranged}
use Rattle.script_lang.specs.Pieces.{name}

-- digits, and nothing else
abbrev pub Digits : List ℕ → Type 0
Digits [] = Unit {0}
Digits (d ∷ ds) = (47 < d) × (d < 58) × Digits ds

digits_end : (ds : List ℕ) (d : ℕ) → Digits ds → 47 < d → d < 58 → Digits (ds ++ d ∷ [])
digits_end [] d h low high = (low, high, tt)
digits_end (x ∷ ds) d h low high = (h.0, h.1, digits_end ds d h.2 low high)

pub digits_wide : (n : ℕ) → n < 10 ^ 64 → Digits (decimal n)
digits_wide n small = decimal_by_steps_wide (λ n ds. Digits ds) (λ n h. (omega arith, omega arith, tt)) (λ n ds h is. digits_end ds (48 + n % 10) is (omega arith) (omega arith)) n small

pub digits : (n : ℕ) → n < 2 ^ 64 → Digits (decimal n)
digits n small = digits_wide n (omega arith)

-- a word: no space in it
abbrev pub IsWord : List ℕ → Type 0
IsWord [] = Unit {0}
IsWord (b ∷ bytes) = (nat_eq b 32 ≡ false) × IsWord bytes

pub word_digits : (ds : List ℕ) → Digits ds → IsWord ds
word_digits [] h = tt
word_digits (d ∷ ds) h = let low : 47 < d = h.0 in (grind (arith, nat_tests), word_digits ds h.2)

pub word_append : (xs ys : List ℕ) → IsWord xs → IsWord ys → IsWord (xs ++ ys)
word_append [] ys h k = k
word_append (x ∷ xs) ys h k = (h.0, word_append xs ys h.1 k)

pub word_number : (n : ℕ) → n < 2 ^ 64 → IsWord (decimal n)
word_number n small = word_digits (decimal n) (digits n small)

pub word_name : (s n : ℕ) → s < 2 ^ 64 → n < 2 ^ 64 → IsWord (name s n)
word_name s n h k = word_append (decimal s) (46 ∷ decimal n) (word_number s h) (refl, word_number n k)

-- a word at the end of a line, and before a space
pub word_last : (ds : List ℕ) → IsWord ds → first_word ds ≡ ds
word_last [] h = refl
word_last (d ∷ ds) h = rw h.0 (ap (λ (x : List ℕ). d ∷ x) (word_last ds h.1))

pub after_last : (ds : List ℕ) → IsWord ds → after_word ds ≡ None
after_last [] h = refl
after_last (d ∷ ds) h = rw h.0 (after_last ds h.1)

pub word_before : (ds more : List ℕ) → IsWord ds → first_word (ds ++ 32 ∷ more) ≡ ds
word_before [] more h = refl
word_before (d ∷ ds) more h = rw h.0 (ap (λ (x : List ℕ). d ∷ x) (word_before ds more h.1))

pub after_before : (ds more : List ℕ) → IsWord ds → after_word (ds ++ 32 ∷ more) ≡ Some more
after_before [] more h = refl
after_before (d ∷ ds) more h = rw h.0 (after_before ds more h.1)

-- the bytes are their first word, and what stands behind its space
abbrev pub Joins : List ℕ → List ℕ → Option (List ℕ) → Type 0
Joins bytes word None = bytes ≡ word
Joins bytes word (Some more) = bytes ≡ word ++ 32 ∷ more

joins_on : (b : ℕ) (bytes word : List ℕ) (more : Option (List ℕ)) → Joins bytes word more → Joins (b ∷ bytes) (b ∷ word) more
joins_on b bytes word None h = ap (λ (x : List ℕ). b ∷ x) h
joins_on b bytes word (Some more) h = ap (λ (x : List ℕ). b ∷ x) h

pub joins : (bytes : List ℕ) → Joins bytes (first_word bytes) (after_word bytes)
joins [] = refl
joins (b ∷ bytes) = at (nat_eq b 32) refl (joins bytes)
  where
    at : (t : Bool) → nat_eq b 32 ≡ t → Joins bytes (first_word bytes) (after_word bytes) → Joins (b ∷ bytes) (first_word (b ∷ bytes)) (after_word (b ∷ bytes))
    at true is more = let e : b ≡ 32 = eqb-true b 32 is in rw is (ap (λ (x : ℕ). x ∷ bytes) e)
    at false is more = rw is (joins_on b bytes (first_word bytes) (after_word bytes) more)

-- one more digit
pub guard : {A : Type 0} (b : Bool) (r : Option A) (m : A) → cond b r None ≡ Some m → (b ≡ true) × (r ≡ Some m)
guard true r m e = (refl, e)
guard false r m e = cc

on_end : (ds : List ℕ) (a d m : ℕ) → digits_on a ds ≡ Some m → goes_on m d ≡ true → digits_on a (ds ++ d ∷ []) ≡ Some (10 * m + (d - 48))
on_end [] a d m is goes = let same : a ≡ m = cc in rw (same, goes) refl
on_end (x ∷ ds) a d m is goes =
    let g = guard (goes_on a x) (digits_on (10 * a + (x - 48)) ds) m is in
    rw g.0 (on_end ds (10 * a + (x - 48)) d m g.1 goes)

abbrev Reads : ℕ → List ℕ → Type 0
Reads n ds = n < 2 ^ 64 → digits_on 0 ds ≡ Some n

reads_one : (n : ℕ) → n < 10 → Reads n ((48 + n) ∷ [])
reads_one n h small =
    let goes : goes_on 0 (48 + n) ≡ true = grind (arith, nat_tests) in
    let same : 10 * 0 + ((48 + n) - 48) ≡ n = omega arith in
    rw goes (ap (λ (x : ℕ). Some x) same)

reads_more : (n : ℕ) (ds : List ℕ) → 10 ≤ n → Reads (n / 10) ds → Reads n (ds ++ (48 + n % 10) ∷ [])
reads_more n ds h is small =
    let prefix : digits_on 0 ds ≡ Some (n / 10) = is (omega arith) in
    let same : 10 * (n / 10) + ((48 + n % 10) - 48) ≡ n = omega arith in
    let last : n % 10 < 10 = omega arith in
    let fits : 10 * (n / 10) + ((48 + n % 10) - 48) < 2 ^ 64 = omega arith in
    let goes : goes_on (n / 10) (48 + n % 10) ≡ true = grind (arith, nat_tests) in
    on_end ds 0 (48 + n % 10) (n / 10) prefix goes ∙ ap (λ (x : ℕ). Some x) same

first_is : (ds : List ℕ) (n : ℕ) → 48 < get_or ds 0 0 → digits_on 0 ds ≡ Some n → number_of ds ≡ Some n
first_is [] n h e = absurd (omega arith)
first_is (d ∷ ds) n h e = let first : 48 < d = h in let no : nat_eq d 48 ≡ false = grind (arith, nat_tests) in rw no e

number_at : (n m : ℕ) → n ≡ m → m < 2 ^ 64 → number_of (decimal m) ≡ Some m
number_at zero m e small = subst (λ (k : ℕ). number_of (decimal k) ≡ Some k) e (ap number_of (decimal_digit 0 (omega arith)))
number_at (suc n) m e small = let some : 0 < m = omega arith in
    first_is (decimal m) m (first_decimal m some small) (decimal_by_steps Reads reads_one reads_more m small small)

-- a number is read from its digits
pub number_is : (n : ℕ) → n < 2 ^ 64 → number_of (decimal n) ≡ Some n
number_is n small = number_at n n refl small

-- what a digit is
pub record Goes (n d : ℕ) : Type 0 where
  pub low : 47 < d
  pub high : d < 58
  pub small : 10 * n + (d - 48) < 2 ^ 64

pub goes : (n d : ℕ) → goes_on n d ≡ true → Goes n d
goes n d e = record { low = grind (arith, nat_tests); high = grind (arith, nat_tests); small = grind (arith, nat_tests) }

-- digits that are read behind a number's stand behind its digits
digits_on_is : (ds : List ℕ) (m n : ℕ) → 0 < m → m < 2 ^ 64 → digits_on m ds ≡ Some n → (decimal n ≡ decimal m ++ ds) × (n < 2 ^ 64)
digits_on_is [] m n some small e =
    let same : m ≡ n = cc in
    (ap decimal (sym same) ∙ sym (append-nil (decimal m)), subst (λ (k : ℕ). k < 2 ^ 64) same small)
digits_on_is (d ∷ ds) m n some small e =
    let g = guard (goes_on m d) (digits_on (10 * m + (d - 48)) ds) n e in
    let is = goes m d g.0 in
    let low : 47 < d = is.low in
    let high : d < 58 = is.high in
    let more : 10 * m + (d - 48) < 2 ^ 64 = is.small in
    let on = digits_on_is ds (10 * m + (d - 48)) n (omega arith) more g.1 in
    let step = decimal_step (10 * m + (d - 48)) (omega arith) more in
    let prefix : (10 * m + (d - 48)) / 10 ≡ m = omega arith in
    let last : 48 + (10 * m + (d - 48)) % 10 ≡ d = omega arith in
    let here : decimal (10 * m + (d - 48)) ≡ decimal m ++ d ∷ [] = step ∙ ap (λ (x : ℕ). decimal x ++ (48 + (10 * m + (d - 48)) % 10) ∷ []) prefix ∙ ap (λ (x : ℕ). decimal m ++ x ∷ []) last in
    (on.0 ∙ ap (λ (x : List ℕ). x ++ ds) here ∙ append_assoc (decimal m) (d ∷ []) ds, on.1)

-- what is read as a number is its digits
pub number_spelled : (ds : List ℕ) (n : ℕ) → number_of ds ≡ Some n → (ds ≡ decimal n) × (n < 2 ^ 64)
number_spelled [] n e = cc
number_spelled (d ∷ ds) n e = at (nat_eq d 48) refl
  where
    zero_is : (ds : List ℕ) → nothing_else ds ≡ Some n → d ≡ 48 → (d ∷ ds ≡ decimal n) × (n < 2 ^ 64)
    zero_is [] e is = let same : 0 ≡ n = cc in
        (ap (λ (x : ℕ). x ∷ []) is ∙ sym (decimal_digit 0 (omega arith)) ∙ ap decimal same, subst (λ (k : ℕ). k < 2 ^ 64) same (omega arith))
    zero_is (x ∷ ds) e is = cc

    at : (t : Bool) → nat_eq d 48 ≡ t → (d ∷ ds ≡ decimal n) × (n < 2 ^ 64)
    at true is = let f : nothing_else ds ≡ Some n = subst (λ (t : Bool). cond t (nothing_else ds) (digits_on 0 (d ∷ ds)) ≡ Some n) is e in zero_is ds f (eqb-true d 48 is)
    at false is =
        let f : digits_on 0 (d ∷ ds) ≡ Some n = subst (λ (t : Bool). cond t (nothing_else ds) (digits_on 0 (d ∷ ds)) ≡ Some n) is e in
        let g = guard (goes_on 0 d) (digits_on (10 * 0 + (d - 48)) ds) n f in
        let h = goes 0 d g.0 in
        let low : 47 < d = h.low in
        let high : d < 58 = h.high in
        let other : (d ≡ 48 → ⊥) = λ (e : d ≡ 48). grind (arith, nat_tests) in
        let some : 48 < d = omega arith in
        let first : 10 * 0 + (d - 48) ≡ d - 48 = omega arith in
        let back : 48 + (d - 48) ≡ d = omega arith in
        let on = digits_on_is ds (10 * 0 + (d - 48)) n (omega arith) (omega arith) g.1 in
        (sym (on.0 ∙ ap (λ (x : ℕ). decimal x ++ ds) first ∙ ap (λ (x : List ℕ). x ++ ds) (decimal_digit (d - 48) (omega arith)) ∙ ap (λ (x : ℕ). (x ∷ []) ++ ds) back), on.1)

-- a number in a range
pub ranged_is : (low end n : ℕ) → low ≤ n → n < end → ranged low end (Some n) ≡ Some n
ranged_is low end n h k = let e : (nat_le low n && nat_lt n end) ≡ true = grind (arith, nat_tests) in rw e refl

pub record InRange (low end n : ℕ) (number : Option ℕ) : Type 0 where
  pub above : low ≤ n
  pub under : n < end
  pub read : number ≡ Some n

pub in_range : (low end n : ℕ) (read : Option ℕ) → ranged low end read ≡ Some n → InRange low end n read
in_range low end n None e = cc
in_range low end n (Some m) e =
    let g = guard (nat_le low m && nat_lt m end) (Some m) n e in
    let same : m ≡ n = cc in
    let above : low ≤ m = grind (arith, nat_tests) in
    let below : m < end = grind (arith, nat_tests) in
    record { above = omega arith; under = omega arith; read = ap (λ (x : ℕ). Some x) same }
