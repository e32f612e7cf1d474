-- Numbers and their bytes, both ways.
use Rattle.std.proofs.Common.{◌≡◌, ℕ, ◌+◌, ◌-◌, ◌*◌, ◌/◌, ◌%◌, ◌^◌, ◌<◌, ◌≤◌, suc, zero, List, [], ◌∷◌, ◌++◌, length, take, drop, refl, sym, ap, ◌∙◌, inl, inr, arith, length-drop}
use native.Mathlib.Nat.{pow-suc, div-div-eq-div-mul}
use Rattle.std.proofs.lemmas.List.{drop-drop, length-append, take-append-drop, append_cancel_left, nil_from_length, get_or_past, drop_all, take_all, length-take, append-nil}
use borrow.Rule.Slice.PartMut.{put_mid}
use Rattle.std.proofs.lemmas.Bool.{cases_lt}
use Rattle.std.specs.Int.{bytes_low_first, byte_at}
use Rattle.byteorder.specs.Endian.{little_bytes, little_number, little_from, IsRead}
use Rattle.byteorder.specs.Numbers.{little_from-cons, little_number-reads_back, length-bytes_low_first, little_from-lt}
use Rattle.lean_bytes.specs.Numbers.{number_bytes, number_of, words_bytes, AreBytes, AreWords}
use Rattle.lean_bytes.specs.Laws.{EveryNumber, EveryWord}

-- ## Parts of bytes and words

bytes-tail : (x : ℕ) (xs : List ℕ) → AreBytes (x ∷ xs) → AreBytes xs
bytes-tail x xs b = record { byte = λ k. b.byte (suc k) }

pub bytes-drop : (n : ℕ) (xs : List ℕ) → AreBytes xs → AreBytes (drop n xs)
bytes-drop zero xs b = b
bytes-drop (suc n) [] b = b
bytes-drop (suc n) (x ∷ xs) b = bytes-drop n xs (bytes-tail x xs b)

words-tail : (x : ℕ) (xs : List ℕ) → AreWords (x ∷ xs) → AreWords xs
words-tail x xs b = record { word = λ k. b.word (suc k) }

-- ## The bytes of a number in bytes

byte_at-shift : (i n : ℕ) → byte_at (suc i) n ≡ byte_at i (n / 256)
byte_at-shift zero n = refl
byte_at-shift (suc i) n =
    let a = 256 ^ suc i in
    let e : 256 ^ suc (suc i) ≡ 256 * a = pow-suc 256 (suc i) ∙ omega arith in
    ap (λ p. n / p % 256) e ∙ ap (λ x. x % 256) (sym (div-div-eq-div-mul n 256 a))

low_first-shift : (i k n : ℕ) → bytes_low_first (suc i) k n ≡ bytes_low_first i k (n / 256)
low_first-shift i zero n = refl
low_first-shift i (suc k) n = ap (λ x. x ∷ bytes_low_first (suc (suc i)) k n) (byte_at-shift i n) ∙ ap (λ (r : List ℕ). byte_at i (n / 256) ∷ r) (low_first-shift (suc i) k n)

bytes-of_number : (k : ℕ) (xs : List ℕ) → k ≤ length xs → AreBytes xs → bytes_low_first 0 k (little_from 0 k xs) ≡ take k xs
bytes-of_number zero xs h b = refl
bytes-of_number (suc k) [] h b = absurd (omega arith)
bytes-of_number (suc k) (x ∷ xs) h b =
    let lt : x < 256 = b.byte 0 in
    let r = little_from 0 k xs in
    let e : little_from 0 (suc k) (x ∷ xs) ≡ x + 256 * r = ap (λ y. x + 256 * y) (little_from-cons 0 k x xs) in
    let m : (x + 256 * r) % 256 ≡ x = omega arith in
    let d : (x + 256 * r) / 256 ≡ r = omega arith in
    ap (bytes_low_first 0 (suc k)) e ∙ ap (λ y. y ∷ bytes_low_first 1 k (x + 256 * r)) m
    ∙ ap (λ (ys : List ℕ). x ∷ ys) (low_first-shift 0 k (x + 256 * r) ∙ ap (bytes_low_first 0 k) d ∙ bytes-of_number k xs (omega arith) (bytes-tail x xs b))

-- ## The laws of numbers

pub length-number_bytes : (n x : ℕ) → length (number_bytes n x) ≡ n
unfolding number_bytes
length-number_bytes n x = length-bytes_low_first 0 n x

pub number-read : (n x : ℕ) (rest : List ℕ) → x < 256 ^ n → number_of n (number_bytes n x ++ rest) ≡ x
unfolding number_bytes number_of
number-read n x rest h = little_number-reads_back n x rest h

pub number-written : (n : ℕ) (bytes : List ℕ) → n ≤ length bytes → AreBytes bytes → number_bytes n (number_of n bytes) ≡ take n bytes
unfolding number_bytes number_of
number-written n bytes h b = bytes-of_number n bytes h b

pub number-fits : (n : ℕ) (bytes : List ℕ) → AreBytes bytes → number_of n bytes < 256 ^ n
unfolding number_of
number-fits n bytes b = little_from-lt 0 n bytes b.byte

-- what was read, and the rest
pub number-split : (n : ℕ) (bytes : List ℕ) → n ≤ length bytes → AreBytes bytes → bytes ≡ number_bytes n (number_of n bytes) ++ drop n bytes
number-split n bytes h b = sym (take-append-drop n bytes) ∙ ap (λ (us : List ℕ). us ++ drop n bytes) (sym (number-written n bytes h b))

-- a number was written at a place
pub number-put : (n at k : ℕ) (xs bs new : List ℕ) → length bs ≡ n → k ≡ n → new ≡ bs ++ drop n (take k (drop at xs)) → put_mid at k xs new ≡ take at xs ++ (bs ++ drop (at + n) xs)
number-put n at k xs bs new l kn e =
    let none : drop n (take k (drop at xs)) ≡ [] = drop_all n (take k (drop at xs)) (let m = length-take k (drop at xs) in omega arith) in
    let new' : new ≡ bs = e ∙ ap (λ (us : List ℕ). bs ++ us) none ∙ append-nil bs in
    ap (λ (us : List ℕ). take at xs ++ (us ++ drop k (drop at xs))) new' ∙ ap (λ (us : List ℕ). take at xs ++ (bs ++ us)) (drop-drop k at xs ∙ ap (λ j. drop (at + j) xs) kn)

-- a number was read at a place
pub number-taken : (n at k : ℕ) (xs : List ℕ) → k ≡ length xs - at → number_of n (take k (drop at xs)) ≡ number_of n (drop at xs)
number-taken n at k xs e = ap (number_of n) (take_all k (drop at xs) (let l = length-drop at xs in omega arith))

-- a number was read off the prefix
pub number-next : (n k x : ℕ) (bytes : List ℕ) → n ≤ length bytes → AreBytes bytes → x ≡ number_of n bytes → k ≡ length bytes - n → bytes ≡ number_bytes n x ++ take k (drop n bytes)
number-next n k x bytes h b e l =
    number-split n bytes h b
    ∙ ap (λ y. number_bytes n y ++ drop n bytes) (sym e)
    ∙ ap (λ (us : List ℕ). number_bytes n x ++ us) (sym (take_all k (drop n bytes) (let d = length-drop n bytes in omega arith)))

pub every_number : EveryNumber
every_number n = record {
  long = length-number_bytes n;
  read = number-read n;
  written = number-written n;
  fits = number-fits n;
}

-- ## The laws of words

pub length-words_bytes : (ws : List ℕ) → length (words_bytes ws) ≡ 8 * length ws
unfolding words_bytes
length-words_bytes [] = refl
length-words_bytes (w ∷ ws) =
    let a = length-append (number_bytes 8 w) (words_bytes ws) in
    let b = length-number_bytes 8 w in
    let c = length-words_bytes ws in
    omega arith

-- what was read from bytes spells them
pub words-read : (dst src : List ℕ) → length src ≡ 8 * length dst → AreBytes src → IsRead little_number 8 src dst → words_bytes dst ≡ src
unfolding words_bytes number_bytes
words-read [] src l b r = sym (nil_from_length src (omega arith))
words-read (w ∷ dst) src l b r =
    let e : w ≡ little_from 0 8 src = r 0 (omega arith) in
    let t : little_bytes 8 w ≡ take 8 src = ap (little_bytes 8) e ∙ bytes-of_number 8 src (omega arith) b in
    let rest = words-read dst (drop 8 src) (length-drop 8 src ∙ omega arith) (bytes-drop 8 src b) (λ k h.
    r (suc k) (omega arith) ∙ ap (λ j. little_number 8 (drop j src)) (omega arith) ∙ ap (little_number 8) (sym (drop-drop (8 * k) 8 src))) in
    ap (λ (us : List ℕ). little_bytes 8 w ++ us) rest ∙ ap (λ (us : List ℕ). us ++ drop 8 src) t ∙ take-append-drop 8 src

pub words-fit : (dst src : List ℕ) → AreBytes src → IsRead little_number 8 src dst → AreWords dst
words-fit dst src b r = record {
  word = λ k. elim (cases_lt k (length dst)) [
    | inl lt ↦
        let e = r k lt in
        let h : little_from 0 8 (drop (8 * k) src) < 2 ^ 64 = little_from-lt 0 8 (drop (8 * k) src) (bytes-drop (8 * k) src b).byte in
        omega arith
    | inr ge ↦ let e = get_or_past dst k 0 ge in omega arith
  ];
}

-- bytes have one spelling as words
pub words-one : (xs ys : List ℕ) → length xs ≡ length ys → AreWords xs → AreWords ys → words_bytes xs ≡ words_bytes ys → xs ≡ ys
unfolding words_bytes
words-one [] [] l a b e = refl
words-one [] (y ∷ ys) l a b e = absurd (omega arith)
words-one (x ∷ xs) [] l a b e = absurd (omega arith)
words-one (x ∷ xs) (y ∷ ys) l a b e =
    let p : x < 256 ^ 8 = a.word 0 in
    let q : y < 256 ^ 8 = b.word 0 in
    let h : x ≡ y = sym (number-read 8 x (words_bytes xs) p) ∙ ap (number_of 8) e ∙ number-read 8 y (words_bytes ys) q in
    let e2 : number_bytes 8 y ++ words_bytes xs ≡ number_bytes 8 y ++ words_bytes ys = ap (λ z. number_bytes 8 z ++ words_bytes xs) (sym h) ∙ e in
    let t : words_bytes xs ≡ words_bytes ys = append_cancel_left (number_bytes 8 y) _ _ e2 in
    ap (λ z. z ∷ xs) h ∙ ap (λ (us : List ℕ). y ∷ us) (words-one xs ys (omega arith) (words-tail x xs a) (words-tail y ys b) t)

pub every_word : EveryWord
every_word words = record {
  long = length-words_bytes words;
  one = words-one words;
}
