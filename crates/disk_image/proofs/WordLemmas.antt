-- Words that are read are those that were written.
use Rattle.std.proofs.Common.{◌≡◌, ◌<◌, ◌^◌, ℕ, zero, suc, true, ltb, List, [], ◌∷◌, ◌++◌, length, get_or, drop, refl, sym, ap, ◌∙◌, arith}
use mathlib.Core.List.{append_assoc}
use Rattle.std.proofs.lemmas.Bool.{and_parts, and_from, ltb-true, lt-ltb}
use Rattle.std.proofs.lemmas.List.{drop_at}
use Rattle.lean_bytes.specs.Numbers.{number_bytes, number_of, words_bytes, AreWords}
use Rattle.lean_bytes.specs.Seals.{seal_of}
use Rattle.lean_bytes.proofs.NumberLemmas.{length-number_bytes, number-read}
use Rattle.disk_slots.specs.Slots.{slot_of, HasWords}
use Rattle.disk_image.specs.Words.{words_in, are_words}

words-tail : (x : ℕ) (xs : List ℕ) → AreWords (x ∷ xs) → AreWords xs
words-tail x xs a = record { word = λ k. a.word (suc k) }

words-cons : (x : ℕ) (xs : List ℕ) → x < 2 ^ 64 → AreWords xs → AreWords (x ∷ xs)
words-cons x xs h a = record { word = at }
  where
    at : (k : ℕ) → get_or (x ∷ xs) k 0 < 2 ^ 64
    at zero = h
    at (suc k) = a.word k

pub are_words_to : (xs : List ℕ) → are_words xs ≡ true → AreWords xs
are_words_to [] h = record { word = λ k. omega arith }
are_words_to (x ∷ xs) h = let b = and_parts (ltb x (2 ^ 64)) (are_words xs) h in words-cons x xs (ltb-true x (2 ^ 64) b.0) (are_words_to xs b.1)

pub are_words_from : (xs : List ℕ) → AreWords xs → are_words xs ≡ true
are_words_from [] a = refl
are_words_from (x ∷ xs) a = and_from (ltb x (2 ^ 64)) (are_words xs) (lt-ltb x (2 ^ 64) (a.word 0)) (are_words_from xs (words-tail x xs a))

words_in-bytes : (ws rest : List ℕ) → AreWords ws → words_in (length ws) (words_bytes ws ++ rest) ≡ ws
unfolding words_bytes words_in
words_in-bytes [] rest a = refl
words_in-bytes (w ∷ ws) rest a =
    let few : w < 256 ^ 8 = a.word 0 in
    let behind : List ℕ = words_bytes ws ++ rest in
    ap (λ (us : List ℕ). number_of 8 us ∷ words_in (length ws) (drop 8 us)) (append_assoc (number_bytes 8 w) (words_bytes ws) rest)
    ∙ ap (λ x. x ∷ words_in (length ws) (drop 8 (number_bytes 8 w ++ behind))) (number-read 8 w behind few)
    ∙ ap (λ (us : List ℕ). w ∷ words_in (length ws) us) (drop_at (number_bytes 8 w) behind 8 (length-number_bytes 8 w))
    ∙ ap (λ (us : List ℕ). w ∷ us) (words_in-bytes ws rest (words-tail w ws a))

-- the words of a slot
pub words_in-slot : (n : ℕ) (tag bytes ws : List ℕ) → n ≡ 126 → HasWords tag bytes ws → words_in n bytes ≡ ws
unfolding slot_of
words_in-slot n tag bytes ws e h =
    let l : n ≡ length ws = e ∙ sym h.long in
    ap (λ (us : List ℕ). words_in n us) h.spelled ∙ ap (λ j. words_in j (words_bytes ws ++ seal_of tag (words_bytes ws))) l ∙ words_in-bytes ws (seal_of tag (words_bytes ws)) h.fit
