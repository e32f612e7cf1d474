-- Slots: what was written, what is read, and that it is one.
use Rattle.std.proofs.Common.{Bool, true, ◌≡◌, ℕ, ◌-◌, ◌≤◌, List, [], ◌++◌, length, take, drop, refl, sym, ap, ◌∙◌, arith, length-drop}
use Rattle.std.proofs.lemmas.List.{length-append, take-append-drop, drop_at, take_at, take_all, drop_all, append-nil}
use borrow.Rule.Slice.PartMut.{put_mid}
use Rattle.lean_bytes.specs.Numbers.{words_bytes, AreWords}
use Rattle.lean_bytes.specs.Seals.{seal_of}
use Rattle.lean_bytes.proofs.NumberLemmas.{length-words_bytes, words-one}
use Rattle.lean_bytes.proofs.SealLemmas.{length-seal_of}
use Rattle.disk_slots.specs.Slots.{slot_of, IsSealed, HasWords}

-- words were written, and their seal behind them
pub slot-written : (tag old ws cs ss : List ℕ) (n k : ℕ) → length ws ≡ 126 → length old ≡ 1024 → n ≡ 1024 - 16 → cs ≡ words_bytes ws → ss ≡ seal_of tag (take n (cs ++ drop n old)) → k ≡ length (cs ++ drop n old) - n → put_mid n k (cs ++ drop n old) ss ≡ slot_of tag ws
unfolding slot_of
slot-written tag old ws cs ss n k l lo en ec es hk =
    let lc : length cs ≡ n = ap length ec ∙ length-words_bytes ws ∙ omega arith in
    let t : take n (cs ++ drop n old) ≡ cs = take_at cs (drop n old) n lc in
    let d : drop n (cs ++ drop n old) ≡ drop n old = drop_at cs (drop n old) n lc in
    let ld : length (drop n old) ≤ k = let x = length-drop n old in let y = length-append cs (drop n old) in omega arith in
    let dk : drop k (drop n (cs ++ drop n old)) ≡ [] = ap (drop k) d ∙ drop_all k (drop n old) ld in
    ap (λ (us : List ℕ). us ++ (ss ++ drop k (drop n (cs ++ drop n old)))) t
    ∙ ap (λ (us : List ℕ). cs ++ (ss ++ us)) dk
    ∙ ap (λ (us : List ℕ). cs ++ us) (append-nil ss ∙ es ∙ ap (seal_of tag) t)
    ∙ ap (λ (us : List ℕ). us ++ seal_of tag us) ec

-- ## What a seal says

sealed-from : (tag bytes : List ℕ) (n : ℕ) → length bytes ≡ 1024 → n ≡ 1024 - 16 → drop n bytes ≡ seal_of tag (take n bytes) → IsSealed tag bytes
sealed-from tag bytes n l e s = record { long = l; seal = ap (λ j. drop j bytes) (sym e) ∙ s ∙ ap (λ j. seal_of tag (take j bytes)) e }

sealed-to : (tag bytes : List ℕ) (n : ℕ) → n ≡ 1024 - 16 → IsSealed tag bytes → drop n bytes ≡ seal_of tag (take n bytes)
sealed-to tag bytes n e s = ap (λ j. drop j bytes) e ∙ s.seal ∙ ap (λ j. seal_of tag (take j bytes)) (sym e)

pub sealed-by : (tag bytes : List ℕ) (n m k : ℕ) (r : Bool) → length bytes ≡ 1024 → n ≡ 1024 - 16 → m ≡ 1024 - n →
    (r ≡ true → take m (drop n bytes) ≡ seal_of tag (take n bytes)) × (take m (drop n bytes) ≡ seal_of tag (take n bytes) → r ≡ true) →
    (r ≡ true → IsSealed tag bytes) × (IsSealed tag bytes → r ≡ true)
sealed-by tag bytes n m k r l e em d =
    let t : take m (drop n bytes) ≡ drop n bytes = take_all m (drop n bytes) (let x = length-drop n bytes in omega arith) in
    ((λ h. sealed-from tag bytes n l e (sym t ∙ d.0 h)), (λ s. d.1 (t ∙ sealed-to tag bytes n e s)))

-- words were read from a slot whose seal fits
pub slot-read : (tag bytes ws : List ℕ) (n : ℕ) → n ≡ 1024 - 16 → IsSealed tag bytes → length ws ≡ 126 → words_bytes ws ≡ take n bytes → AreWords ws → HasWords tag bytes ws
unfolding slot_of
slot-read tag bytes ws n e s l t a = record {
  long = l;
  fit = a;
  spelled = sym (take-append-drop n bytes) ∙ ap (λ (us : List ℕ). us ++ drop n bytes) (sym t) ∙ ap (λ (us : List ℕ). words_bytes ws ++ us) (sealed-to tag bytes n e s ∙ ap (seal_of tag) (sym t));
}

-- ## A slot has a seal and one list of words

slot-prefix : (tag bytes ws : List ℕ) (n : ℕ) → n ≡ 1024 - 16 → HasWords tag bytes ws → take n bytes ≡ words_bytes ws
unfolding slot_of
slot-prefix tag bytes ws n e s =
    let l = s.long in
    let lb : length (words_bytes ws) ≡ n = length-words_bytes ws ∙ omega arith in
    ap (take n) s.spelled ∙ take_at (words_bytes ws) _ n lb

slot-back : (tag bytes ws : List ℕ) (n : ℕ) → n ≡ 1024 - 16 → HasWords tag bytes ws → drop n bytes ≡ seal_of tag (take n bytes)
unfolding slot_of
slot-back tag bytes ws n e s =
    let l = s.long in
    let lb : length (words_bytes ws) ≡ n = length-words_bytes ws ∙ omega arith in
    ap (drop n) s.spelled ∙ drop_at (words_bytes ws) _ n lb ∙ ap (seal_of tag) (sym (slot-prefix tag bytes ws n e s))

slot-long : (tag bytes ws : List ℕ) → HasWords tag bytes ws → length bytes ≡ 1024
unfolding slot_of
slot-long tag bytes ws s =
    let l = s.long in
    let a = length-words_bytes ws in
    let b = length-seal_of tag (words_bytes ws) in
    let c = length-append (words_bytes ws) (seal_of tag (words_bytes ws)) in
    ap length s.spelled ∙ omega arith

pub slot-sealed : (tag bytes ws : List ℕ) → HasWords tag bytes ws → IsSealed tag bytes
slot-sealed tag bytes ws s = sealed-from tag bytes (1024 - 16) (slot-long tag bytes ws s) refl (slot-back tag bytes ws (1024 - 16) refl s)

one-prefix : (tag bytes us ws : List ℕ) (n : ℕ) → n ≡ 1024 - 16 → HasWords tag bytes us → HasWords tag bytes ws → words_bytes us ≡ words_bytes ws
one-prefix tag bytes us ws n e s t = sym (slot-prefix tag bytes us n e s) ∙ slot-prefix tag bytes ws n e t

pub slot-one : (tag bytes us ws : List ℕ) → HasWords tag bytes us → HasWords tag bytes ws → us ≡ ws
slot-one tag bytes us ws s t = words-one us ws (s.long ∙ sym t.long) s.fit t.fit (one-prefix tag bytes us ws (1024 - 16) refl s t)

-- words with the bytes of a slot's prefix are the slot's
pub slot-words_prefix : (tag bytes ws us : List ℕ) (n : ℕ) → n ≡ 1024 - 16 → HasWords tag bytes ws → length us ≡ 126 → AreWords us → words_bytes us ≡ take n bytes → ws ≡ us
slot-words_prefix tag bytes ws us n e h l a t = words-one ws us (h.long ∙ sym l) h.fit a (sym (slot-prefix tag bytes ws n e h) ∙ sym t)
