-- The pieces of a line, as they are written one after another.
use Rattle.std.proofs.Common.{◌≡◌, ◌+◌, ◌<◌, ◌++◌, ◌∷◌, [], ℕ, List, length, take, drop, set, refl, sym, ap, subst, ◌∙◌, arith}
use Rattle.std.proofs.lemmas.List.{take_at, take-append-drop, length-append}
use Rattle.std.proofs.lemmas.Slice.{drop-append-drop}
use mathlib.Core.List.{append_assoc}
use Rattle.lean_edge.specs.Outside.{IsLine, IsWholeLine}
use Rattle.script_lang.specs.Pieces.{Holds}

-- a buffer in which nothing was written
pub holds_none : (first : List ℕ) → Holds [] first first 0
holds_none first = record { count = refl; bytes = refl }

pub holds_same : (text other first now : List ℕ) (end : ℕ) → text ≡ other → Holds text first now end → Holds other first now end
holds_same text other first now end same is = let P : List ℕ → Type 0 = λ t. Holds t first now end in subst P same is

-- one byte that was written first
pub holds_one : (text : List ℕ) (b : ℕ) (first : List ℕ) → text ≡ b ∷ [] → 0 < length first → Holds text first (set first 0 b) 1
holds_one text b [] is some = absurd (omega (arith, some))
holds_one text b (x ∷ xs) is some = holds_same (b ∷ []) text (x ∷ xs) (b ∷ xs) 1 (sym is) (record { count = refl; bytes = refl })

-- two pieces behind a prefix are one
pub holds_joined : (prefix a b first now : List ℕ) (end : ℕ) → Holds ((prefix ++ a) ++ b) first now end → Holds (prefix ++ (a ++ b)) first now end
holds_joined prefix a b first now end is = holds_same ((prefix ++ a) ++ b) (prefix ++ (a ++ b)) first now end (append_assoc prefix a b) is

-- and with a last one between them
pub holds_regrouped : (prefix a b c first now : List ℕ) (end : ℕ) → Holds ((prefix ++ (a ++ b)) ++ c) first now end → Holds (prefix ++ (a ++ (b ++ c))) first now end
holds_regrouped prefix a b c first now end is =
    holds_same ((prefix ++ (a ++ b)) ++ c) (prefix ++ (a ++ (b ++ c))) first now end (append_assoc prefix (a ++ b) c ∙ ap (λ (t : List ℕ). prefix ++ t) (append_assoc a b c)) is

-- three numbers, each behind its text
pub three_pieces : (a b c d e f : List ℕ) → (((a ++ b) ++ (c ++ d)) ++ (e ++ f)) ≡ a ++ (b ++ (c ++ (d ++ (e ++ f))))
three_pieces a b c d e f = simp append_assoc

-- four of them
pub four_pieces : (a b c d e f g h : List ℕ) → ((((a ++ b) ++ (c ++ d)) ++ (e ++ f)) ++ (g ++ h)) ≡ a ++ (b ++ (c ++ (d ++ (e ++ (f ++ (g ++ h))))))
four_pieces a b c d e f g h = simp append_assoc

pub two_pieces : (a b c d : List ℕ) → ((a ++ b) ++ (c ++ d)) ≡ a ++ (b ++ (c ++ d))
two_pieces a b c d = simp append_assoc

pub last_piece : (a b c d : List ℕ) → (a ++ b) ++ (c ++ d) ≡ (a ++ (b ++ c)) ++ d
last_piece a b c d = simp append_assoc

-- the bytes up to its end are the text
pub held_text : {first now : List ℕ} {end : ℕ} (text : List ℕ) → Holds text first now end → take end now ≡ text
held_text {first} {now} {end} text h = ap (take end) h.bytes ∙ take_at text (drop (length text) first) end (sym h.count)

-- a line that was written in a buffer is one line
pub one_whole_line : (text : List ℕ) {first now : List ℕ} {end : ℕ} → IsLine text → Holds (text ++ 10 ∷ []) first now end → IsWholeLine (take end now)
one_whole_line text is h = record { line = text; is_line = is; is = held_text (text ++ 10 ∷ []) h }

-- a piece that was written in place
pub holds_more : (prefix text first old now : List ℕ) (at end : ℕ) → Holds prefix first old at → end ≡ at + length text
    → take at now ≡ take at old → drop at now ≡ text ++ drop end old → Holds (prefix ++ text) first now end
holds_more prefix text first old now at end h long before written =
    let count : at ≡ length prefix = h.count in
    let e : end ≡ length (prefix ++ text) = omega (arith, length-append prefix text) in
    let a : take at now ≡ prefix = before ∙ held_text prefix h in
    let behind : drop end old ≡ drop end first = ap (drop end) h.bytes ∙ drop-append-drop (length prefix) first prefix end (omega arith) refl in
    let b : drop at now ≡ text ++ drop (length (prefix ++ text)) first = written ∙ ap (λ (d : List ℕ). text ++ d) (behind ∙ ap (λ (n : ℕ). drop n first) e) in
    record {
      count = e;
      bytes = sym (take-append-drop at now) ∙ ap (λ (x : List ℕ). x ++ drop at now) a ∙ ap (λ (x : List ℕ). prefix ++ x) b
          ∙ sym (append_assoc prefix text (drop (length (prefix ++ text)) first));
    }
