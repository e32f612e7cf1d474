-- Numbers behind one another in a buffer.
use Rattle.std.proofs.Common.{◌≡◌, ◌++◌, ◌∷◌, [], ℕ, List, ◌+◌, length, take, drop, refl, ap, sym, subst, ◌∙◌, arith}
use mathlib.Core.List.{append_assoc}
use Rattle.std.proofs.lemmas.List.{length-append, take_at, drop_at, append-nil, drop-drop}
use Rattle.log_record.specs.Spelling.{Holds}

-- a buffer in which nothing was written
pub holds_none : (first : List ℕ) → Holds [] first first 0
holds_none first = record { count = refl; bytes = refl }

pub holds_same : (text other first now : List ℕ) (end : ℕ) → text ≡ other → Holds text first now end → Holds other first now end
holds_same text other first now end same is = let P : List ℕ → Type 0 = λ t. Holds t first now end in subst P same is

-- a piece was written behind the prefix
pub holds_more : (prefix first now after piece : List ℕ) (at n : ℕ) → length piece ≡ n → Holds prefix first now at → after ≡ take at now ++ (piece ++ drop (at + n) now) → Holds (prefix ++ piece) first after (at + n)
holds_more prefix first now after piece at n long was is =
    let size : length (prefix ++ piece) ≡ length prefix + length piece = length-append prefix piece in
    let count : at ≡ length prefix = was.count in
    let kept : take at now ≡ prefix = ap (take at) was.bytes ∙ take_at prefix (drop (length prefix) first) at (sym count) in
    let behind : drop at now ≡ drop (length prefix) first = ap (drop at) was.bytes ∙ drop_at prefix (drop (length prefix) first) at (sym count) in
    let all : length prefix + n ≡ length (prefix ++ piece) = omega arith in
    let rest : drop (at + n) now ≡ drop (length (prefix ++ piece)) first =
    sym (drop-drop n at now) ∙ ap (drop n) behind ∙ drop-drop n (length prefix) first ∙ ap (λ (k : ℕ). drop k first) all in
    record {
      count = omega arith;
      bytes = is ∙ ap (λ (u : List ℕ). u ++ (piece ++ drop (at + n) now)) kept ∙ ap (λ (u : List ℕ). prefix ++ (piece ++ u)) rest ∙ sym (append_assoc prefix piece (drop (length (prefix ++ piece)) first));
    }

pub end_pieces : (k : ℕ) (t g n : List ℕ) → (k ∷ (t ++ g)) ++ n ≡ k ∷ (t ++ (g ++ n))
end_pieces k t g n = ap (λ (u : List ℕ). k ∷ u) (append_assoc t g n)

pub siblings_pieces : (prefix l r p s h : List ℕ) → ((((prefix ++ l) ++ r) ++ p) ++ s) ++ h ≡ prefix ++ (l ++ (r ++ (p ++ (s ++ (h ++ [])))))
siblings_pieces prefix l r p s h = simp (append_assoc, append-nil)
