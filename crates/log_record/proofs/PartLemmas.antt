-- The parts that several kinds share: how long they are, and that they are the same in front of the same bytes.
use Rattle.std.proofs.Common.{◌≡◌, ◌++◌, ◌∷◌, [], ℕ, List, ◌+◌, length, get_or, drop, ap, sym, ◌∙◌, arith}
use mathlib.Core.List.{append_assoc}
use Rattle.std.proofs.lemmas.List.{length-append}
use Rattle.lean_bytes.specs.Numbers.{number_bytes}
use Rattle.lean_bytes.proofs.NumberLemmas.{length-number_bytes}
use Rattle.log_record.specs.Spelling.{RefFits, ref_text}
use Rattle.log_record.specs.Inside.{key_change_text, KeyChangeFits, siblings_text, SiblingsFit, root_change_text, RootChangeFits}
use Rattle.log_record.specs.declared.record.PageRef.{PageRef}
use Rattle.log_record.specs.declared.parts.KeyChange.{KeyChange}
use Rattle.log_record.specs.declared.parts.Siblings.{Siblings}
use Rattle.log_record.specs.declared.parts.RootChange.{RootChange}
use Rattle.log_record.proofs.NumberCuts.{number_cut, number_in_cut}

-- ## Lengths

pub ref_long : (r : PageRef) → length (ref_text r) ≡ 12
ref_long r = simp (length-append, length-number_bytes) (omega arith)

pub key_change_long : (c : KeyChange) → length (key_change_text c) ≡ 36
key_change_long c = simp (length-append, length-number_bytes) (omega arith)

pub siblings_long : (s : Siblings) (rest : List ℕ) → length (siblings_text s rest) ≡ 52 + length rest
siblings_long s rest = simp (length-append, length-number_bytes) (omega arith)

pub root_change_long : (c : RootChange) (rest : List ℕ) → length (root_change_text c rest) ≡ 21 + length rest
root_change_long c rest = simp (length-append, length-number_bytes) (omega arith)

-- ## Bytes behind

pub siblings_in : (s : Siblings) (a b : List ℕ) → siblings_text s a ++ b ≡ siblings_text s (a ++ b)
siblings_in s a b = simp append_assoc

pub root_change_in : (c : RootChange) (a b : List ℕ) → root_change_text c a ++ b ≡ root_change_text c (a ++ b)
root_change_in c a b = simp append_assoc

pub split_pieces : (prefix : List ℕ) (s : Siblings) (level : ℕ) (pairs : List ℕ) → ((prefix ++ siblings_text s []) ++ level ∷ []) ++ pairs ≡ prefix ++ siblings_text s (level ∷ pairs)
split_pieces prefix s level pairs = simp append_assoc

-- ## In front of the same bytes

pub ref_cut : (r s : PageRef) (xs ys : List ℕ) → RefFits r → RefFits s → ref_text r ++ xs ≡ ref_text s ++ ys → (r ≡ s) × (xs ≡ ys)
ref_cut r s xs ys f g e =
    let a = number_in_cut 4 r.page s.page (number_bytes 8 r.prev) (number_bytes 8 s.prev) xs ys f.0 g.0 e in
    let b = number_cut 8 r.prev s.prev xs ys f.1 g.1 a.1 in
    (λ i. record { page = a.0 i; prev = b.0 i }, b.1)

pub ref_in_cut : (r s : PageRef) (a b xs ys : List ℕ) → RefFits r → RefFits s → (ref_text r ++ a) ++ xs ≡ (ref_text s ++ b) ++ ys → (r ≡ s) × (a ++ xs ≡ b ++ ys)
ref_in_cut r s a b xs ys f g e = ref_cut r s (a ++ xs) (b ++ ys) f g (sym (append_assoc (ref_text r) a xs) ∙ e ∙ append_assoc (ref_text s) b ys)

pub key_change_cut : (c d : KeyChange) (xs ys : List ℕ) → KeyChangeFits c → KeyChangeFits d → key_change_text c ++ xs ≡ key_change_text d ++ ys → (c ≡ d) × (xs ≡ ys)
key_change_cut c d xs ys f g e =
    let c0 = ref_in_cut c.leaf d.leaf (number_bytes 8 c.key ++ (number_bytes 8 c.before ++ number_bytes 8 c.after)) (number_bytes 8 d.key ++ (number_bytes 8 d.before ++ number_bytes 8 d.after)) xs ys f.0 g.0 e in
    let c1 = number_in_cut 8 c.key d.key (number_bytes 8 c.before ++ number_bytes 8 c.after) (number_bytes 8 d.before ++ number_bytes 8 d.after) xs ys f.1 g.1 c0.1 in
    let c2 = number_in_cut 8 c.before d.before (number_bytes 8 c.after) (number_bytes 8 d.after) xs ys f.2 g.2 c1.1 in
    let c3 = number_cut 8 c.after d.after xs ys f.3 g.3 c2.1 in
    (λ i. record { leaf = c0.0 i; key = c1.0 i; before = c2.0 i; after = c3.0 i }, c3.1)

pub siblings_cut : (s u : Siblings) (xs ys : List ℕ) → SiblingsFit s → SiblingsFit u → siblings_text s xs ≡ siblings_text u ys → (s ≡ u) × (xs ≡ ys)
siblings_cut s u xs ys f g e =
    let c0 = ref_cut s.left u.left _ _ f.0 g.0 e in
    let c1 = ref_cut s.right u.right _ _ f.1 g.1 c0.1 in
    let c2 = ref_cut s.parent u.parent _ _ f.2 g.2 c1.1 in
    let c3 = number_cut 8 s.separator u.separator _ _ f.3 g.3 c2.1 in
    let c4 = number_cut 8 s.high u.high xs ys f.4 g.4 c3.1 in
    (λ i. record { left = c0.0 i; right = c1.0 i; parent = c2.0 i; separator = c3.0 i; high = c4.0 i }, c4.1)

-- two bytes in front
pub byte_cut : (x y : ℕ) (xs ys : List ℕ) → x ∷ xs ≡ y ∷ ys → (x ≡ y) × (xs ≡ ys)
byte_cut x y xs ys e = (ap (λ (z : List ℕ). get_or z 0 0) e, ap (drop 1) e)

pub root_change_cut : (c d : RootChange) (xs ys : List ℕ) → RootChangeFits c → RootChangeFits d → root_change_text c xs ≡ root_change_text d ys → (c ≡ d) × (xs ≡ ys)
root_change_cut c d xs ys f g e =
    let c0 = number_cut 8 c.root_prev d.root_prev _ _ f.0 g.0 e in
    let c1 = ref_cut c.page d.page _ _ f.1 g.1 c0.1 in
    let c2 = byte_cut c.level d.level xs ys c1.1 in
    (λ i. record { root_prev = c0.0 i; page = c1.0 i; level = c2.0 i }, c2.1)
