-- Fair images where each write is of one slot or block alone.
use Rattle.std.proofs.Common.{◌≡◌, ◌⊎◌, inl, inr, ⊎_elim, ◌<◌, ◌≤◌, ◌+◌, ◌-◌, ◌*◌, ◌++◌, ℕ, List, [], ◌∷◌, length, take, drop, replicate, min, refl, sym, ◌∙◌, ap, subst, arith, append_assoc, length-append}
use Rattle.std.proofs.Math.Nat.{mul-le-mul_left}
use Rattle.std.proofs.Math.Seq.{drop-append-add, take-length}
use Rattle.std.proofs.lemmas.Bool.{cases_eq, cases_lt}
use Rattle.std.proofs.lemmas.List.{drop-append-le, drop-drop, drop-take, length-drop, length-replicate, length-take, take-append-le, take-take}
use Rattle.map_model.specs.Lists.{Has}
use Rattle.lean_disk.specs.Area.{Write, put_over}
use Rattle.image_model.specs.Fair.{Fills, IsFair, IsWritten, Touches, after_writes, piece}

-- the write is of one slot or block
pub record IsOfOne (size : ℕ) (write : Write) : Type 0 where
  pub slot : ℕ
  pub place : write.0 ≡ size * slot
  pub whole : length write.1 ≡ size

-- ## An area after a write

module _ (at : ℕ) (bytes old : List ℕ) where
  abbrev before : List ℕ
  before = take at old ++ replicate (at - length old) 0

  abbrev rest : List ℕ
  rest = drop (at + length bytes) old

  before_long : length before ≡ at
  before_long =
      let a : length (take at old) ≡ min at (length old) = length-take at old in
      let zeros : List ℕ = replicate (at - length old) 0 in
      let b : length {A = ℕ} (replicate (at - length old) 0) ≡ at - length old = length-replicate {A = ℕ} (at - length old) 0 in
      length-append (take at old) zeros ∙ omega (arith, a, b)

  in_parts : put_over at bytes old ≡ before ++ (bytes ++ rest)
  in_parts = append_assoc before bytes rest

  past : (k : ℕ) → drop (at + k) (put_over at bytes old) ≡ drop k (bytes ++ rest)
  past k =
      let from : length before + k ≡ at + k = omega (arith, before_long) in
      ap (λ (l : List ℕ). drop (at + k) l) in_parts ∙ (ap (λ (n : ℕ). drop n (before ++ (bytes ++ rest))) (sym from) ∙ drop-append-add before (bytes ++ rest) k)

  -- in the write
  inside : (k size : ℕ) → k + size ≤ length bytes → take size (drop (at + k) (put_over at bytes old)) ≡ take size (drop k bytes)
  inside k size fits =
      let long : length (drop k bytes) ≡ length bytes - k = length-drop k bytes in
      ap (λ (l : List ℕ). take size l) (past k ∙ drop-append-le k bytes rest (omega (arith, fits)))
      ∙ take-append-le size (drop k bytes) rest (omega (arith, long, fits))

  -- behind it
  pub behind : (k : ℕ) → length bytes ≤ k → drop (at + k) (put_over at bytes old) ≡ drop (at + k) old
  behind k far =
      let is : length bytes + (k - length bytes) ≡ k = omega (arith, far) in
      let whole : (at + length bytes) + (k - length bytes) ≡ at + k = omega (arith, far) in
      past k
      ∙ (ap (λ (n : ℕ). drop n (bytes ++ rest)) (sym is)
      ∙ (drop-append-add bytes rest (k - length bytes)
      ∙ (drop-drop (k - length bytes) (at + length bytes) old ∙ ap (λ (n : ℕ). drop n old) whole)))

  -- before it, where the area is long enough
  pub ahead : (n size : ℕ) → n + size ≤ at → n + size ≤ length old → take size (drop n (put_over at bytes old)) ≡ take size (drop n old)
  ahead n size fits long =
      let zeros : List ℕ = replicate (at - length old) 0 in
      let split : n + (at - n) ≡ at = omega (arith, fits) in
      let most : size ≤ at - n = omega (arith, fits) in
      let first : length (take at old) ≡ min at (length old) = length-take at old in
      let reach : n + size ≤ length (take at old) = omega (arith, first, fits, long) in
      let cut : drop n (take at old) ≡ take (at - n) (drop n old) = ap (λ (m : ℕ). drop n (take m old)) (sym split) ∙ drop-take n (at - n) old in
      let some : length (drop n (take at old)) ≡ length (take at old) - n = length-drop n (take at old) in
      ap (λ (l : List ℕ). take size (drop n l)) (in_parts ∙ append_assoc (take at old) zeros (bytes ++ rest))
      ∙ (ap (λ (l : List ℕ). take size l) (drop-append-le n (take at old) (zeros ++ (bytes ++ rest)) (omega (arith, reach)))
      ∙ (take-append-le size (drop n (take at old)) (zeros ++ (bytes ++ rest)) (omega (arith, some, reach))
      ∙ (ap (λ (l : List ℕ). take size l) cut ∙ take-take size (at - n) (drop n old) most)))

  pub long_after : length (put_over at bytes old) ≡ at + (length bytes + (length old - (at + length bytes)))
  long_after =
      let a : length rest ≡ length old - (at + length bytes) = length-drop (at + length bytes) old in
      let b : length (bytes ++ rest) ≡ length bytes + length rest = length-append bytes rest in
      ap (λ (l : List ℕ). length l) in_parts ∙ (length-append before (bytes ++ rest) ∙ omega (arith, before_long, a, b))

-- ## Writes of one slot each

module _ (size : ℕ) (some : 0 < size) (first : List ℕ) (p : ℕ) where
  record Stands (ws : List Write) : Type 0 where
    has : Has (size * p, piece size p (after_writes first ws)) ws
    long : size * p + size ≤ length (after_writes first ws)

  fits : List ℕ → Type 0
  fits bytes = size * p + size ≤ length bytes

  apart : (w : Write) → IsOfOne size w → w.0 < size * p + size → size * p < w.0 + length w.1 → (slot : ℕ) → w.0 ≡ size * slot → (slot ≡ p → ⊥) → ⊥
  apart w one a b slot place differs =
      let whole : length w.1 ≡ size = one.whole in
      ⊎_elim
      (λ (lt : slot < p). let m : size * (slot + 1) ≤ size * p = mul-le-mul_left size (omega (arith, lt)) in absurd (omega (arith, m, b, whole, place)))
      (λ (ge : p ≤ slot). ⊎_elim
      (λ (lt : p < slot). let m : size * (p + 1) ≤ size * slot = mul-le-mul_left size (omega (arith, lt)) in absurd (omega (arith, m, a, place)))
      (λ (le : slot ≤ p). differs (omega (arith, ge, le)))
      (cases_lt p slot))
      (cases_lt slot p)

  -- a write elsewhere leaves the slot
  elsewhere : (w : Write) (old : List ℕ) → IsOfOne size w → (slot : ℕ) → w.0 ≡ size * slot → (slot ≡ p → ⊥) → size * p + size ≤ length old → piece size p (put_over w.0 w.1 old) ≡ piece size p old
  elsewhere w old one slot place differs long = ⊎_elim
      (λ (lt : slot < p).
      let m : size * (slot + 1) ≤ size * p = mul-le-mul_left size (omega (arith, lt)) in
      let whole : length w.1 ≡ size = one.whole in
      let k : w.0 + (size * p - w.0) ≡ size * p = omega (arith, m, place) in
      ap (λ (n : ℕ). take size (drop n (put_over w.0 w.1 old))) (sym k)
      ∙ (ap (λ (l : List ℕ). take size l) (behind w.0 w.1 old (size * p - w.0) (omega (arith, m, whole, place))) ∙ ap (λ (n : ℕ). take size (drop n old)) k))
      (λ (ge : p ≤ slot). ⊎_elim
      (λ (lt : p < slot). let m : size * (p + 1) ≤ size * slot = mul-le-mul_left size (omega (arith, lt)) in ahead w.0 w.1 old (size * p) size (omega (arith, m, place)) long)
      (λ (le : slot ≤ p). absurd (differs (omega (arith, ge, le))))
      (cases_lt p slot))
      (cases_lt slot p)

  stands : (ws : List Write) → ((w : Write) → Has w ws → IsOfOne size w) → Touches size p ws → Stands ws
  stands [] ones t = absurd t.has
  stands (w ∷ older) ones t = ⊎_elim same (other (stands older (λ x h. ones x (inr h)))) (cases_eq one.slot p)
    where
      one : IsOfOne size w
      one = ones w (inl refl)

      same : one.slot ≡ p → Stands (w ∷ older)
      same e =
          let place : w.0 ≡ size * p = one.place ∙ ap (λ (q : ℕ). size * q) e in
          let whole : length w.1 ≡ size = one.whole in
          let zero : w.0 + 0 ≡ size * p = omega (arith, place) in
          let is : piece size p (put_over w.0 w.1 (after_writes first older)) ≡ w.1 =
          ap (λ (n : ℕ). take size (drop n (put_over w.0 w.1 (after_writes first older)))) (sym zero)
          ∙ (inside w.0 w.1 (after_writes first older) 0 size (omega (arith, whole)) ∙ (ap (λ (n : ℕ). take n w.1) (sym whole) ∙ take-length w.1)) in
          let long = long_after w.0 w.1 (after_writes first older) in
          record { has = inl (λ i. (sym place i, is i)); long = omega (arith, long, place, whole) }

      other : (Touches size p older → Stands older) → (one.slot ≡ p → ⊥) → Stands (w ∷ older)
      other hyp ne =
          let before : Touches size p older = ⊎_elim
          (λ (e : t.write ≡ w). absurd (apart w one (subst (λ (x : Write). x.0 < size * p + size) e t.begins) (subst (λ (x : Write). size * p < x.0 + length x.1) e t.ends) one.slot one.place ne))
          (λ (h : Has t.write older). record { write = t.write; has = h; begins = t.begins; ends = t.ends })
          t.has in
          let s : Stands older = hyp before in
          let l : size * p + size ≤ length (after_writes first older) = s.long in
          let long = long_after w.0 w.1 (after_writes first older) in
          let is : piece size p (put_over w.0 w.1 (after_writes first older)) ≡ piece size p (after_writes first older) = elsewhere w (after_writes first older) one one.slot one.place ne s.long in
          record { has = inr (subst (λ (b : List ℕ). Has (size * p, b) older) (sym is) s.has); long = omega (arith, long, l) }

has_behind : {A : Type 0} (x : A) (xs ys : List A) → Has x ys → Has x (xs ++ ys)
has_behind x [] ys h = h
has_behind x (y ∷ xs) ys h = inr (has_behind x xs ys h)

-- ## What is written

-- a write over it, whole, leaves its bytes there
pub covers : (size p : ℕ) (bytes first : List ℕ) (w : Write) (writes : List Write) → 0 < size → Fills size p bytes w → IsWritten size p bytes first (w ∷ writes)
covers size p bytes first w writes some f =
    let a : w.0 ≤ size * p = f.begins in
    let b : size * p + size ≤ w.0 + length w.1 = f.ends in
    let k : w.0 + (size * p - w.0) ≡ size * p = omega (arith, a) in
    record {
      newer = [];
      older = w ∷ writes;
      split = refl;
      touched = record { write = w; has = inl refl; begins = omega (arith, a, some); ends = omega (arith, b, some) };
      same = f.same ∙ (sym (inside w.0 w.1 (after_writes first writes) (size * p - w.0) size (omega (arith, a, b))) ∙ ap (λ (n : ℕ). take size (drop n (put_over w.0 w.1 (after_writes first writes)))) k);
    }

-- and one more
pub among_more : (size p : ℕ) (bytes first : List ℕ) (write : Write) (writes : List Write) → IsWritten size p bytes first writes → IsWritten size p bytes first (write ∷ writes)
among_more size p bytes first write writes is =
    record { newer = write ∷ is.newer; older = is.older; split = ap (λ (ws : List Write). write ∷ ws) is.split; touched = is.touched; same = is.same }

-- a write of just that place
pub exactly : (size p : ℕ) (bytes first : List ℕ) (writes : List Write) → 0 < size → length bytes ≡ size → Has (size * p, bytes) writes → IsWritten size p bytes first writes
exactly size p bytes first [] some whole has = absurd has
exactly size p bytes first (w ∷ writes) some whole (inl e) = subst (λ (x : Write). IsWritten size p bytes first (x ∷ writes)) e (covers size p bytes first (size * p, bytes) writes some (record {
  begins = omega arith;
  ends = omega (arith, whole);
  same = sym (ap (λ (n : ℕ). take size (drop n bytes)) (let z : size * p - size * p ≡ 0 = omega arith in z) ∙ (ap (λ (n : ℕ). take n bytes) (sym whole) ∙ take-length bytes));
}))
exactly size p bytes first (w ∷ writes) some whole (inr h) = among_more size p bytes first w writes (exactly size p bytes first writes some whole h)

-- nothing is, where nothing was
pub not_written : (size p : ℕ) (bytes first : List ℕ) (writes : List Write) → writes ≡ [] → IsWritten size p bytes first writes → ⊥
not_written size p bytes first writes none is =
    subst (Has is.touched.write) none (subst (Has is.touched.write) is.split (has_behind is.touched.write is.newer is.older is.touched.has))

-- So in a fair image each slot or block whose seal fits is what stood there or just one of the writes.
pub narrow : (size : ℕ) (IsSealed : List ℕ → Type 0) (first : List ℕ) (writes : List Write) (bytes : List ℕ) → 0 < size → ((w : Write) → Has w writes → IsOfOne size w) →
    IsFair size IsSealed first writes bytes → (p : ℕ) → IsSealed (piece size p bytes) → (piece size p bytes ≡ piece size p first) ⊎ Has (size * p, piece size p bytes) writes
narrow size IsSealed first writes bytes some ones fair p sealed = ⊎_elim
    (λ (stood : piece size p bytes ≡ piece size p first). inl stood)
    (λ (l : IsWritten size p (piece size p bytes) first writes).
    let up : (w : Write) → Has w l.older → Has w writes = λ w h. subst (λ (ws : List Write). Has w ws) l.split (has_behind w l.newer l.older h) in
    let s : Stands size some first p l.older = stands size some first p l.older (λ w h. ones w (up w h)) l.touched in
    inr (subst (λ (b : List ℕ). Has (size * p, b) writes) (sym l.same) (up (size * p, piece size p (after_writes first l.older)) s.has)))
    (fair p sealed)
