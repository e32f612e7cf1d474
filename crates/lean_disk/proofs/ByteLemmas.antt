-- Bytes put over others in place.
use Rattle.std.proofs.Common.{◌≡◌, ⊎_elim, ℕ, ◌+◌, ◌-◌, ◌≤◌, ◌<◌, max, List, ◌++◌, length, take, drop, replicate, sym, ◌∙◌, ap, arith, append-nil, length-append}
use Rattle.std.proofs.Math.Seq.{take-append-add}
use Rattle.std.proofs.lemmas.List.{take-append-le, drop-append-le, take_all, drop_all, take-replicate, length-replicate}
use Rattle.std.proofs.lemmas.Bool.{cases_lt}
use Rattle.lean_disk.specs.Area.{put_over}

-- bytes put into a list that was first filled up with zeros
pub put_in_place : (at size : ℕ) (bytes old full new : List ℕ) → size ≡ max (length old) (at + length bytes) → full ≡ take size old ++ replicate (size - length old) 0
    → new ≡ take at full ++ bytes ++ drop (at + length bytes) full → new ≡ put_over at bytes old
put_in_place at size bytes old full new size_is full_is new_is =
    let end : ℕ = at + length bytes in
    let rest : ℕ = size - length old in
    let zeros : List ℕ = replicate rest 0 in
    let whole : full ≡ old ++ zeros = full_is ∙ ap (λ (l : List ℕ). l ++ zeros) (take_all size old (omega arith)) in
    let prefix : take at (old ++ zeros) ≡ take at old ++ replicate (at - length old) 0 = ⊎_elim
    (λ (lt : length old < at).
    let e : at ≡ length old + (at - length old) = omega arith in
    ap (λ (n : ℕ). take n (old ++ zeros)) e ∙ take-append-add old zeros (at - length old)
    ∙ ap (λ (l : List ℕ). old ++ l) (take-replicate (at - length old) rest 0 (omega arith)) ∙ ap (λ (l : List ℕ). l ++ replicate (at - length old) 0) (sym (take_all at old (omega arith))))
    (λ (le : at ≤ length old).
    let none : at - length old ≡ 0 = omega arith in
    take-append-le at old zeros le ∙ sym (ap (λ (n : ℕ). take at old ++ replicate n 0) none ∙ simp (append-nil)))
    (cases_lt (length old) at) in
    let back : drop end (old ++ zeros) ≡ drop end old = ⊎_elim
    (λ (lt : length old < end).
    let few : length (old ++ zeros) ≤ end = omega (arith, length-append old zeros, length-replicate {A = ℕ} rest 0) in
    drop_all end (old ++ zeros) few ∙ sym (drop_all end old (omega arith)))
    (λ (le : end ≤ length old).
    let none : rest ≡ 0 = omega arith in
    drop-append-le end old zeros le ∙ ap (λ (n : ℕ). drop end old ++ replicate n 0) none ∙ simp (append-nil))
    (cases_lt (length old) end) in
    new_is ∙ ap (λ (l : List ℕ). take at l ++ bytes ++ drop end l) whole ∙ ap (λ (l : List ℕ). l ++ bytes ++ drop end (old ++ zeros)) prefix
    ∙ ap (λ (l : List ℕ). (take at old ++ replicate (at - length old) 0) ++ bytes ++ l) back
