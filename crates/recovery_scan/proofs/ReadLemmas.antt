-- A block as a read gives it.
use Rattle.std.proofs.Common.{◌≡◌, ◌-◌, ◌*◌, ◌++◌, ℕ, suc, List, length, take, drop, min, sym, ◌∙◌, ap, subst, arith}
use Rattle.std.proofs.lemmas.List.{length-drop, length-take-le, take_min}
use Rattle.std.proofs.Math.Seq.{take-append_seam}
use Rattle.disk_image.specs.image_model.Fair.{piece}
use Rattle.lean_disk.specs.Area.{Area}
use Rattle.lean_disk.specs.Story.{Seat, Story, Tells}
use Rattle.lean_disk.specs.Calls.{Looked}
use Rattle.lean_disk.specs.Moments.{OnlyReads}
use Rattle.lean_disk.specs.declared.disk.Read.TheVariants.{Got}

-- the bytes that a read got are those that stand there
pub read-prefix : (size at n : ℕ) (bytes before after : List ℕ) → length before ≡ size → n ≡ min (length before) (length bytes - at) → after ≡ take n (drop at bytes) ++ drop n before
    → take n after ≡ take size (drop at bytes)
read-prefix size at n bytes before after long count gave =
    let xs : List ℕ = take n (drop at bytes) in
    let d : length (drop at bytes) ≡ length bytes - at = length-drop at bytes in
    let there : n ≡ min size (length (drop at bytes)) = omega (arith, count, d, long) in
    let one : length xs ≡ n = length-take-le n (drop at bytes) (omega (arith, there)) in
    ap (take n) gave ∙ (ap (λ (k : ℕ). take k (xs ++ drop n before)) (sym one) ∙ (take-append_seam xs (drop n before)
    ∙ (ap (λ (k : ℕ). take k (drop at bytes)) there ∙ take_min size (drop at bytes))))

-- the bytes that a read got, after reads alone, are those that stood there
pub got : (s0 s s1 : Story) (q0 q : Seat) (w size p n : ℕ) (before after : List ℕ) → OnlyReads s0 s → q ≡ q0 → q0.area ≡ suc w → length before ≡ size → Looked q.area (size * p) before after (Got n) s s1
    → Tells s0 (suc w) → take n after ≡ piece size p (s0.area (suc w)).bytes
got s0 s s1 q0 q w size p n before after reads seat area long looked told =
    let here : q.area ≡ suc w = ap (λ (x : Seat). x.area) seat ∙ area in
    let gave = looked.bytes (subst (Tells s) (sym here) (reads.tells (suc w) ∙ told)) in
    read-prefix size (size * p) n (s.area q.area).bytes before after long gave.0 gave.1
    ∙ ap (λ (x : Area). piece size p x.bytes) (ap s.area here ∙ reads.area (suc w))
