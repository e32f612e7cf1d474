-- The last call of a list.
use Rattle.std.proofs.Common.{◌≡◌, ℕ, zero, suc, length, get_or, ◌+◌, ◌≤◌, ◌<◌, Bool, true, false, if◌then◌else◌, List, [], ◌∷◌, ◌++◌, refl, sym, subst, arith}
use Rattle.std.specs.List.{AllByRecursion}
use Rattle.lean_disk.specs.Replay.{last_number, AreOrdered}
use Rattle.lean_disk.specs.declared.area_log.Call.{Call}
use Rattle.lean_disk.specs.Inside.Lists.{all_push, all_weaker}

pub last_push : (cs : List Call) (c : Call) → last_number (cs ++ c ∷ []) ≡ c.number
last_push [] c = refl
last_push (x ∷ []) c = refl
last_push (x ∷ y ∷ cs) c = last_push (y ∷ cs) c

pub last_most : (n : ℕ) (cs : List Call) → AllByRecursion (λ c. c.number ≤ n) cs → last_number cs ≤ n
last_most n [] all = omega arith
last_most n (x ∷ []) all = all.0
last_most n (x ∷ y ∷ cs) all = last_most n (y ∷ cs) all.1

pub ordered_push : (cs : List Call) (c : Call) → last_number cs ≤ c.number → AreOrdered cs → AreOrdered (cs ++ c ∷ [])
ordered_push cs c le ordered =
    let last : last_number (cs ++ c ∷ []) ≡ c.number = last_push cs c in
    subst (λ (n : ℕ). AllByRecursion (λ d. d.number ≤ n) (cs ++ c ∷ [])) (sym last)
    (all_push (λ d. d.number ≤ c.number) cs c (all_weaker (λ d. d.number ≤ last_number cs) (λ d. d.number ≤ c.number) (λ d is. omega (arith, is, le)) cs ordered) (omega arith))

-- a call with the last number, with what holds of each call
pub record Last (P : Call → Type 0) (n : ℕ) : Type 0 where
  pub call : Call
  pub number : call.number ≡ n
  pub holds : P call

pub last_of : (P : Call → Type 0) (cs : List Call) → 0 < last_number cs → AllByRecursion P cs → Last P (last_number cs)
last_of P [] lt all = absurd (omega arith)
last_of P (x ∷ []) lt all = record { call = x; number = refl; holds = all.0 }
last_of P (x ∷ y ∷ cs) lt all = last_of P (y ∷ cs) lt all.1

-- one call more, or none
pub ordered_if : (cs after : List Call) (c : Call) (b : Bool) → after ≡ (if b then cs ++ c ∷ [] else cs) → last_number cs ≤ c.number → AreOrdered cs → AreOrdered after
ordered_if cs after c true is le ordered = subst AreOrdered (sym is) (ordered_push cs c le ordered)
ordered_if cs after c false is le ordered = subst AreOrdered (sym is) ordered

pub last_get : (cs : List Call) (i : ℕ) (d : Call) → i + 1 ≡ length cs → (get_or cs i d).number ≡ last_number cs
last_get [] i d is = absurd (omega arith)
last_get (x ∷ []) zero d is = refl
last_get (x ∷ []) (suc i) d is = absurd (omega arith)
last_get (x ∷ y ∷ cs) zero d is = absurd (omega arith)
last_get (x ∷ y ∷ cs) (suc i) d is = last_get (y ∷ cs) i d (omega arith)
