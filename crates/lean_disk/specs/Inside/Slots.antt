-- The areas of a disk in memory, as a list.
use Rattle.std.proofs.Common.{◌≡◌, ⊎_elim, ℕ, zero, suc, ◌<◌, ◌==◌, Bool, true, false, if◌then◌else◌, IsTrue, List, [], ◌∷◌, length, get_or, set, refl, sym, ◌∙◌, ap, subst, arith}
use Rattle.std.specs.List.{AllByRecursion}
use Rattle.std.proofs.lemmas.Bool.{cases_eq}
use Rattle.std.proofs.lemmas.Bool.Decides.{nat_tests}
use Rattle.lean_disk.specs.Replay.{AreOrdered}
use Rattle.lean_disk.specs.Memory.{View, IsDated, gone, only, slot_view, view_at, all_here}
use Rattle.lean_disk.specs.declared.slot.Slot.{Slot}
use Rattle.lean_disk.specs.declared.slot.Slot.TheVariants.{Here, Out}

pub view_set_same : (xs : List Slot) (a : ℕ) (y : Slot) → a < length xs → view_at (set xs a y) a ≡ slot_view y
view_set_same [] a y lt = absurd (omega arith)
view_set_same (x ∷ xs) zero y lt = refl
view_set_same (x ∷ xs) (suc a) y lt = view_set_same xs a y (omega arith)

pub view_set_other : (xs : List Slot) (a b : ℕ) (y : Slot) → (b ≡ a → ⊥) → view_at (set xs a y) b ≡ view_at xs b
view_set_other [] a b y other = refl
view_set_other (x ∷ xs) zero zero y other = absurd (other refl)
view_set_other (x ∷ xs) zero (suc b) y other = refl
view_set_other (x ∷ xs) (suc a) zero y other = refl
view_set_other (x ∷ xs) (suc a) (suc b) y other = view_set_other xs a b y (λ e. other (ap suc e))

pub view_get : (xs : List Slot) (a : ℕ) (d : Slot) → a < length xs → view_at xs a ≡ slot_view (get_or xs a d)
view_get [] a d lt = absurd (omega arith)
view_get (x ∷ xs) zero d lt = refl
view_get (x ∷ xs) (suc a) d lt = view_get xs a d (omega arith)

pub whole_set : (xs : List Slot) (a : ℕ) (y : Slot) → a < length xs → (slot_view y).here ≡ (view_at xs a).here → all_here (set xs a y) ≡ all_here xs
whole_set [] a y lt same = absurd (omega arith)
whole_set (x ∷ xs) zero y lt same = ap (λ (h : Bool). if h then all_here xs else false) same
whole_set (x ∷ xs) (suc a) y lt same = ap (λ (w : Bool). if (slot_view x).here then w else false) (whole_set xs a y (omega arith) same)

pub not_whole : (xs : List Slot) (a : ℕ) → (view_at xs a).here ≡ false → all_here xs ≡ false
not_whole [] a out = cc
not_whole (x ∷ xs) zero out = ap (λ (h : Bool). if h then all_here xs else false) out
not_whole (Here log ∷ xs) (suc a) out = not_whole xs a out
not_whole (Out ∷ xs) (suc a) out = refl

-- where nothing is split off, each area is here
pub each_here : (xs : List Slot) (a : ℕ) → IsTrue (all_here xs) → IsTrue (view_at xs a).here
each_here [] a whole = refl
each_here (Here log ∷ xs) zero whole = refl
each_here (Here log ∷ xs) (suc a) whole = each_here xs a whole
each_here (Out ∷ xs) a whole = absurd (let no : false ≡ true = whole in cc)

pub out_inside : (xs : List Slot) (a : ℕ) → (view_at xs a).here ≡ false → a < length xs
out_inside [] a out = absurd (let no : true ≡ false = out in cc)
out_inside (x ∷ xs) zero out = omega arith
out_inside (x ∷ xs) (suc a) out = let lt : a < length xs = out_inside xs a out in omega (arith, lt)

pub out_gone : (xs : List Slot) (a : ℕ) → (view_at xs a).here ≡ false → view_at xs a ≡ gone
out_gone [] a out = absurd (let no : true ≡ false = out in cc)
out_gone (Here log ∷ xs) zero out = absurd (let no : true ≡ false = out in cc)
out_gone (Out ∷ xs) zero out = refl
out_gone (x ∷ xs) (suc a) out = out_gone xs a out

pub slot_ordered : (x : Slot) → AreOrdered (slot_view x).line
slot_ordered (Here log) = log.ordered
slot_ordered Out = tt

pub ordered_at : (xs : List Slot) (a : ℕ) → AreOrdered (view_at xs a).line
ordered_at [] a = tt
ordered_at (x ∷ xs) zero = slot_ordered x
ordered_at (x ∷ xs) (suc a) = ordered_at xs a

pub only_same : (a : ℕ) (v : View) → only a v a ≡ v
only_same a v = let yes_it : (a == a) ≡ true = grind (arith, nat_tests) in ap (λ (b : Bool). if b then v else gone) yes_it

pub only_other : (a b : ℕ) (v : View) → (b ≡ a → ⊥) → only a v b ≡ gone
only_other a b v other = let not_it : (b == a) ≡ false = grind (arith, nat_tests) in ap (λ (t : Bool). if t then v else gone) not_it

-- a part's calls were made by then
pub only_dated : (a : ℕ) (v : View) (made notes : ℕ) → AllByRecursion (IsDated made 1 notes) v.line → (b : ℕ) → AllByRecursion (IsDated made 1 notes) (only a v b).line
only_dated a v made notes dated b = ⊎_elim
    (λ (is : b ≡ a). subst (λ (w : View). AllByRecursion (IsDated made 1 notes) w.line) (sym (ap (only a v) is ∙ only_same a v)) dated)
    (λ other. subst (λ (w : View). AllByRecursion (IsDated made 1 notes) w.line) (sym (only_other a b v other)) tt)
    (cases_eq b a)
