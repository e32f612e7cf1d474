-- Calls of all areas keep their order.
use Rattle.std.proofs.Common.{◌≡◌, ⊎_elim, ℕ, zero, suc, ◌+◌, ◌≤◌, Bool, true, false, if◌then◌else◌, nat_le, List, [], ◌∷◌, ◌++◌, get_or, drop, length, ◌<◌, refl, sym, ◌∙◌, ap, subst, arith, add-one, drop-cons}
use Rattle.std.specs.List.{AllByRecursion}
use Rattle.std.proofs.lemmas.Bool.{cases_eq, le-leb}
use Rattle.lean_disk.specs.Area.{Area}
use Rattle.lean_disk.specs.Memory.{View, IsDated, IsInStep, LinesInStep, AreInStep, begun, view_at, slot_view}
use Rattle.lean_disk.specs.Inside.Grown.{Grew}
use Rattle.lean_disk.specs.Inside.Lists.{all_push, all_weaker, all_both}
use Rattle.lean_disk.specs.Inside.Steps.{areas_step, is_no_later, lines_step, stays_own, step_together, steps_with}
use Rattle.lean_disk.specs.declared.area_log.Call.{Call}
use Rattle.lean_disk.specs.declared.slot.Slot.{Slot}

turned : (x y : Call) → IsInStep x y → IsInStep y x
turned x y step = record { up = step.down; down = step.up }

self_step : (x : Call) → IsInStep x x
self_step x = record { up = λ le. omega arith; down = λ le. omega arith }

none : (ys : List Call) → LinesInStep ys []
none [] = tt
none (y ∷ ys) = (tt, none ys)

lines_turned : (xs ys : List Call) → LinesInStep xs ys → LinesInStep ys xs
lines_turned [] ys all = none ys
lines_turned (x ∷ xs) ys all = all_both (IsInStep x) (λ y. AllByRecursion (IsInStep y) xs) (λ y. AllByRecursion (IsInStep y) (x ∷ xs)) (λ y here rest. (turned x y here, rest)) ys all.0 (lines_turned xs ys all.1)

lines_by : (v w v' w' : View) → v' ≡ v → w' ≡ w → LinesInStep v.line w.line → LinesInStep v'.line w'.line
lines_by v w v' w' v_is w_is all = subst (λ (x : View). LinesInStep x.line w'.line) (sym v_is) (subst (λ (y : View). LinesInStep v.line y.line) (sym w_is) all)

-- a disk that begins
pub begin_in_step : (views : ℕ → View) (bytes : ℕ → List ℕ) → ((a : ℕ) → views a ≡ begun (bytes a)) → AreInStep views
begin_in_step views bytes each a b = lines_by (begun (bytes a)) (begun (bytes b)) (views a) (views b) (each a) (each b) tt

-- the same calls
pub same_in_step : (views views' : ℕ → View) → ((b : ℕ) → views' b ≡ views b) → AreInStep views → AreInStep views'
same_in_step views views' same all a b = lines_by (views a) (views b) (views' a) (views' b) (same a) (same b) (all a b)

-- one area has other calls, which are in step with those of the others
pub placed_in_step : (views views' : ℕ → View) (a : ℕ) (v : View) → views' a ≡ v → ((b : ℕ) → (b ≡ a → ⊥) → views' b ≡ views b) → LinesInStep v.line v.line
    → ((b : ℕ) → LinesInStep v.line (views b).line) → AreInStep views → AreInStep views'
placed_in_step views views' a v here there own others all b c = ⊎_elim
    (λ (b_is : b ≡ a). ⊎_elim
    (λ (c_is : c ≡ a). lines_by v v (views' b) (views' c) (ap views' b_is ∙ here) (ap views' c_is ∙ here) own)
    (λ (other : c ≡ a → ⊥). lines_by v (views c) (views' b) (views' c) (ap views' b_is ∙ here) (there c other) (others c))
    (cases_eq c a))
    (λ (apart : b ≡ a → ⊥). ⊎_elim
    (λ (c_is : c ≡ a). lines_by (views b) v (views' b) (views' c) (there b apart) (ap views' c_is ∙ here) (lines_turned v.line (views b).line (others b)))
    (λ (other : c ≡ a → ⊥). lines_by (views b) (views c) (views' b) (views' c) (there b apart) (there c other) (all b c))
    (cases_eq c a))
    (cases_eq b a)

-- the next call is in step with each that was made
next_step : (made more notes : ℕ) (z : Call) → z.number ≡ made + 1 → z.notes ≡ notes → (line : List Call) → AllByRecursion (IsDated made more notes) line → AllByRecursion (IsInStep z) line
next_step made more notes z number is_notes line dated = all_weaker (IsDated made more notes) (IsInStep z)
    (λ y is. record {
      up = λ le. let late_notes : notes ≤ y.notes = is.next (omega (arith, le, number)) in omega (arith, late_notes, is_notes);
      down = λ le. omega (arith, is.early, is_notes);
    }) line dated

pub grew_in_step : (views views' : ℕ → View) (made more notes a : ℕ) (does : Area → Area) → ((b : ℕ) → AllByRecursion (IsDated made more notes) (views b).line) → Grew (made + 1) notes does (views a) (views' a)
    → ((b : ℕ) → (b ≡ a → ⊥) → views' b ≡ views b) → AreInStep views → AreInStep views'
grew_in_step views views' made more notes a does dated grew there all =
    let z : Call = grew.call in
    let line : List Call = (views a).line in
    let next : (b : ℕ) → AllByRecursion (IsInStep z) (views b).line = λ b. next_step made more notes z grew.number grew.notes (views b).line (dated b) in
    let early : LinesInStep line (line ++ z ∷ []) = all_both (λ x. AllByRecursion (IsInStep x) line) (IsInStep z) (λ x. AllByRecursion (IsInStep x) (line ++ z ∷ []))
    (λ x old step. all_push (IsInStep x) line z old (turned z x step)) line (all a a) (next a) in
    placed_in_step views views' a (record (views a) { line = line ++ z ∷ [] }) grew.view there
    (all_push (λ x. AllByRecursion (IsInStep x) (line ++ z ∷ [])) line z early (all_push (IsInStep z) line z (next a) (self_step z)))
    (λ b. all_push (λ x. AllByRecursion (IsInStep x) (views b).line) line z (all a b) (next b)) all

-- what was compared
both : (a b : Bool) → (if a then b else false) ≡ true → (a ≡ true) × (b ≡ true)
both true b is = (refl, is)
both false b is = absurd (cc)

no_later_is : (x y : Call) → is_no_later x y ≡ true → x.number ≤ y.number → x.notes ≤ y.notes
no_later_is x y is le =
    let first : nat_le x.number y.number ≡ true = le-leb x.number y.number le in
    let notes : nat_le x.notes y.notes ≡ true = sym (ap (λ (b : Bool). if b then nat_le x.notes y.notes else true) first) ∙ is in
    grind (arith)

together_is : (x y : Call) → step_together x y ≡ true → IsInStep x y
together_is x y is = let parts = both (is_no_later x y) (is_no_later y x) is in record { up = no_later_is x y parts.0; down = no_later_is y x parts.1 }

with_is : (x : Call) (ys : List Call) → steps_with x ys ≡ true → AllByRecursion (IsInStep x) ys
with_is x [] is = tt
with_is x (y ∷ ys) is = let parts = both (step_together x y) (steps_with x ys) is in (together_is x y parts.0, with_is x ys parts.1)

lines_is : (xs ys : List Call) → lines_step xs ys ≡ true → LinesInStep xs ys
lines_is [] ys is = tt
lines_is (x ∷ xs) ys is = let parts = both (steps_with x ys) (lines_step xs ys) is in (with_is x ys parts.0, lines_is xs ys parts.1)

areas_is : (xs : List Call) (slots : List Slot) → areas_step xs slots ≡ true → (b : ℕ) → LinesInStep xs (view_at slots b).line
areas_is xs [] is b = none xs
areas_is xs (slot ∷ slots) is zero = lines_is xs (slot_view slot).line (both (lines_step xs (slot_view slot).line) (areas_step xs slots) is).0
areas_is xs (slot ∷ slots) is (suc b) = areas_is xs slots (both (lines_step xs (slot_view slot).line) (areas_step xs slots) is).1 b

-- an area that stays the disk's own
pub record IsOwn (own : Bool) (calls : List Call) (slots : List Slot) : Type 0 where
  pub before : own ≡ true
  pub itself : LinesInStep calls calls
  pub others : (b : ℕ) → LinesInStep calls (view_at slots b).line

pub own_is : (own : Bool) (calls : List Call) (slots : List Slot) → stays_own own calls slots ≡ true → IsOwn own calls slots
own_is own calls slots is =
    let outer = both own (if lines_step calls calls then areas_step calls slots else false) is in
    let inner = both (lines_step calls calls) (areas_step calls slots) outer.1 in
    record { before = outer.0; itself = lines_is calls calls inner.0; others = areas_is calls slots inner.1 }

-- one call, or one area, of a list more
pub with_drop : (x : Call) (ys : List Call) (i : ℕ) (d : Call) → i < length ys → steps_with x (drop i ys) ≡ (if step_together x (get_or ys i d) then steps_with x (drop (i + 1) ys) else false)
with_drop x ys i d lt = ap (steps_with x) (drop-cons ys i d lt) ∙ ap (λ (n : ℕ). if step_together x (get_or ys i d) then steps_with x (drop n ys) else false) (sym (add-one i))

pub lines_drop : (xs ys : List Call) (i : ℕ) (d : Call) → i < length xs → lines_step (drop i xs) ys ≡ (if steps_with (get_or xs i d) ys then lines_step (drop (i + 1) xs) ys else false)
lines_drop xs ys i d lt = ap (λ (l : List Call). lines_step l ys) (drop-cons xs i d lt) ∙ ap (λ (n : ℕ). if steps_with (get_or xs i d) ys then lines_step (drop n xs) ys else false) (sym (add-one i))

pub areas_drop : (xs : List Call) (slots : List Slot) (i : ℕ) (d : Slot) → i < length slots
    → areas_step xs (drop i slots) ≡ (if lines_step xs (slot_view (get_or slots i d)).line then areas_step xs (drop (i + 1) slots) else false)
areas_drop xs slots i d lt = ap (areas_step xs) (drop-cons slots i d lt) ∙ ap (λ (n : ℕ). if lines_step xs (slot_view (get_or slots i d)).line then areas_step xs (drop n slots) else false) (sym (add-one i))
