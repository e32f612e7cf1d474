-- Lists of areas that are made one by one.
use Rattle.std.proofs.Common.{◌≡◌, ⊎_elim, ℕ, zero, suc, ◌+◌, ◌≤◌, ◌<◌, Bool, true, false, if◌then◌else◌, List, [], ◌∷◌, ◌++◌, length, get_or, drop, refl, sym, ◌∙◌, ap, subst, arith, add-one, drop-cons}
use Rattle.std.specs.List.{AllByRecursion}
use Rattle.std.proofs.lemmas.Bool.{cases_lt}
use Rattle.lean_disk.specs.Told.{Begins}
use Rattle.lean_disk.specs.Memory.{View, AreDated, IsDated, areas_story, view_at, slot_view, log_view, all_here, late, begun, never, area_now}
use Rattle.lean_disk.specs.declared.area_log.AreaLog.{AreaLog}
use Rattle.lean_disk.specs.declared.slot.Slot.{Slot}

pub view_prefix : (xs : List Slot) (x : Slot) (a : ℕ) → a < length xs → view_at (xs ++ x ∷ []) a ≡ view_at xs a
view_prefix [] x a lt = absurd (omega arith)
view_prefix (y ∷ ys) x zero lt = refl
view_prefix (y ∷ ys) x (suc a) lt = view_prefix ys x a (omega arith)

pub view_last : (xs : List Slot) (x : Slot) (a : ℕ) → a ≡ length xs → view_at (xs ++ x ∷ []) a ≡ slot_view x
view_last [] x zero is = refl
view_last [] x (suc a) is = absurd (omega arith)
view_last (y ∷ ys) x zero is = absurd (omega arith)
view_last (y ∷ ys) x (suc a) is = view_last ys x a (omega arith)

view_beyond : (xs : List Slot) (x : Slot) (a : ℕ) → length xs < a → view_at (xs ++ x ∷ []) a ≡ view_at xs a
view_beyond [] x zero lt = absurd (omega arith)
view_beyond [] x (suc a) lt = refl
view_beyond (y ∷ ys) x zero lt = absurd (omega arith)
view_beyond (y ∷ ys) x (suc a) lt = view_beyond ys x a (omega arith)

-- what holds of each area
pub each_push : (P : ℕ → View → Type 0) (xs : List Slot) (x : Slot) → ((a : ℕ) → P a (view_at xs a)) → P (length xs) (slot_view x) → (a : ℕ) → P a (view_at (xs ++ x ∷ []) a)
each_push P xs x all here a = ⊎_elim
    (λ (lt : a < length xs). subst (P a) (sym (view_prefix xs x a lt)) (all a))
    (λ (le : length xs ≤ a). ⊎_elim
    (λ (lt : length xs < a). subst (P a) (sym (view_beyond xs x a lt)) (all a))
    (λ (ge : a ≤ length xs).
    let is : a ≡ length xs = omega (arith, le, ge) in
    subst (P a) (sym (view_last xs x a is)) (subst (λ (n : ℕ). P n (slot_view x)) (sym is) here))
    (cases_lt (length xs) a))
    (cases_lt a (length xs))

pub whole_push : (xs : List Slot) (x : Slot) → all_here xs ≡ true → (slot_view x).here ≡ true → all_here (xs ++ x ∷ []) ≡ true
whole_push [] x whole here = ap (λ (h : Bool). if h then true else false) here
whole_push (y ∷ ys) x whole here = by_head (slot_view y).here (all_here ys) (all_here (ys ++ x ∷ [])) (λ w. whole_push ys x w here) whole where
  by_head : (h w w' : Bool) → (w ≡ true → w' ≡ true) → (if h then w else false) ≡ true → (if h then w' else false) ≡ true
  by_head true w w' on is = on is
  by_head false w w' on is = cc

pub log_begun : (log : AreaLog) (bytes : List ℕ) → log.first.items ≡ bytes → log.calls.items ≡ [] → log_view log ≡ begun bytes
log_begun log bytes first calls i = record { here = true; first = first i; line = calls i }

module _ (areas : List Slot) (number : ℕ) (bytes : ℕ → List ℕ) (whole : all_here areas ≡ true) (size : length areas ≡ number) (each : (a : ℕ) → view_at areas a ≡ begun (bytes a)) where
  pub begin_dated : AreDated true areas 0 0
  begin_dated a = subst (λ (v : View). AllByRecursion (IsDated 0 (late (all_here areas)) 0) v.line) (sym (each a)) tt

  pub story_begins : Begins number bytes (areas_story true areas 0 0)
  story_begins = record {
    counts = whole;
    areas = size;
    area = λ a. ap area_now (each a);
    notes = refl;
    moment = let on_time : late (all_here areas) ≡ 0 = ap late whole in omega (arith, on_time);
  }

-- whether all from a place on are here
pub whole_drop : (xs : List Slot) (i : ℕ) (d : Slot) → i < length xs → all_here (drop i xs) ≡ (if (slot_view (get_or xs i d)).here then all_here (drop (i + 1) xs) else false)
whole_drop xs i d lt = ap all_here (drop-cons xs i d lt) ∙ ap (λ (n : ℕ). if (slot_view (get_or xs i d)).here then all_here (drop n xs) else false) (sym (add-one i))

pub view_past : (xs : List Slot) (a : ℕ) → length xs ≤ a → view_at xs a ≡ never
view_past [] a le = refl
view_past (x ∷ xs) zero le = absurd (omega arith)
view_past (x ∷ xs) (suc a) le = view_past xs a (omega arith)
