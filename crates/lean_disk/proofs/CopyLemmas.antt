-- Disks that are made area by area, from a list of bytes or from another disk.
use Rattle.std.specs.Prelude.{Vec}
use Rattle.std.specs.declared.alloc.Global.{Global}
use Rattle.std.proofs.Common.{◌≡◌, ℕ, Bool, true, zero, suc, List, [], ◌∷◌, ◌++◌, length, map, refl, sym, ◌∙◌, ap, subst, arith}
use Rattle.lean_disk.specs.Told.{Begins, BeginsAfter}
use Rattle.lean_disk.specs.Area.{Leaves}
use Rattle.lean_disk.specs.Memory.{View, Was, areas_story, area_now, area_after, begun, slot_view, view_at}
use Rattle.lean_disk.specs.Crashed.{left_by}
use Rattle.lean_disk.specs.MemDisk.{bytes_at}
use Rattle.lean_disk.specs.declared.crash.Choice.{Choice}
use Rattle.lean_disk.specs.declared.slot.Slot.{Slot}
use Rattle.lean_disk.proofs.CrashLemmas.{choice_leaves}

-- one area more, as its bytes say
pub bytes_more : (olds : List (Vec ℕ Global)) (news : List Slot) (o : Vec ℕ Global) (n : Slot) → length news ≡ length olds → ((a : ℕ) → view_at news a ≡ begun (bytes_at olds a))
    → slot_view n ≡ begun o.items → (a : ℕ) → view_at (news ++ n ∷ []) a ≡ begun (bytes_at (olds ++ o ∷ []) a)
bytes_more [] [] o n same all here zero = here
bytes_more [] [] o n same all here (suc a) = refl
bytes_more [] (y ∷ news) o n same all here a = absurd (omega arith)
bytes_more (x ∷ olds) [] o n same all here a = absurd (omega arith)
bytes_more (x ∷ olds) (y ∷ news) o n same all here zero = all zero
bytes_more (x ∷ olds) (y ∷ news) o n same all here (suc a) = bytes_more olds news o n (omega arith) (λ b. all (suc b)) here a

-- one area more, as a crash left it
pub crashed_more : (choice : Choice) (m : ℕ) (olds news : List Slot) (o n : Slot) → length news ≡ length olds → ((a : ℕ) → view_at news a ≡ begun (left_by choice m (view_at olds a)))
    → slot_view n ≡ begun (left_by choice m (slot_view o)) → (a : ℕ) → view_at (news ++ n ∷ []) a ≡ begun (left_by choice m (view_at (olds ++ o ∷ []) a))
crashed_more choice m [] [] o n same all here zero = here
crashed_more choice m [] [] o n same all here (suc a) = refl
crashed_more choice m [] (y ∷ news) o n same all here a = absurd (omega arith)
crashed_more choice m (x ∷ olds) [] o n same all here a = absurd (omega arith)
crashed_more choice m (x ∷ olds) (y ∷ news) o n same all here zero = all zero
crashed_more choice m (x ∷ olds) (y ∷ news) o n same all here (suc a) = crashed_more choice m olds news o n (omega arith) (λ b. all (suc b)) here a

-- it begins after a crash
pub begins_after : (own : Bool) (choice : Choice) (m made notes : ℕ) (olds news : List Slot) → ((a : ℕ) → view_at news a ≡ begun (left_by choice m (view_at olds a)))
    → Begins (length olds) (λ a. left_by choice m (view_at olds a)) (areas_story true news 0 0) → BeginsAfter m (areas_story own olds made notes) (areas_story true news 0 0)
begins_after own choice m made notes olds news each begins =
    let bytes_is : (a : ℕ) → ((areas_story true news 0 0).area a).bytes ≡ left_by choice m (view_at olds a) = λ a. ap (λ (v : View). (area_now v).bytes) (each a) in
    record {
      begins = record {
        counts = begins.counts;
        areas = begins.areas;
        area = λ a. begins.area a ∙ ap (λ (l : List ℕ). area_now (begun l)) (sym (bytes_is a));
        notes = begins.notes;
        moment = begins.moment;
      };
      left = λ c (w : Was (view_at olds) made notes m c). record {
        k = w.k;
        at = w.at;
        made = w.made;
        noted = w.noted;
        each = λ a. record {
          around = (w.each a).around;
          writes = (w.each a).writes;
          leaves = λ here. subst (Leaves (area_after w.k (view_at olds a))) (sym (bytes_is a)) (choice_leaves choice w.k c.notes m w.at (view_at olds a) (w.each a).around);
        };
      };
    }

pub map_same : (xs : List (Vec ℕ Global)) → map (λ x. x) xs ≡ xs
map_same [] = refl
map_same (x ∷ xs) = ap (λ (l : List (Vec ℕ Global)). x ∷ l) (map_same xs)
