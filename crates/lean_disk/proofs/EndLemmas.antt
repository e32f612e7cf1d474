-- The end of a round: nothing is split off any more.
use Rattle.std.proofs.Common.{◌≡◌, ⊎_elim, ℕ, zero, suc, ◌+◌, ◌≤◌, ◌<◌, Bool, true, List, ◌∷◌, ◌++◌, [], length, max, refl, sym, ◌∙◌, ap, subst, inl, inr, arith, length-append}
use Rattle.std.specs.List.{AllByRecursion}
use Rattle.std.proofs.lemmas.Bool.{cases_lt}
use Rattle.lean_disk.specs.Story.{Crash, LeavesNow}
use Rattle.lean_disk.specs.Replay.{last_number}
use Rattle.lean_disk.specs.Memory.{View, WasAt, Was, IsAround, IsDated, AreDated, kept_story, view_at, slot_view, all_own, late}
use Rattle.lean_disk.specs.Inside.Kept.{now_was}
use Rattle.lean_disk.specs.Inside.Lists.{all_weaker, all_both}
use Rattle.lean_disk.specs.Inside.Newest.{Last, last_of}
use Rattle.lean_disk.specs.Inside.Over.{IsNewest, Reached}
use Rattle.lean_disk.specs.Inside.Slots.{ordered_at}
use Rattle.lean_disk.specs.declared.slot.Slot.{Slot}
use Rattle.lean_disk.proofs.BeginLemmas.{view_prefix, view_last}
use Rattle.lean_disk.proofs.DiskLemmas.{last_in_time}

-- the greatest number, one area more at a time
most_more : (xs : List Slot) (x : Slot) (n : ℕ) → ((a : ℕ) → last_number (view_at xs a).line ≤ n) → last_number (slot_view x).line ≤ n → (a : ℕ) → last_number (view_at (xs ++ x ∷ []) a).line ≤ n
most_more [] x n all le zero = le
most_more [] x n all le (suc a) = omega arith
most_more (y ∷ ys) x n all le zero = all zero
most_more (y ∷ ys) x n all le (suc a) = most_more ys x n (λ b. all (suc b)) le a

pub newest_more : (made n n' : ℕ) (xs : List Slot) (x : Slot) → IsNewest made xs n → n' ≡ max n (last_number (slot_view x).line) → IsNewest made (xs ++ x ∷ []) n'
newest_more made n n' xs x is more =
    let size : length (xs ++ x ∷ []) ≡ length xs + 1 = omega (arith, length-append xs (x ∷ [])) in record {
      least = omega (arith, is.least, more);
      most = most_more xs x n' (λ a. let le : last_number (view_at xs a).line ≤ n = is.most a in omega (arith, le, more)) (omega (arith, more));
      reached = ⊎_elim
          (λ (lt : n < last_number (slot_view x).line). inr (record { area = length xs; inside = omega (arith, size); last = let here : n' ≡ last_number (slot_view x).line = omega (arith, more, lt) in here ∙ ap (λ (v : View). last_number v.line) (sym (view_last xs x (length xs) refl)) }))
          (λ (le : last_number (slot_view x).line ≤ n).
          let same : n' ≡ n = omega (arith, more, le) in
          ⊎_elim (λ e. inl (same ∙ e))
          (λ (r : Reached xs n). inr (record { area = r.area; inside = omega (arith, size, r.inside); last = same ∙ r.last ∙ ap (λ (v : View). last_number v.line) (sym (view_prefix xs x r.area r.inside)) }))
          is.reached)
          (cases_lt n (last_number (slot_view x).line));
    }

module _ (own : Bool) (areas : List Slot) (number made notes n : ℕ) (dated : (b : ℕ) → AllByRecursion (IsDated made 1 notes) (view_at areas b).line) (newest : IsNewest made areas n) where
  all_made : (b : ℕ) → AllByRecursion (λ d. d.number ≤ n) (view_at areas b).line
  all_made b = let le : last_number (view_at areas b).line ≤ n = newest.most b in
      all_weaker (λ d. d.number ≤ last_number (view_at areas b).line) (λ d. d.number ≤ n) (λ d is. omega (arith, is, le)) (view_at areas b).line (ordered_at areas b)

  pub over_dated : all_own own areas ≡ true → AreDated own areas n notes
  over_dated whole b = subst (λ (w : Bool). AllByRecursion (IsDated n (late w) notes) (view_at areas b).line) (sym whole)
      (all_both (λ d. d.number ≤ n) (IsDated made 1 notes) (IsDated n 0 notes) (λ d le is. record { first = is.first; number = omega (arith, le); early = is.early; next = λ lt. absurd (omega (arith, lt, le)) })
      (view_at areas b).line (all_made b) (dated b))

  -- a moment after those before the round has all its calls, and the notes of then
  pub over_now : all_own own areas ≡ true → (m : ℕ) (c : Crash) → (w : Was (view_at areas) n notes m c) → made < w.k → LeavesNow (kept_story (view_at areas) (all_own own areas) number n notes) c
  over_now whole m c w lt = ⊎_elim
      (λ (is : n ≡ made). absurd (omega (arith, is, lt, w.made)))
      (λ (r : Reached areas n).
      let line = (view_at areas r.area).line in
      let bound : last_number line ≤ made + 1 = last_in_time line made 1 notes (omega arith) (dated r.area) in
      let some : 0 < last_number line = omega (arith, r.last, lt, w.made) in
      let last : Last (λ d. IsDated made 1 notes d × IsAround w.k c.notes d) (last_number line) =
      last_of (λ d. IsDated made 1 notes d × IsAround w.k c.notes d) line some (all_both (IsDated made 1 notes) (IsAround w.k c.notes) (λ d. IsDated made 1 notes d × IsAround w.k c.notes d) (λ d p q. (p, q)) line (dated r.area) (w.each r.area).around) in
      let d_dated : IsDated made 1 notes last.call = last.holds.0 in
      let k_is : w.k ≡ n = omega (arith, lt, w.made, r.last, bound) in
      let late_notes : notes ≤ last.call.notes = d_dated.next (omega (arith, last.number, r.last, lt, w.made)) in
      let few_notes : last.call.notes ≤ c.notes = last.holds.1.0 (omega (arith, last.number, r.last, k_is)) in
      let each : (b : ℕ) → WasAt (view_at areas b) n c.notes (c.writes b) (c.image b) = λ b. subst (λ (k : ℕ). WasAt (view_at areas b) k c.notes (c.writes b) (c.image b)) k_is (w.each b) in
      record {
        counts = whole;
        notes = omega (arith, late_notes, few_notes, w.noted);
        writes = λ b. (now_was n c.notes (view_at areas b) (c.writes b) (c.image b) (all_made b) (each b)).0;
        leaves = λ b. (now_was n c.notes (view_at areas b) (c.writes b) (c.image b) (all_made b) (each b)).1;
      })
      newest.reached
