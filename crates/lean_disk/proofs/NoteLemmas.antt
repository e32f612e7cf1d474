-- A note of a disk in memory.
use Rattle.std.proofs.Common.{◌≡◌, inl, inr, ⊎_elim, ℕ, ◌+◌, ◌-◌, ◌≤◌, ◌<◌, ◌^◌, min, Bool, true, refl, subst, arith}
use Rattle.std.specs.List.{AllByRecursion}
use Rattle.std.proofs.lemmas.Bool.{cases_lt}
use Rattle.lean_disk.specs.Calls.{Noted}
use Rattle.lean_disk.specs.Memory.{View, IsAround, IsDated, kept_story, late}
use Rattle.lean_disk.specs.Inside.Kept.{now_was, is_not_late}
use Rattle.lean_disk.specs.Inside.Lists.{all_weaker, all_both}

module _ (views : ℕ → View) (whole : Bool) (areas made notes : ℕ) (dated : (b : ℕ) → AllByRecursion (IsDated made (late whole) notes) (views b).line) (is_whole : whole ≡ true) where
  -- all calls have at most the notes of before
  all_made : (k i : ℕ) → notes < i → (b : ℕ) → AllByRecursion (IsAround k i) (views b).line → AllByRecursion (λ c. c.number ≤ k) (views b).line
  all_made k i lt b all = all_both (IsAround k i) (IsDated made (late whole) notes) (λ c. c.number ≤ k)
      (λ c around is. ⊎_elim (λ (l : k < c.number). absurd (let le : i ≤ c.notes = around.1 l in omega (arith, le, is.early, lt))) (λ l. l) (cases_lt k c.number)) (views b).line all (dated b)

  one_more : notes + 1 ≡ min (notes + 1) (2 ^ 64 - 1) → Noted (kept_story views whole areas made notes) (kept_story views whole areas made (notes + 1))
  one_more fits = record {
    later = omega arith;
    counts = refl;
    tells = λ b. refl;
    areas = refl;
    notes = λ counts. fits;
    area = λ b. refl;
    nothing_else = λ m c w. ⊎_elim
        (λ (lt : notes < c.notes). inr (record {
          counts = is_whole;
          notes = omega (arith, lt, w.noted);
          writes = λ b. (now_was w.k c.notes (views b) (c.writes b) (c.image b) (all_made w.k c.notes lt b (w.each b).around) (w.each b)).0;
          leaves = λ b. (now_was w.k c.notes (views b) (c.writes b) (c.image b) (all_made w.k c.notes lt b (w.each b).around) (w.each b)).1;
        }))
        (λ (l : c.notes ≤ notes). inl (record { k = w.k; at = w.at; made = w.made; noted = l; each = w.each }))
        (cases_lt notes c.notes);
    keeps = λ m c w. record { k = w.k; at = w.at; made = w.made; noted = omega (arith, w.noted); each = w.each };
  }

  -- a note more, or as many as can be counted
  pub story_noted : (more : ℕ) → notes < 2 ^ 64 → more ≡ min (notes + 1) (2 ^ 64 - 1) → Noted (kept_story views whole areas made notes) (kept_story views whole areas made more)
  story_noted more fits is = ⊎_elim
      (λ (lt : notes < 18446744073709551615).
      let one : notes + 1 ≡ more = omega (arith, lt, is) in
      subst (λ (n : ℕ). Noted (kept_story views whole areas made notes) (kept_story views whole areas made n)) one (one_more (omega (arith, lt))))
      (λ (ge : 18446744073709551615 ≤ notes).
      let none : notes ≡ more = omega (arith, ge, is, fits) in
      let at_none : Noted (kept_story views whole areas made notes) (kept_story views whole areas made notes) =
      record { later = omega arith; counts = refl; tells = λ b. refl; areas = refl; notes = λ counts. omega (arith, ge, fits); area = λ b. refl; nothing_else = λ m c left. inl left; keeps = λ m c left. left } in
      subst (λ (n : ℕ). Noted (kept_story views whole areas made notes) (kept_story views whole areas made n)) none at_none)
      (cases_lt notes 18446744073709551615)

  pub noted_dated : (more : ℕ) → notes ≤ more → (b : ℕ) → AllByRecursion (IsDated made (late whole) more) (views b).line
  noted_dated more le b =
      let on_time : late whole ≡ 0 = is_not_late whole is_whole in
      all_weaker (IsDated made (late whole) notes) (IsDated made (late whole) more)
      (λ c is. record { first = is.first; number = is.number; early = omega (arith, is.early, le); next = λ lt. absurd (omega (arith, lt, is.number, on_time)) }) (views b).line (dated b)
