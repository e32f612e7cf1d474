-- One of a disk's areas is split off, or comes back, by what that does to the list of areas.
use Rattle.std.proofs.Common.{◌≡◌, ⊎_elim, ℕ, ◌+◌, ◌≤◌, ◌<◌, Bool, true, false, if◌then◌else◌, List, length, get_or, set, refl, sym, ◌∙◌, ap, subst, arith}
use Rattle.std.proofs.Math.ListN.{length-set}
use Rattle.std.specs.List.{AllByRecursion}
use Rattle.std.proofs.lemmas.Bool.{cases_eq}
use Rattle.lean_disk.specs.Story.{Story}
use Rattle.lean_disk.specs.Calls.{Split, Rejoined}
use Rattle.lean_disk.specs.Memory.{View, AreDated, AreInStep, IsDated, LinesInStep, areas_story, part_story, kept_story, all_here, all_own, late, log_view, slot_view, view_at, only, gone}
use Rattle.lean_disk.specs.Inside.Kept.{late_most, is_late}
use Rattle.lean_disk.specs.Inside.Lists.{all_weaker}
use Rattle.lean_disk.specs.Inside.Over.{IsNewest}
use Rattle.lean_disk.specs.Inside.Slots.{view_set_same, view_set_other, view_get, not_whole, out_gone, out_inside}
use Rattle.lean_disk.specs.declared.area_log.AreaLog.{AreaLog}
use Rattle.lean_disk.specs.declared.area_log.Call.{Call}
use Rattle.lean_disk.specs.declared.slot.Slot.{Slot}
use Rattle.lean_disk.specs.declared.slot.Slot.TheVariants.{Here, Out}
use Rattle.lean_disk.proofs.RoundLemmas.{story_split, story_rejoined}
use Rattle.lean_disk.proofs.EndLemmas.{over_dated, over_now}
use Rattle.lean_disk.proofs.StepLemmas.{placed_in_step}

not_own : (own here : Bool) → here ≡ false → (if own then here else false) ≡ false
not_own true here is = is
not_own false here is = refl

-- by the next call
more_dated : (line : List Call) (made more notes : ℕ) → more ≤ 1 → AllByRecursion (IsDated made more notes) line → AllByRecursion (IsDated made 1 notes) line
more_dated line made more notes le dated = all_weaker (IsDated made more notes) (IsDated made 1 notes) (λ c d. record { first = d.first; number = omega (arith, d.number, le); early = d.early; next = d.next }) line dated

module _ (own : Bool) (areas : List Slot) (made notes a : ℕ) (y' : Slot) (lt : a < length areas) (out : y' ≡ Out) (dated : AreDated own areas made notes) where
  abbrev apart : List Slot
  apart = set areas a y'

  gone_here : view_at apart a ≡ gone
  gone_here = view_set_same areas a y' lt ∙ ap slot_view out

  pub split_counts : all_own own apart ≡ false
  split_counts = not_own own (all_here apart) (not_whole apart a (ap (λ (v : View). v.here) gone_here))

  pub split_dated : AreDated own apart made notes
  split_dated b = subst (λ (w : Bool). AllByRecursion (IsDated made (late w) notes) (view_at apart b).line) (sym split_counts)
      (⊎_elim
      (λ (e : b ≡ a). subst (λ (v : View). AllByRecursion (IsDated made 1 notes) v.line) (sym (ap (view_at apart) e ∙ gone_here)) tt)
      (λ other. subst (λ (v : View). AllByRecursion (IsDated made 1 notes) v.line) (sym (view_set_other areas a b y' other)) (more_dated (view_at areas b).line made (late (all_own own areas)) notes (late_most (all_own own areas)) (dated b)))
      (cases_eq b a))

  pub split_in_step : AreInStep (view_at areas) → AreInStep (view_at apart)
  split_in_step all = placed_in_step (view_at areas) (view_at apart) a gone gone_here (λ b other. view_set_other areas a b y' other) tt (λ b. tt) all

  -- what stood there goes with the part
  module _ (y : Slot) (log : AreaLog) (got : y ≡ get_or areas a y) (is : y ≡ Here log) where
    was_here : view_at areas a ≡ log_view log
    was_here = view_get areas a y lt ∙ ap slot_view (sym got) ∙ ap slot_view is

    pub part_dated : AllByRecursion (IsDated made 1 notes) log.calls.items
    part_dated = subst (λ (v : View). AllByRecursion (IsDated made 1 notes) v.line) was_here (more_dated (view_at areas a).line made (late (all_own own areas)) notes (late_most (all_own own areas)) (dated a))

    pub areas_split : Split a (areas_story own areas made notes) (areas_story own apart made notes) (part_story a log made notes)
    areas_split =
        let apart_is : kept_story (view_at apart) false (length areas) made notes ≡ areas_story own apart made notes = λ i. kept_story (view_at apart) (sym split_counts i) (sym (length-set areas a y') i) made notes in
        subst (λ (s : Story). Split a (areas_story own areas made notes) s (part_story a log made notes)) apart_is
        (subst (λ (v : View). Split a (areas_story own areas made notes) (kept_story (view_at apart) false (length areas) made notes) (kept_story (only a v) false 0 made notes)) was_here
        (story_split (view_at areas) (view_at apart) (length areas) made notes a (λ b other. view_set_other areas a b y' other) (all_own own areas) gone_here))

module _ (own own' : Bool) (areas : List Slot) (made notes a part_area part_made part_notes : ℕ) (log : AreaLog) (out : (view_at areas a).here ≡ false) (seat : part_area ≡ a) (same_notes : part_notes ≡ notes)
    (since : part_made + part_notes + 1 ≡ made + notes + late (all_own own areas)) (dated : AreDated own areas made notes) (part_dated : AllByRecursion (IsDated part_made 1 part_notes) log.calls.items) where
  abbrev back : List Slot
  back = set areas a (Here log)

  inside : a < length areas
  inside = out_inside areas a out

  was_apart : all_own own areas ≡ false
  was_apart = not_own own (all_here areas) (not_whole areas a out)

  same_made : part_made ≡ made
  same_made = let one : late (all_own own areas) ≡ 1 = is_late (all_own own areas) was_apart in omega (arith, one, since, same_notes)

  here : view_at back a ≡ log_view log
  here = view_set_same areas a (Here log) inside

  there : (b : ℕ) → (b ≡ a → ⊥) → view_at back b ≡ view_at areas b
  there b other = view_set_other areas a b (Here log) other

  all_dated : (b : ℕ) → AllByRecursion (IsDated made 1 notes) (view_at back b).line
  all_dated b = ⊎_elim
      (λ (e : b ≡ a). subst (λ (v : View). AllByRecursion (IsDated made 1 notes) v.line) (sym (ap (view_at back) e ∙ here))
      (subst (λ (k : ℕ). AllByRecursion (IsDated k 1 notes) log.calls.items) same_made (subst (λ (n : ℕ). AllByRecursion (IsDated part_made 1 n) log.calls.items) same_notes part_dated)))
      (λ other. subst (λ (v : View). AllByRecursion (IsDated made 1 notes) v.line) (sym (there b other))
      (subst (λ (w : Bool). AllByRecursion (IsDated made (late w) notes) (view_at areas b).line) was_apart (dated b)))
      (cases_eq b a)

  old_is : kept_story (view_at areas) false (length areas) made notes ≡ areas_story own areas made notes
  old_is i = kept_story (view_at areas) (sym was_apart i) (length areas) made notes

  part_is : kept_story (only a (log_view log)) false 0 made notes ≡ part_story part_area log part_made part_notes
  part_is i = part_story (sym seat i) log (sym same_made i) (sym same_notes i)

  rejoined_as : (n : ℕ) → Rejoined a (kept_story (view_at areas) false (length areas) made notes) (kept_story (only a (log_view log)) false 0 made notes) (kept_story (view_at back) (all_own own' back) (length areas) n notes)
      → Rejoined a (areas_story own areas made notes) (part_story part_area log part_made part_notes) (areas_story own' back n notes)
  rejoined_as n r =
      let new_is : kept_story (view_at back) (all_own own' back) (length areas) n notes ≡ areas_story own' back n notes = λ i. kept_story (view_at back) (all_own own' back) (sym (length-set areas a (Here log)) i) n notes in
      subst (λ (s : Story). Rejoined a (areas_story own areas made notes) (part_story part_area log part_made part_notes) s) new_is
      (subst (λ (s : Story). Rejoined a (areas_story own areas made notes) s (kept_story (view_at back) (all_own own' back) (length areas) n notes)) part_is
      (subst (λ (s : Story). Rejoined a s (kept_story (only a (log_view log)) false 0 made notes) (kept_story (view_at back) (all_own own' back) (length areas) n notes)) old_is r))

  pub back_in_step : LinesInStep log.calls.items log.calls.items → ((b : ℕ) → LinesInStep log.calls.items (view_at areas b).line) → AreInStep (view_at areas) → AreInStep (view_at back)
  back_in_step itself others all = placed_in_step (view_at areas) (view_at back) a (log_view log) here there itself others all

  -- others are still split off
  pub still_dated : all_own own' back ≡ false → AreDated own' back made notes
  still_dated apart b = subst (λ (w : Bool). AllByRecursion (IsDated made (late w) notes) (view_at back b).line) (sym apart) (all_dated b)

  pub areas_rejoined : Rejoined a (areas_story own areas made notes) (part_story part_area log part_made part_notes) (areas_story own' back made notes)
  areas_rejoined = rejoined_as made (story_rejoined (view_at areas) (view_at back) (length areas) made notes a there (log_view log) (all_own own' back) made (out_gone areas a out) here (omega arith)
      (λ m c w lt. absurd (omega (arith, lt, w.made))))

  -- nothing is split off any more
  module _ (n : ℕ) (whole : all_own own' back ≡ true) (newest : IsNewest made back n) where
    pub end_dated : AreDated own' back n notes
    end_dated = over_dated own' back (length areas) made notes n all_dated newest whole

    pub round_ended : Rejoined a (areas_story own areas made notes) (part_story part_area log part_made part_notes) (areas_story own' back n notes)
    round_ended = rejoined_as n (story_rejoined (view_at areas) (view_at back) (length areas) made notes a there (log_view log) (all_own own' back) n (out_gone areas a out) here newest.least
        (over_now own' back (length areas) made notes n all_dated newest whole))
