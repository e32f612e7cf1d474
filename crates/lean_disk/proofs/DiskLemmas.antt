-- A call on one of a disk's areas, by what it does to the list of areas.
use Rattle.std.proofs.Common.{◌≡◌, inl, inr, ℕ, ◌+◌, ◌≤◌, ◌<◌, Bool, false, if◌then◌else◌, List, length, get_or, set, refl, sym, ◌∙◌, ap, subst, arith}
use Rattle.std.proofs.Math.ListN.{length-set}
use Rattle.std.specs.List.{AllByRecursion}
use Rattle.std.proofs.lemmas.Bool.{cases_eq}
use Rattle.lean_disk.specs.Area.{Area, torn, written, synced}
use Rattle.lean_disk.specs.Story.{Story}
use Rattle.lean_disk.specs.Calls.{Gave, Looked, Wrote, Synced}
use Rattle.lean_disk.specs.Replay.{last_number}
use Rattle.lean_disk.specs.Memory.{View, AreDated, AreInStep, IsDated, area_now, areas_story, kept_story, all_own, late, slot_view, view_at}
use Rattle.lean_disk.specs.Told.{TellsSame}
use Rattle.lean_disk.specs.Inside.Grown.{Grew}
use Rattle.lean_disk.specs.Inside.Kept.{late_most}
use Rattle.lean_disk.specs.Inside.Lists.{all_weaker}
use Rattle.lean_disk.specs.Inside.Newest.{last_most}
use Rattle.lean_disk.specs.Inside.Slots.{view_set_same, view_set_other, view_get, whole_set}
use Rattle.lean_disk.specs.declared.area_log.Call.{Call}
use Rattle.lean_disk.specs.declared.disk.Did.TheVariants as did
use Rattle.lean_disk.specs.declared.disk.Read.{Read}
use Rattle.lean_disk.specs.declared.slot.Slot.{Slot}
use Rattle.lean_disk.proofs.StepLemmas as steps
use Rattle.lean_disk.proofs.TellingLemmas as telling

-- the last call of each area was made by then
pub last_in_time : (line : List Call) (made more notes : ℕ) → more ≤ 1 → AllByRecursion (IsDated made more notes) line → last_number line ≤ made + 1
last_in_time line made more notes le dated = last_most (made + 1) line (all_weaker (IsDated made more notes) (λ c. c.number ≤ made + 1) (λ c d. omega (arith, d.number, le)) line dated)

module _ (own : Bool) (areas : List Slot) (made notes a : ℕ) (y y' : Slot) (lt : a < length areas) (got : y ≡ get_or areas a y) (dated : AreDated own areas made notes) where
  abbrev after : List Slot
  after = set areas a y'

  abbrev old : Story
  old = areas_story own areas made notes

  view_here : view_at areas a ≡ slot_view y
  view_here = view_get areas a y lt ∙ ap slot_view (sym got)

  pub in_time : last_number (slot_view y).line ≤ made + 1
  in_time = subst (λ (v : View). last_number v.line ≤ made + 1) view_here (last_in_time (view_at areas a).line made (late (all_own own areas)) notes (late_most (all_own own areas)) (dated a))

  -- no call was kept
  module _ (same : slot_view y' ≡ slot_view y) where
    pub same_view : (b : ℕ) → view_at after b ≡ view_at areas b
    same_view b = elim (cases_eq b a) [
      | inl is ↦ ap (view_at after) is ∙ view_set_same areas a y' lt ∙ same ∙ sym view_here ∙ ap (view_at areas) (sym is)
      | inr other ↦ view_set_other areas a b y' other
    ]

    same_whole : all_own own after ≡ all_own own areas
    same_whole = ap (λ (h : Bool). if own then h else false) (whole_set areas a y' lt (ap (λ (v : View). v.here) (same ∙ sym view_here)))

    pub same_story : areas_story own after made notes ≡ old
    same_story i = kept_story (λ b. same_view b i) (same_whole i) (length-set areas a y' i) made notes

    pub same_in_step : AreInStep (view_at areas) → AreInStep (view_at after)
    same_in_step all = steps.same_in_step (view_at areas) (view_at after) same_view all

    pub same_dated : AreDated own after made notes
    same_dated b = subst (λ (w : Bool). AllByRecursion (IsDated made (late w) notes) (view_at after b).line) (sym same_whole)
        (subst (λ (v : View). AllByRecursion (IsDated made (late (all_own own areas)) notes) v.line) (sym (same_view b)) (dated b))

  -- a call was kept, which does this to the area
  module _ (then_made : ℕ) (counted : then_made + late (all_own own areas) ≡ made + 1) (does : Area → Area) (grew : Grew (made + 1) notes does (slot_view y) (slot_view y')) where
    abbrev new : Story
    new = areas_story own after then_made notes

    here : Grew (made + 1) notes does (view_at areas a) (view_at after a)
    here = subst (λ (v : View). Grew (made + 1) notes does v (view_at after a)) (sym view_here) (subst (λ (v : View). Grew (made + 1) notes does (slot_view y) v) (sym (view_set_same areas a y' lt)) grew)

    there : (b : ℕ) → (b ≡ a → ⊥) → view_at after b ≡ view_at areas b
    there b other = view_set_other areas a b y' other

    grew_whole : all_own own after ≡ all_own own areas
    grew_whole = ap (λ (h : Bool). if own then h else false) (whole_set areas a y' lt (ap (λ (v : View). v.here) (grew.view) ∙ ap (λ (v : View). v.here) (sym view_here)))

    -- the story by the old list's shape
    new_is : kept_story (view_at after) (all_own own areas) (length areas) then_made notes ≡ new
    new_is i = kept_story (view_at after) (sym grew_whole i) (sym (length-set areas a y') i) then_made notes

    pub grew_dated : AreDated own after then_made notes
    grew_dated b = subst (λ (w : Bool). AllByRecursion (IsDated then_made (late w) notes) (view_at after b).line) (sym grew_whole)
        (telling.grew_dated (view_at areas) (view_at after) (all_own own areas) (length areas) made notes then_made a dated counted does here there b)

    pub grew_in_step : AreInStep (view_at areas) → AreInStep (view_at after)
    grew_in_step all = steps.grew_in_step (view_at areas) (view_at after) made (late (all_own own areas)) notes a does dated here there all

    pub story_looked : (at : ℕ) (before bytes : List ℕ) (result : Read) → ((x : Area) → does x ≡ x) → Gave at (area_now (slot_view y)).bytes before bytes result → Looked a at before bytes result old new
    story_looked at before bytes result nothing gave = subst (λ (s : Story). Looked a at before bytes result old s) new_is
        (telling.story_looked (view_at areas) (view_at after) (all_own own areas) (length areas) made notes then_made a dated counted does here there at before bytes result nothing
        (subst (λ (v : View). Gave at (area_now v).bytes before bytes result) (sym view_here) gave))

    pub story_written : (at : ℕ) (bytes : List ℕ) → ((x : Area) → does x ≡ written at bytes x) → Wrote a at bytes did.Done old new
    story_written at bytes is = subst (λ (s : Story). Wrote a at bytes did.Done old s) new_is
        (telling.story_written (view_at areas) (view_at after) (all_own own areas) (length areas) made notes then_made a dated counted does here there at bytes is)

    pub story_torn : (at : ℕ) (bytes : List ℕ) → ((x : Area) → does x ≡ torn at bytes x) → Wrote a at bytes did.Failed old new
    story_torn at bytes is = subst (λ (s : Story). Wrote a at bytes did.Failed old s) new_is
        (telling.story_torn (view_at areas) (view_at after) (all_own own areas) (length areas) made notes then_made a dated counted does here there at bytes is)

    pub story_synced : ((x : Area) → does x ≡ synced x) → Synced a did.Done old new
    story_synced is = subst (λ (s : Story). Synced a did.Done old s) new_is
        (telling.story_synced (view_at areas) (view_at after) (all_own own areas) (length areas) made notes then_made a dated counted does here there is)

    pub story_not_synced : ((x : Area) → does x ≡ x) → Synced a did.Failed old new
    story_not_synced is = subst (λ (s : Story). Synced a did.Failed old s) new_is
        (telling.story_not_synced (view_at areas) (view_at after) (all_own own areas) (length areas) made notes then_made a dated counted does here there is)

-- the same is told
pub tells_same : (old new : Story) → new ≡ old → TellsSame old new
tells_same old _ is = subst (λ (s : Story). TellsSame old s) (sym is) (record { counts = refl; tells = λ a. refl; areas = refl; area = λ a. refl; notes = refl; moment = refl; past = λ m c left. left; keeps = λ m c left. left })
