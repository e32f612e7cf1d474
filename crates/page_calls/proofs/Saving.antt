-- A page is saved, and saves are synced, over a run.
use Rattle.std.proofs.Common.{◌≡◌, ◌<◌, ◌≤◌, ◌-◌, ℕ, Bool, true, false, List, map, Option, Some, None, slice_get, length, refl, sym, ap, subst, ◌∙◌, arith, inl, inr, true≢false}
use Rattle.std.proofs.lemmas.Bool.{cases_eq}
use Rattle.page_model.specs.Page.{Page}
use Rattle.disk_runs.specs.core_state.Openings.{Opening}
use Rattle.disk_runs.specs.core_state.Events.{Event}
use Rattle.disk_runs.specs.core_state.Steps.{state_after}
use Rattle.lean_disk.specs.Calls.{Synced, Wrote}
use Rattle.lean_disk.specs.Moments.{CrashIn}
use Rattle.lean_disk.proofs.MomentLemmas.{crash_in, framed, framed_wrote, goes_on, started}
use Rattle.lean_disk.specs.Story.{Crash, IsLawful, Story}
use Rattle.lean_disk.specs.declared.disk.Did.{Did}
use Rattle.lean_disk.specs.declared.disk.Did.TheVariants as did
use Rattle.disk_runs.specs.disk_image.Laws.{EverySealed}
use Rattle.disk_runs.specs.disk_slots.Pages.{page_slot}
use Rattle.disk_runs.specs.page_store.Bases.{image_page}
use Rattle.disk_runs.specs.page_store.Saved.{place_of}
use Rattle.disk_runs.specs.worker_log.Laws.{EveryKept, EveryPrefix}
use Rattle.disk_runs.specs.core_disk.Versions.{EveryVersion}
use Rattle.disk_runs.specs.Pages.{IsBehind, last_saved}
use Rattle.disk_runs.specs.PageLaws.{IsSave}
use Rattle.disk_runs.specs.PageLaws as disk
use Rattle.disk_runs.specs.Stands.{Known}
use Rattle.disk_runs.proofs.SaveStandLemmas.{every_save, every_settled}
use Rattle.page_calls.specs.declared.slots.Slot.{Slot}
use Rattle.page_calls.specs.Slots.{number_of, is_some, settled_slot, saved_slot}
use Rattle.page_calls.specs.Calls.{Anything, IsOn, Saves, KeepsMoments, KeepsWithin, SavesMoments, SavesOn, SettlesOn}
use Rattle.page_calls.proofs.Knowing.{knows_saved, knows_settled}

is_none : (o : Option Page) → is_some o ≡ false → o ≡ None
is_none None e = refl
is_none (Some y) e = absurd (true≢false e)

-- what is dirty counts before what is firm
behind : (a y : Page) → a.generation ≤ y.generation → a.gsn < y.gsn → IsBehind a y
behind a y g n = elim (cases_eq a.generation y.generation) [ inl e ↦ inr (e, n) | inr ne ↦ inl (omega arith) ]

module _ (slots : List Slot) (s : Slot) (y : Page) (there : slice_get slots y.number ≡ Some s) (early : s.late ≡ false) (few : y.number < length slots) where
  module _ (s0 : Crash) (g : Opening) (es : List Event) (x : Known) (now : Story) (on : IsOn g es s0 x slots now) (c : Saves g es x y) where
    abbrev p : ℕ
    p = y.number

    within : p < x.master.pages
    within = let a = on.knows.count in omega arith

    not_late : x.late p ≡ None
    not_late = is_none (x.late p) ((on.knows.each p s there).1 ∙ early)

    -- the firm page is what the state has saved
    firm_is : image_page (x.firm p).page ≡ (state_after g es).saved p
    firm_is = ap (λ o. image_page (last_saved (x.firm p) o)) (sym not_late) ∙ on.stands.saved p within

    pub is_save : IsSave g es x p y
    is_save = record {
      within = within;
      met = c.met;
      stored = c.stored;
      generation = c.generation;
      contents = c.contents;
      newer = behind (x.firm p).page y (let a = (on.stands.pages.firms p within).generation_is in let b = c.generation in omega arith) (let a = c.dirty in let b = ap (λ q. q.gsn) firm_is in omega arith);
    }

    pub firm_slot : (x.firm p).slot ≡ number_of s.second
    firm_slot = (on.knows.each p s there).0

  -- the other slot was written
  module _ (keeps : EveryKept) (prefixes : EveryPrefix) (seals : EverySealed) (versions : EveryVersion) (old new : Story) (law : IsLawful old) (slot : ℕ) (other : 1 - number_of s.second ≡ slot) (result : Did) (wrote : Wrote 1 (place_of y.number slot) (page_slot y) result old new) where
    at : (s0 : Crash) (g : Opening) (es : List Event) (x : Known) → IsOn g es s0 x slots old → Saves g es x y → disk.Saves g es s0 x y.number y result old new
    at s0 g es x on c = every_save keeps prefixes seals versions old new s0 g es x y.number y result on.stands law (is_save s0 g es x old on c)
        (subst (λ k. Wrote 1 (place_of y.number k) (page_slot y) result old new) (sym (ap (λ k. 1 - k) (firm_slot s0 g es x old on c) ∙ other)) wrote)

    pub keeps_moments : SavesMoments slots y old new
    keeps_moments s0 g es x on c = (at s0 g es x on c).any_moment

    pub saves_on : result ≡ did.Done → SavesOn slots (saved_slot y.number slots) y old new
    saves_on done s0 g es x on c = record { stands = (at s0 g es x on c).after done; knows = knows_saved slots x y.number y on.knows }

module _ (keeps : EveryKept) (prefixes : EveryPrefix) (seals : EverySealed) (versions : EveryVersion) (slots : List Slot) (old new : Story) (law : IsLawful old) (result : Did) (synced : Synced 1 result old new) where
  pub settles_moments : KeepsMoments slots old new
  settles_moments s0 g es x on = (every_settled keeps prefixes seals versions old new s0 g es x result on.stands law synced).any_moment

  pub settles_on : result ≡ did.Done → SettlesOn slots (map settled_slot slots) old new
  settles_on done s0 g es x on = record { stands = (every_settled keeps prefixes seals versions old new s0 g es x result on.stands law synced).after done; knows = knows_settled slots x on.knows }

-- the call stays within the area
pub wrote_within : (at : ℕ) (bytes : List ℕ) (result : Did) (old new : Story) → IsLawful old → Wrote 1 at bytes result old new → KeepsWithin old new
wrote_within at bytes result old new law wrote =
    goes_on old old new (CrashIn old 1 Anything) (started old (CrashIn old 1 Anything) law (λ c now. crash_in 1 old old Anything c (framed 1 old) now tt)) wrote.time
    (λ c now. crash_in 1 old new Anything c (framed_wrote 1 at bytes result old old new (framed 1 old) wrote) now tt)

-- the slot that is not this one
pub other_of : (second : Bool) (slot : ℕ) → (second ≡ true → slot ≡ 0) → (second ≡ false → slot ≡ 1) → 1 - number_of second ≡ slot
other_of true slot a b = sym (a refl)
other_of false slot a b = sym (b refl)
