-- A page is loaded over a run.
use Rattle.std.proofs.Common.{◌≡◌, ◌<◌, ◌≤◌, ◌-◌, ℕ, Bool, true, false, not, cond, List, Option, Some, None, Result, Ok, Err, IfOk, slice_get, length, refl, sym, ap, subst, ◌∙◌, arith}
use Rattle.std.proofs.lemmas.Option.{same_Some}
use Rattle.page_model.specs.Page.{Page}
use Rattle.disk_runs.specs.core_state.Openings.{Opening}
use Rattle.disk_runs.specs.core_state.Events.{Event}
use Rattle.disk_runs.specs.core_state.Steps.{state_after}
use Rattle.lean_disk.specs.Moments.{AsAt, OnlyReads}
use Rattle.lean_disk.specs.Story.{Crash, Story, Tells}
use Rattle.lean_disk.proofs.MomentLemmas.{weaker}
use Rattle.disk_runs.specs.disk_image.Laws.{EverySealed}
use Rattle.disk_runs.specs.disk_image.PageSlots.{page_in}
use Rattle.disk_runs.specs.disk_image.Shown.{page_slot_in}
use Rattle.disk_runs.specs.page_store.Bases.{image_page}
use Rattle.disk_runs.specs.page_store.Slots.{EverySeal, HasSeal, HoldsIn, IsOf, slot_bytes}
use Rattle.disk_runs.specs.page_store.declared.known.Lost.{Lost}
use Rattle.disk_runs.specs.page_store.declared.known.Lost.TheVariants as lost
use Rattle.disk_runs.specs.page_store.declared.slot.Held.TheVariants as held
use Rattle.disk_runs.specs.page_store.declared.slot.Seal.{Seal}
use Rattle.disk_runs.specs.page_store.declared.slot.Seal.TheVariants as seal
use Rattle.disk_runs.specs.worker_log.Laws.{EveryKept, EveryPrefix}
use Rattle.disk_runs.specs.Pages.{IsFirm, IsSpare, last_saved}
use Rattle.disk_runs.specs.Stands.{Known, LeavesRun, Stands}
use Rattle.disk_runs.proofs.StandLemmas.{every_rest, every_same}
use Rattle.page_calls.specs.declared.slots.Slot.{Slot}
use Rattle.page_calls.specs.Slots.{is_some, last_slot, number_of}
use Rattle.page_calls.specs.Calls.{IsOn, IsSaved, KeepsMoments, LoadsOn, ReadsOn, bounds_of}

-- ## The slot that was written last

-- the slot that is not firm
pub other_number : (o : Bool) (n : ℕ) → n ≡ number_of o → 1 - n ≡ number_of (not o)
other_number true n e = omega arith
other_number false n e = omega arith

-- it holds the page as it was saved last, of no later generation than this
pub record Lasts (pages generation p : ℕ) (bytes : List ℕ) (slot : ℕ) (y : Page) : Type 0 where
  pub there : page_slot_in pages p slot bytes ≡ Some y
  pub low : y.generation ≤ generation

module _ (slots : List Slot) (s : Slot) (p : ℕ) (there : slice_get slots p ≡ Some s) (few : p < length slots) (s0 : Crash) (g : Opening) (es : List Event) (x : Known) (now : Story) (on : IsOn g es s0 x slots now) where
  abbrev bytes : List ℕ
  bytes = (now.area 1).bytes

  within : p < x.master.pages
  within = let a = on.knows.count in omega arith

  firm_is : IsFirm g es x.master.pages x.master.generation p (x.firm p) (now.area 1)
  firm_is = on.stands.pages.firms p within

  pub lasts : Lasts x.master.pages x.master.generation p (now.area 1).bytes (last_slot s) (last_saved (x.firm p) (x.late p))
  lasts = go (x.late p) s.late (on.knows.each p s there).1 (on.stands.pages.spares p within)
    where
      go : (o : Option Page) (l : Bool) → is_some o ≡ l → IsSpare g es x.master.pages x.master.generation p (x.firm p) o (now.area 1)
          → Lasts x.master.pages x.master.generation p (now.area 1).bytes (number_of (cond l (not s.second) s.second)) (last_saved (x.firm p) o)
      go None false e spare = record { there = subst (λ (k : ℕ). page_slot_in x.master.pages p k bytes ≡ Some (x.firm p).page) (on.knows.each p s there).0 firm_is.there; low = firm_is.generation_is }
      go None true e spare = absurd (cc)
      go (Some y) true e spare = record { there = subst (λ (k : ℕ). page_slot_in x.master.pages p k bytes ≡ Some y) (other_number s.second (x.firm p).slot (on.knows.each p s there).0) spare.there; low = (let q = spare.generation_is in omega arith) }
      go (Some y) false e spare = absurd (cc)

  pub saved_is : image_page (last_saved (x.firm p) (x.late p)) ≡ (state_after g es).saved p
  saved_is = on.stands.saved p within

-- ## What is loaded

module _ (slots : List Slot) (s : Slot) (generation p : ℕ) (there : slice_get slots p ≡ Some s) (few : p < length slots) (result : Result Page Lost) (old : Story) where
  abbrev here : List ℕ
  here = slot_bytes p (last_slot s) (old.area 1).bytes

  module _ (s0 : Crash) (g : Opening) (es : List Event) (x : Known) (on : IsOn g es s0 x slots old) (same : x.master.generation ≡ generation) where
    told : Tells old 1
    told = on.stands.tells 1 (omega arith)

    at : Lasts x.master.pages x.master.generation p (old.area 1).bytes (last_slot s) (last_saved (x.firm p) (x.late p))
    at = lasts slots s p there few s0 g es x old on

    read : page_in p (length slots) here ≡ Some (last_saved (x.firm p) (x.late p))
    read = ap (λ (k : ℕ). page_in p k here) on.knows.count ∙ at.there

    loaded : (r : Result Page Lost) → IfOk r (λ y. Tells old 1 → HoldsIn (bounds_of slots generation) p here (held.Page y)) → IfOk r (IsOf (bounds_of slots generation) p) → IfOk r (IsSaved g es generation p)
    loaded (Ok y) is own = record {
      number = own.number;
      generation_is = own.generation;
      contents = ap image_page (same_Some y (last_saved (x.firm p) (x.late p)) (sym (is told).0 ∙ read)) ∙ saved_is slots s p there few s0 g es x old on;
    }
    loaded (Err e) is own = tt

    valid : HasSeal (bounds_of slots generation) p here seal.Valid
    valid = (last_saved (x.firm p) (x.late p), read, (let l = at.low in omega arith))

  pub loads_on : EverySeal → IfOk result (λ y. Tells old 1 → HoldsIn (bounds_of slots generation) p here (held.Page y)) → IfOk result (IsOf (bounds_of slots generation) p)
      → ((counts other : Seal) → result ≡ Err (lost.Damaged counts other) → counts ≡ seal.Valid → ⊥)
      → ((counts other : Seal) → result ≡ Err (lost.Damaged counts other) → Tells old 1 → HasSeal (bounds_of slots generation) p here counts)
      → LoadsOn slots generation p result old
  loads_on one is own never why s0 g es x on same = record {
    saved = loaded s0 g es x on same result is own;
    sound = λ counts other e. never counts other e (one (bounds_of slots generation) p here counts seal.Valid (why counts other e (told s0 g es x on same)) (valid s0 g es x on same));
  }

pub held_is : (s0 : Crash) (g : Opening) (es : List Event) (x : Known) (slots : List Slot) (generation p : ℕ) (slot : Slot) (y : Page) (now : Story) → IsOn g es s0 x slots now → p < length slots → slice_get slots p ≡ Some slot
    → HoldsIn (bounds_of slots generation) p (slot_bytes p (last_slot slot) (now.area 1).bytes) (held.Page y) → image_page y ≡ (state_after g es).saved p
held_is s0 g es x slots generation p slot y now on few there holds =
    let last = lasts slots slot p there few s0 g es x now on in
    let read : page_in p (length slots) (slot_bytes p (last_slot slot) (now.area 1).bytes) ≡ Some (last_saved (x.firm p) (x.late p)) = ap (λ (k : ℕ). page_in p k (slot_bytes p (last_slot slot) (now.area 1).bytes)) on.knows.count ∙ last.there in
    ap image_page (same_Some y (last_saved (x.firm p) (x.late p)) (sym holds.0 ∙ read)) ∙ saved_is slots slot p there few s0 g es x now on

-- ## What is only read

pub reads_on : (slots : List Slot) (old new : Story) → OnlyReads old new → ReadsOn slots old new
reads_on slots old new reads s0 g es x on = record {
  stands = every_same old new s0 g es x on.stands (λ a l. reads.tells a ∙ on.stands.tells a l) (λ a l. reads.area a);
  knows = on.knows;
}

module _ (keeps : EveryKept) (prefixes : EveryPrefix) (seals : EverySealed) (slots : List Slot) (old new : Story) (reads : OnlyReads old new) where
  -- the same story, of a moment at which crashes are told of
  abbrev counting : Story
  counting = record old { counts = true }

  module _ (s0 : Crash) (g : Opening) (es : List Event) (x : Known) (on : IsOn g es s0 x slots old) where
    stands : Stands g es s0 x counting
    stands = record { tells = on.stands.tells; is = on.stands.is; master = on.stands.master; pages = on.stands.pages; saved = on.stands.saved; logs = on.stands.logs }

    leaves : (c : Crash) → AsAt old c → LeavesRun g es s0 x.master c
    leaves c at = every_rest keeps prefixes seals counting s0 g es x stands c (record { counts = refl; notes = at.notes; writes = at.writes; leaves = at.leaves })

  pub reads_moments : KeepsMoments slots old new
  reads_moments s0 g es x on = weaker old new (AsAt old) (LeavesRun g es s0 x.master) (leaves s0 g es x on) reads.any_moment
