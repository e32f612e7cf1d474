-- The slots of a page, before it is saved and after a sync, in each run.
use Rattle.std.proofs.Common.{◌≡◌, not, cond, ℕ, zero, suc, Bool, true, false, List, [], ◌∷◌, length, map, Some, slice_get, refl, sym, ap, subst, ◌∙◌}
use Rattle.btree_descent.specs.core_state.Openings.{Opening}
use Rattle.btree_descent.specs.core_state.Events.{Event}
use Rattle.lean_disk.specs.Moments.{LeavesOnly}
use Rattle.lean_disk.specs.Story.{IsLawful, Story}
use Rattle.lean_disk.specs.declared.disk.Did.{Did}
use Rattle.lean_disk.specs.declared.disk.Did.TheVariants as did
use Rattle.lean_disk.proofs.MomentLemmas.{started}
use Rattle.lean_disk.proofs.MomentLemmas as moments
use Rattle.disk_runs.specs.disk_image.Laws.{EverySealed}
use Rattle.disk_runs.specs.worker_log.Laws.{EveryKept, EveryPrefix}
use Rattle.page_model.specs.Page.{Page}
use Rattle.disk_runs.specs.Stands.{Known, LeavesRun}
use Rattle.disk_runs.specs.PageLaws.{with_late, with_settled}
use Rattle.disk_runs.proofs.StandLemmas.{every_rest}
use Rattle.page_calls.specs.declared.slots.Slot.{Slot}
use Rattle.page_calls.specs.Slots.{saved_slot, settled_slot}
use Rattle.page_calls.specs.Calls.{KeepsMoments, Saves, SavesMoments, SavesOn, SettlesOn}
use Rattle.page_provider.specs.Disks.{IsBeside}
use Rattle.page_provider.specs.Inside.{StandsOn, WritesOn}
use Rattle.page_provider.proofs.Running.{beside_then}

-- ## Slots

settled_late : (s : Slot) → (settled_slot s).late ≡ false
settled_late s = go s.late refl
  where
    go : (b : Bool) → s.late ≡ b → (cond b (record { second = not s.second; late = false }) s).late ≡ false
    go true e = refl
    go false e = e

pub settled_early : (p : ℕ) (ss : List Slot) (s : Slot) → slice_get (map settled_slot ss) p ≡ Some s → s.late ≡ false
settled_early p [] s e = absurd (cc)
settled_early zero (x ∷ xs) s e = let is : s ≡ settled_slot x = cc in ap (λ (y : Slot). y.late) is ∙ settled_late x
settled_early (suc p) (x ∷ xs) s e = settled_early p xs s e

pub saved_length : (p : ℕ) (ss : List Slot) → length (saved_slot p ss) ≡ length ss
saved_length p [] = refl
saved_length zero (x ∷ xs) = refl
saved_length (suc p) (x ∷ xs) = ap suc (saved_length p xs)

-- the count stays over a save, whether it was done or not
pub saved_size : (p : ℕ) (was is : List Slot) (result : Did) → (result ≡ did.Done → is ≡ saved_slot p was) → (result ≡ did.Failed → is ≡ was) → length is ≡ length was
saved_size p was is did.Done done failed = ap length (done refl) ∙ saved_length p was
saved_size p was is did.Failed done failed = ap length (failed refl)

-- ## In each run

pub rest_moments : EveryKept → EveryPrefix → EverySealed → (slots : List Slot) (s : Story) → IsLawful s → KeepsMoments slots s s
rest_moments kept prefixes seals slots s law s0 g es x on = started s (LeavesRun g es s0 x.master) law (λ c now. every_rest kept prefixes seals s s0 g es x on.stands c now)

pub settles_on : {was is : List Slot} {old new : Story} → SettlesOn was is old new → StandsOn was is old new
settles_on k s0 g es x on = (with_settled x, record { master = refl; log = refl; account = refl }, k s0 g es x on)

-- what may be saved may be saved then too
saves_beside : {g : Opening} {es : List Event} {x y : Known} {n : Page} → IsBeside x y → Saves g es x n → Saves g es y n
saves_beside {n = n} b s = record {
  met = s.met;
  stored = subst (λ m. Rattle.disk_runs.specs.disk_slots.Pages.IsPage n.number m.pages n) (sym b.master) s.stored;
  generation = s.generation ∙ sym (ap (λ m. m.generation) b.master);
  contents = s.contents;
  dirty = s.dirty;
}

module _ {was mid : List Slot} {n : Page} {old half new : Story} (first : StandsOn was mid old half) where
  pub writes_on : {is : List Slot} → SavesOn mid is n half new → WritesOn was is n old new
  writes_on k s0 g es x on s =
      let a = first s0 g es x on in
      (with_late a.0 n.number n, beside_then a.1 (record { master = refl; log = refl; account = refl }), k s0 g es a.0 a.2 (saves_beside a.1 s))

  pub writes_moments : KeepsMoments was old half → SavesMoments mid n half new → SavesMoments was n old new
  writes_moments early late s0 g es x on s =
      let a = first s0 g es x on in
      moments.then old half new (LeavesRun g es s0 x.master) (early s0 g es x on) (subst (λ m. LeavesOnly half new (LeavesRun g es s0 m)) a.1.master (late s0 g es a.0 a.2 (saves_beside a.1 s)))
