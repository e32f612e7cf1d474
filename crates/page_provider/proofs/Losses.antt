-- Over a run no page is lost.
use Rattle.std.proofs.Common.{◌≡◌, ◌∙◌, ◌<◌, ◌≤◌, ℕ, true, Result, Ok, Err, IfErr, length, ap, refl, sym, arith}
use Rattle.btree_descent.specs.core_state.Openings.{Opening}
use Rattle.btree_descent.specs.core_state.States.{is_cold}
use Rattle.disk_runs.specs.disk_image.PageSlots.{page_in}
use Rattle.disk_runs.specs.Pages.{last_saved}
use Rattle.disk_runs.specs.Stands.{Known}
use Rattle.lean_disk.specs.Story.{Crash, Story, Tells}
use Rattle.page_calls.specs.Calls.{EveryHeld, IsDamaged, bounds_of}
use Rattle.page_calls.specs.Slots.{last_slot}
use Rattle.page_calls.proofs.Loading.{held_is, lasts}
use Rattle.disk_runs.specs.page_store.Slots.{EverySeal, HasSeal, slot_bytes}
use Rattle.disk_runs.specs.page_store.declared.slot.Seal.{Seal}
use Rattle.disk_runs.specs.page_store.declared.slot.Seal.TheVariants as seal
use Rattle.row_opening.specs.Openings.{EveryReached}
use Rattle.btree_descent.specs.row_words.Openings.{opening}
use Rattle.btree_descent.specs.rows_trait.declared.view.View.{View}
use Rattle.btree_descent.specs.rows_trait.Views.{state}
use Rattle.page_provider.specs.Disks.{Runs, told}
use Rattle.page_provider.specs.Faults.{ColdCause, EveryFound}
use Rattle.page_provider.specs.Providers.{Provider}
use Rattle.page_provider.specs.Refusals.{IsOfRow}
use Rattle.page_provider.specs.declared.refusal.Refusal.{Refusal}
use Rattle.page_provider.specs.declared.refusal.Refusal.TheVariants as refusal
use Rattle.page_provider.proofs.Fetched.{given_kept}
use Rattle.page_provider.proofs.Givings.{given_is}

module _ (s : Story) (g : Opening) (s0 : Crash) (x : Known) (k : Provider) (v : View) (r : Runs g s0 x k v s) where
  tells : Tells s 1
  tells = r.on.stands.tells 1 (omega arith)

  -- the slot that counts is valid
  valid : (page : ℕ) → page < (opening v.given).format.pages → (counts other : Seal) → IsDamaged k.slots k.generation page (s.area 1).bytes counts other → EverySeal → ⊥
  valid page below counts other d one =
      let count = r.on.knows.count in
      let format : g.format.pages ≡ x.master.pages = ap (λ f. f.pages) r.on.stands.is.format in
      let sizes : g.format.pages ≡ (opening v.given).format.pages = ap (λ f. f.pages) r.opens.format in
      let few : page < length k.slots = omega arith in
      let here = slot_bytes page (last_slot d.slot) (s.area 1).bytes in
      let at = lasts k.slots d.slot page d.there few s0 g (told v) x s r.on in
      let low = at.low in
      let same = r.generation in
      let is : HasSeal (bounds_of k.slots k.generation) page here seal.Valid = (last_saved (x.firm page) (x.late page), ap (λ n. page_in page n here) count ∙ at.there, omega arith) in
      d.not_valid (one (bounds_of k.slots k.generation) page here counts seal.Valid d.counts_is is)

held : (s : Story) → EveryHeld s
held s s0 g es x slots generation p slot y on few there holds = held_is s0 g es x slots generation p slot y s on few there holds

pub found_is : (s : Story) → EveryReached → EverySeal → EveryFound s
found_is s reached one g s0 x z k v page refusal.DiskFault c r below cold lost = refl
found_is s reached one g s0 x z k v page (refusal.Damaged p counts other) c r below cold lost = absurd (valid s g s0 x k v r page below counts other (lost.1 (tells s g s0 x k v r)) one)
found_is s reached one g s0 x z k v page (refusal.Altered p) c r below cold lost =
    let a = lost.1 (tells s g s0 x k v r) in
    absurd (a.other (given_kept s z v k page a.found c below cold (given_is s (held s) reached g s0 x k v page below r) a.holds))
found_is s reached one g s0 x z k v page _ c r below cold lost = absurd lost

-- ## Such a page was cold

pub cold_any : {A : Type 0} (v : View) (page : ℕ) → is_cold ((state v).core.place page) ≡ true → (r : Result A Refusal) → IfErr r (ColdCause v page)
cold_any v page cold (Ok a) = tt
cold_any v page cold (Err (refusal.Damaged p counts other)) = cold
cold_any v page cold (Err (refusal.Altered p)) = cold
cold_any v page cold (Err _) = tt

pub cold_row : (v : View) (page : ℕ) (why : Refusal) → IsOfRow why → ColdCause v page why
cold_row v page (refusal.Damaged p counts other) k = absurd k
cold_row v page (refusal.Altered p) k = absurd k
cold_row v page _ k = tt

-- behind a look
pub cold_before : (v u : View) (page : ℕ) → is_cold ((state u).core.place page) ≡ is_cold ((state v).core.place page) → (why : Refusal) → ColdCause u page why → ColdCause v page why
cold_before v u page same (refusal.Damaged p counts other) k = sym same ∙ k
cold_before v u page same (refusal.Altered p) k = sym same ∙ k
cold_before v u page same _ k = tt
