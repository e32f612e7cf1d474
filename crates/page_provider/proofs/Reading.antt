-- A page that was read: in each run over the disk the pager goes on as it was.
use Rattle.std.proofs.Common.{◌≡◌, ℕ, List, Err, Ok, refl, sym, ap, subst, ◌∙◌}
use Rattle.std.specs.Prelude.{Result}
use Rattle.disk_runs.specs.page_store.declared.known.Lost.{Lost}
use Rattle.disk_runs.specs.page_store.declared.known.Lost.TheVariants as lost
use Rattle.lean_disk.specs.Story.{Story, Tells}
use Rattle.page_calls.specs.declared.slots.Slot.{Slot}
use Rattle.page_calls.specs.Calls.{IsDamaged, IsOn, KeepsMoments, ReadsOn}
use Rattle.disk_runs.specs.page_store.declared.slot.Seal.{Seal}
use Rattle.page_provider.specs.Comes.{ReadsWell}
use Rattle.page_provider.specs.Disks.{told}
use Rattle.page_provider.specs.Faults.{LostCause}
use Rattle.page_provider.specs.Providers.{Provider}
use Rattle.page_provider.specs.declared.refusal.Refusal.{Refusal}
use Rattle.page_provider.specs.declared.refusal.Refusal.TheVariants as refusal

-- only whether it is broken may be another
pub reads_well : {k was is : Provider} {old new : Story} → k ≡ was → is.slots ≡ k.slots → is.generation ≡ k.generation → KeepsMoments k.slots old new → ReadsOn k.slots old new → ReadsWell was is old new
reads_well {k = k} {old = old} {new = new} same slots generation moments reads g s0 x v run =
    let on = subst (λ (n : List Slot). IsOn g (told v) s0 x n old) (ap (λ (p : Provider). p.slots) (sym same)) run.on in (
      moments s0 g (told v) x on,
      record {
        opens = run.opens;
        on = subst (λ (n : List Slot). IsOn g (told v) s0 x n new) (sym slots) (reads s0 g (told v) x on);
        generation = run.generation ∙ (ap (λ (p : Provider). p.generation) (sym same) ∙ sym generation);
      },
    )

-- ## Why it did not come

pub damaged : {k now : Provider} {page : ℕ} {counts other : Seal} (s : Story) → k ≡ now → (Tells s 1 → IsDamaged k.slots k.generation page (s.area 1).bytes counts other) → LostCause now page s (refusal.Damaged page counts other)
damaged {page = page} {counts = counts} {other = other} s same found = (refl, λ tells. subst (λ (p : Provider). IsDamaged p.slots p.generation page (s.area 1).bytes counts other) same (found tells))

-- the device did not fail
pub came_unlike : {A E : Type 0} {a : A} {e : E} (r : Result A E) → r ≡ Ok a → r ≡ Err e → ⊥
came_unlike r is failed = cc

pub lost_unlike : {A : Type 0} {l : Lost} {counts other : Seal} (r : Result A Lost) → r ≡ Err l → l ≡ lost.Damaged counts other → r ≡ Err lost.DiskFault → ⊥
lost_unlike r is damage failed = cc

pub damaged_unlike : {A : Type 0} {page : ℕ} {counts other : Seal} (r : Result A Refusal) → r ≡ Err (refusal.Damaged page counts other) → r ≡ Err refusal.DiskFault → ⊥
damaged_unlike r is failed = cc

pub altered_unlike : {A : Type 0} {page : ℕ} (r : Result A Refusal) → r ≡ Err (refusal.Altered page) → r ≡ Err refusal.DiskFault → ⊥
altered_unlike r is failed = cc
