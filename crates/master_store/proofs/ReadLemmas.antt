-- A slot that is read is one that stands there.
use Rattle.std.proofs.Common.{◌≡◌, ◌+◌, ◌-◌, ◌*◌, ◌++◌, List, ℕ, Option, Some, None, codes, drop, length, min, take, refl, sym, ap, subst, ◌∙◌, arith}
use Rattle.page_store.specs.image_model.Fair.{piece}
use Rattle.page_store.specs.Saved.{place_of}
use Rattle.page_store.proofs.PieceLemmas.{read_piece}
use Rattle.page_store.specs.disk_slots.Laws.{EveryMaster}
use Rattle.page_store.specs.disk_slots.Masters.{IsMasterSlot}
use Rattle.page_store.specs.disk_slots.Slots.{IsSealed}
use Rattle.page_store.specs.disk_slots.declared.master.Master.{Master}
use Rattle.page_store.specs.disk_slots.declared.refusal.Refusal.{Refusal}
use Rattle.page_store.specs.disk_slots.declared.refusal.Refusal.TheVariants.{NoSeal, Malformed}
use Rattle.page_store.specs.disk_image.Laws.{EveryMasterIn}
use Rattle.page_store.specs.disk_image.MasterSlots.{master_in}

-- bytes that are refused hold no master
pub no_master : EveryMaster → EveryMasterIn → (slot : ℕ) (bytes : List ℕ) (e : Refusal) → (e ≡ NoSeal → IsSealed (codes "LEANMAST") bytes → ⊥)
    → (e ≡ Malformed → IsSealed (codes "LEANMAST") bytes × ((m : Master) → IsMasterSlot slot bytes m → ⊥)) → None ≡ master_in slot bytes
no_master law in_law slot bytes e unsealed malformed = go (master_in slot bytes) refl
  where
    refused : (r : Refusal) (m : Master) → e ≡ r → IsMasterSlot slot bytes m → ⊥
    refused NoSeal m is at = unsealed is ((law slot m).sealed bytes at)
    refused Malformed m is at = (malformed is).1 m at

    go : (o : Option Master) → master_in slot bytes ≡ o → None ≡ master_in slot bytes
    go None is = sym is
    go (Some m) is = absurd (refused e m refl ((in_law slot bytes m).0 is))

-- what a read gives is what stands in the slot, up to the area's end
pub read_slot : (slot n : ℕ) (bytes before after : List ℕ) → length before ≡ 1024 → n ≡ min (length before) (length bytes - 1024 * slot) → after ≡ take n (drop (1024 * slot) bytes) ++ drop n before → take n after ≡ piece 1024 slot bytes
read_slot slot n bytes before after long count gave =
    let at : 1024 * slot ≡ place_of 0 slot = omega arith in
    let same : 2 * 0 + slot ≡ slot = omega arith in
    subst (λ (k : ℕ). take n after ≡ piece 1024 k bytes) same (read_piece 0 slot n bytes before after long
    (count ∙ ap (λ (k : ℕ). min (length before) (length bytes - k)) at, gave ∙ ap (λ (k : ℕ). take n (drop k bytes) ++ drop n before) at))
