-- A valid master stands in a slot just where one counts.
use Rattle.std.proofs.Common.{◌≡◌, inl, inr, ⊎_elim, ℕ, List, Some, None, sym, ◌∙◌, arith}
use Rattle.std.proofs.lemmas.Option.{none-some}
use Rattle.master_store.specs.image_model.Fair.{piece}
use Rattle.master_store.specs.disk_slots.declared.master.Master.{Master}
use Rattle.master_store.proofs.disk_slots.LawLemmas.{every_master}
use Rattle.master_store.specs.disk_image.MasterSlots.{master_on}
use Rattle.master_store.proofs.disk_image.MasterSlotLemmas.{every_master_in}
use Rattle.master_store.proofs.SlotLemmas.{in_slot, is_slot, newer_one, none_there}
use Rattle.disk_format.specs.Formatted.{HasMaster, IsMaster}

pub some_master : (bytes : List ℕ) (m : Master) → master_on bytes ≡ Some m → HasMaster bytes
some_master bytes m e = ⊎_elim (λ h. inl (there 0 h)) (λ h. inr (there 1 h)) (newer_one (in_slot bytes 0) (in_slot bytes 1) m e)
  where
    there : (k : ℕ) → in_slot bytes k ≡ Some m → IsMaster k (piece 1024 k bytes)
    there k h = record { sealed = (every_master k m).sealed (piece 1024 k bytes) (is_slot k bytes m h); master = m; is = is_slot k bytes m h }

pub no_master : (bytes : List ℕ) → master_on bytes ≡ None → HasMaster bytes → ⊥
no_master bytes e (inl m) = none-some m.master (sym (none_there bytes 0 (omega arith) e) ∙ (every_master_in 0 (piece 1024 0 bytes) m.master).1 m.is)
no_master bytes e (inr m) = none-some m.master (sym (none_there bytes 1 (omega arith) e) ∙ (every_master_in 1 (piece 1024 1 bytes) m.master).1 m.is)
