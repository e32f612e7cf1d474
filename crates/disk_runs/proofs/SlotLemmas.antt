-- What a fair image holds where each write was of one slot.
use Rattle.std.proofs.Common.{◌≡◌, ◌⊎◌, inl, inr, ⊎_elim, ◌+◌, ◌*◌, ℕ, List, ◌∷◌, length, map, [], ◌%◌, refl, ap, ◌∙◌, arith}
use Rattle.map_model.specs.Lists.{Has}
use Rattle.master_store.specs.image_model.Fair.{IsFair, piece}
use Rattle.master_store.proofs.image_model.FairLemmas.{among_more, narrow}
use Rattle.lean_disk.specs.Area.{Write}
use Rattle.master_store.specs.disk_slots.Masters.{master_slot}
use Rattle.master_store.specs.disk_slots.declared.master.Master.{Master}
use Rattle.master_store.specs.page_store.Saved.{AreSaves, Save, write_of}
use Rattle.master_store.proofs.page_store.PieceLemmas.{place_is, slot_size}
use Rattle.master_store.specs.Masters.{IsOfSlot}
use Rattle.master_store.proofs.SlotLemmas.{own_long}
use Rattle.disk_runs.specs.Fair.{IsSlotWrite}

-- a slot whose seal fits is as it was at first, or has the bytes of one of the writes
pub in_slot : (IsSealed : List ℕ → Type 0) (first : List ℕ) (since : List Write) (bytes : List ℕ) → ((w : Write) → Has w since → IsSlotWrite w) → IsFair 1024 IsSealed first since bytes
    → (p : ℕ) → IsSealed (piece 1024 p bytes) → (piece 1024 p bytes ≡ piece 1024 p first) ⊎ Has (1024 * p, piece 1024 p bytes) since
in_slot IsSealed first since bytes own fair =
    narrow 1024 IsSealed first since bytes (omega arith) (λ w has. let o = own w has in record { slot = o.slot; place = o.place; whole = o.whole }) fair

-- an image that is fair stays so with one write more
pub one_more : (size : ℕ) (IsSealed : List ℕ → Type 0) (first : List ℕ) (w : Write) (since : List Write) (bytes : List ℕ) → IsFair size IsSealed first since bytes → IsFair size IsSealed first (w ∷ since) bytes
one_more size IsSealed first w since bytes fair p sealed = ⊎_elim inl (λ h. inr (among_more size p (piece size p bytes) first w since h)) (fair p sealed)

-- with one write more each is of one slot
pub own_more : (w : Write) (since : List Write) → IsSlotWrite w → ((v : Write) → Has v since → IsSlotWrite v) → (v : Write) → Has v (w ∷ since) → IsSlotWrite v
own_more w since is own v (inl e) = record { slot = is.slot; place = ap (λ (z : Write). z.0) e ∙ is.place; whole = ap (λ (z : Write). length z.1) e ∙ is.whole }
own_more w since is own v (inr has) = own v has

-- so it is of a save of a page, and of the write of a master
pub saves_own : (pages : ℕ) (saves : List Save) → AreSaves pages saves → (w : Write) → Has w (map write_of saves) → IsSlotWrite w
saves_own pages [] are w has = absurd has
saves_own pages (s ∷ saves) are w (inl e) =
    let one = are s (inl refl) in
    record { slot = 2 * s.page + s.slot; place = ap (λ (z : Write). z.0) e ∙ place_is s.page s.slot; whole = ap (λ (z : Write). length z.1) e ∙ slot_size pages s.page s.node one.stored }
saves_own pages (s ∷ saves) are w (inr has) = saves_own pages saves (λ t i. are t (inr i)) w has

pub master_own : (m : Master) → IsOfSlot m → IsSlotWrite (1024 * (m.sequence % 2), master_slot m)
master_own m valid = record { slot = m.sequence % 2; place = refl; whole = own_long m valid }
