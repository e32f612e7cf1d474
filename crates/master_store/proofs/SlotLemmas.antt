-- The two master slots: which counts, and what a write of one leaves of the other.
use Rattle.std.proofs.Common.{◌≡◌, ◌⊎◌, ◌≤◌, ◌<◌, ◌+◌, ◌-◌, ◌*◌, ◌%◌, ℕ, zero, suc, Bool, true, false, cond, ltb, List, [], length, Option, Some, None, refl, sym, ap, ◌∙◌, subst, inl, inr, ⊎_elim, arith}
use Rattle.std.proofs.lemmas.Bool.{cases_lt, lt-ltb, le-ltb, cond-true, cond-false}
use Rattle.std.proofs.lemmas.Option.{none-some}
use Rattle.page_store.specs.image_model.Fair.{piece}
use Rattle.lean_disk.specs.Area.{Area, Leaves, torn, IsApart}
use Rattle.page_store.specs.disk_slots.Masters.{IsMaster, IsMasterSlot, master_slot}
use Rattle.page_store.specs.disk_slots.declared.master.Master.{Master}
use Rattle.page_store.proofs.disk_slots.LawLemmas.{every_master}
use Rattle.page_store.specs.disk_image.MasterSlots.{master_in, master_on, newer}
use Rattle.page_store.proofs.disk_image.MasterSlotLemmas.{every_master_in}
use Rattle.page_store.proofs.PieceLemmas.{same_piece, piece_within}
use Rattle.master_store.specs.Masters.{IsOfSlot}

-- ## Of two, the newer

pub master_is : (x y : Master) → Some x ≡ Some y → x ≡ y
master_is x y e = ap or_x e
  where
    or_x : Option Master → Master
    or_x (Some z) = z
    or_x None = x

choice_of : (b : Bool) (x y : Option Master) → (cond b x y ≡ x) ⊎ (cond b x y ≡ y)
choice_of true x y = inl refl
choice_of false x y = inr refl

-- it is one of the two
pub newer_one : (a b : Option Master) (m : Master) → newer a b ≡ Some m → (a ≡ Some m) ⊎ (b ≡ Some m)
newer_one None b m e = inr e
newer_one (Some x) None m e = inl e
newer_one (Some x) (Some y) m e = ⊎_elim (λ q. inr (sym q ∙ e)) (λ q. inl (sym q ∙ e)) (choice_of (ltb x.sequence y.sequence) (Some y) (Some x))

-- there is none where neither is one
newer_none : (a b : Option Master) → newer a b ≡ None → (a ≡ None) × (b ≡ None)
newer_none None b e = (refl, e)
newer_none (Some x) None e = absurd (none-some x (sym e))
newer_none (Some x) (Some y) e = absurd (⊎_elim (λ q. none-some y (sym e ∙ q)) (λ q. none-some x (sym e ∙ q)) (choice_of (ltb x.sequence y.sequence) (Some y) (Some x)))

-- no sequence number is greater
newer_most : (a b : Option Master) (m z : Master) → newer a b ≡ Some m → (a ≡ Some z) ⊎ (b ≡ Some z) → z.sequence ≤ m.sequence
newer_most None b m z e (inl is) = absurd (none-some z is)
newer_most None b m z e (inr is) = let q : z ≡ m = master_is z m (sym is ∙ e) in let p : z.sequence ≡ m.sequence = ap (λ (x : Master). x.sequence) q in omega arith
newer_most (Some x) None m z e (inl is) = let q : z ≡ m = master_is z m (sym is ∙ e) in let p : z.sequence ≡ m.sequence = ap (λ (x : Master). x.sequence) q in omega arith
newer_most (Some x) None m z e (inr is) = absurd (none-some z is)
newer_most (Some x) (Some y) m z e is = ⊎_elim
    (λ (lt : x.sequence < y.sequence).
    let p : y.sequence ≡ m.sequence = ap (λ (k : Master). k.sequence) (master_is y m (sym (cond-true (ltb x.sequence y.sequence) (Some y) (Some x) (lt-ltb x.sequence y.sequence lt)) ∙ e)) in
    ⊎_elim (λ (q : x.sequence ≡ z.sequence). omega (arith, q, lt, p)) (λ (q : y.sequence ≡ z.sequence). omega (arith, q, p)) one)
    (λ (le : y.sequence ≤ x.sequence).
    let p : x.sequence ≡ m.sequence = ap (λ (k : Master). k.sequence) (master_is x m (sym (cond-false (ltb x.sequence y.sequence) (Some y) (Some x) (le-ltb x.sequence y.sequence le)) ∙ e)) in
    ⊎_elim (λ (q : x.sequence ≡ z.sequence). omega (arith, q, p)) (λ (q : y.sequence ≡ z.sequence). omega (arith, q, le, p)) one)
    (cases_lt x.sequence y.sequence)
  where
    one : (x.sequence ≡ z.sequence) ⊎ (y.sequence ≡ z.sequence)
    one = ⊎_elim (λ q. inl (ap (λ (k : Master). k.sequence) (master_is x z q))) (λ q. inr (ap (λ (k : Master). k.sequence) (master_is y z q))) is

-- ## Slots

-- the slot of a master
abbrev pub slot_of : Master → ℕ
slot_of m = m.sequence % 2

-- the master that a slot holds
abbrev pub in_slot : List ℕ → ℕ → Option Master
in_slot bytes k = master_in k (piece 1024 k bytes)

pub is_slot : (k : ℕ) (bytes : List ℕ) (m : Master) → in_slot bytes k ≡ Some m → IsMasterSlot k (piece 1024 k bytes) m
is_slot k bytes m e = (every_master_in k (piece 1024 k bytes) m).0 e

-- it is whole
pub whole_slot : (k : ℕ) (bytes : List ℕ) (m : Master) → in_slot bytes k ≡ Some m → 1024 * k + 1024 ≤ length bytes
whole_slot k bytes m e = piece_within k bytes ((every_master k m).sealed (piece 1024 k bytes) (is_slot k bytes m e)).long

-- the master that counts stands in its slot
pub counts_there : (bytes : List ℕ) (m : Master) → master_on bytes ≡ Some m → in_slot bytes (slot_of m) ≡ Some m
counts_there bytes m e = ⊎_elim
    (λ (h : in_slot bytes 0 ≡ Some m). subst (λ (k : ℕ). in_slot bytes k ≡ Some m) (sym (is_slot 0 bytes m h).holds.parity) h)
    (λ (h : in_slot bytes 1 ≡ Some m). subst (λ (k : ℕ). in_slot bytes k ≡ Some m) (sym (is_slot 1 bytes m h).holds.parity) h)
    (newer_one (in_slot bytes 0) (in_slot bytes 1) m e)

pub is_master : (bytes : List ℕ) (m : Master) → master_on bytes ≡ Some m → IsMaster (slot_of m) m
is_master bytes m e = (is_slot (slot_of m) bytes m (counts_there bytes m e)).holds

-- where none counts, neither slot holds one
pub none_there : (bytes : List ℕ) (k : ℕ) → k < 2 → master_on bytes ≡ None → in_slot bytes k ≡ None
none_there bytes zero lt e = (newer_none (in_slot bytes 0) (in_slot bytes 1) e).0
none_there bytes (suc zero) lt e = (newer_none (in_slot bytes 0) (in_slot bytes 1) e).1
none_there bytes (suc (suc k)) lt e = absurd (omega arith)

pub none_counts : (bytes : List ℕ) (k : ℕ) → k < 2 → in_slot bytes k ≡ None → in_slot bytes (1 - k) ≡ None → master_on bytes ≡ None
none_counts bytes zero lt here other = ap (λ (x : Option Master). newer x (in_slot bytes 1)) here ∙ other
none_counts bytes (suc zero) lt here other = ap (λ (x : Option Master). newer x (in_slot bytes 1)) other ∙ here
none_counts bytes (suc (suc k)) lt here other = absurd (omega arith)

-- no slot holds a later one than that which counts
pub most_there : (bytes : List ℕ) (k : ℕ) (m z : Master) → k < 2 → master_on bytes ≡ Some m → in_slot bytes k ≡ Some z → z.sequence ≤ m.sequence
most_there bytes zero m z lt e is = newer_most (in_slot bytes 0) (in_slot bytes 1) m z e (inl is)
most_there bytes (suc zero) m z lt e is = newer_most (in_slot bytes 0) (in_slot bytes 1) m z e (inr is)
most_there bytes (suc (suc k)) m z lt e is = absurd (omega arith)

-- both slots as they were
pub same_masters : (bytes image : List ℕ) (k : ℕ) → k < 2 → piece 1024 k image ≡ piece 1024 k bytes → piece 1024 (1 - k) image ≡ piece 1024 (1 - k) bytes → master_on image ≡ master_on bytes
same_masters bytes image zero lt here other = ap (λ (x : List ℕ). newer (master_in 0 x) (in_slot image 1)) here ∙ ap (λ (x : List ℕ). newer (in_slot bytes 0) (master_in 1 x)) other
same_masters bytes image (suc zero) lt here other = ap (λ (x : List ℕ). newer (master_in 0 x) (in_slot image 1)) other ∙ ap (λ (x : List ℕ). newer (in_slot bytes 0) (master_in 1 x)) here
same_masters bytes image (suc (suc k)) lt here other = absurd (omega arith)

-- a slot holds it, and the other none
pub alone : (bytes : List ℕ) (k : ℕ) (m : Master) → k < 2 → in_slot bytes k ≡ Some m → in_slot bytes (1 - k) ≡ None → master_on bytes ≡ Some m
alone bytes zero m lt here other = ap (λ (x : Option Master). newer x (in_slot bytes 1)) here ∙ ap (newer (Some m)) other
alone bytes (suc zero) m lt here other = ap (λ (x : Option Master). newer x (in_slot bytes 1)) other ∙ here
alone bytes (suc (suc k)) m lt here other = absurd (omega arith)

-- the other holds a later one
pub later : (bytes : List ℕ) (k : ℕ) (m o : Master) → k < 2 → in_slot bytes k ≡ Some m → in_slot bytes (1 - k) ≡ Some o → m.sequence < o.sequence → master_on bytes ≡ Some o
later bytes zero m o lt here other less =
    ap (λ (x : Option Master). newer x (in_slot bytes 1)) here ∙ ap (newer (Some m)) other ∙ cond-true (ltb m.sequence o.sequence) (Some o) (Some m) (lt-ltb m.sequence o.sequence less)
later bytes (suc zero) m o lt here other less =
    ap (λ (x : Option Master). newer x (in_slot bytes 1)) other ∙ ap (newer (Some o)) here ∙ cond-false (ltb o.sequence m.sequence) (Some m) (Some o) (le-ltb o.sequence m.sequence (omega arith))
later bytes (suc (suc k)) m o lt here other less = absurd (omega arith)

-- ## A master of its slot

pub own_slot : (m : Master) → IsOfSlot m → IsMasterSlot (slot_of m) (master_slot m) m
own_slot m valid = record { holds = subst (λ (k : ℕ). IsMaster k m) (sym valid.1.parity) valid.1; spelled = refl }

pub own_long : (m : Master) → IsOfSlot m → length (master_slot m) ≡ 1024
own_long m valid = ((every_master (slot_of m) m).sealed (master_slot m) (own_slot m valid)).long

-- where its bytes stand, the slot holds it
pub own_there : (m : Master) (bytes : List ℕ) → IsOfSlot m → piece 1024 (slot_of m) bytes ≡ master_slot m → in_slot bytes (slot_of m) ≡ Some m
own_there m bytes valid e = ap (master_in (slot_of m)) e ∙ (every_master_in (slot_of m) (master_slot m) m).1 (own_slot m valid)

-- ## What a crash leaves of the other slot

module _ (area : Area) (clean : area.unsynced ≡ []) (end : area.end ≡ length area.bytes) (k : ℕ) (slot : List ℕ) (long : length slot ≡ 1024) (c : List ℕ) (left : Leaves (torn (1024 * k) slot area) c) (j : ℕ)
    (other : j ≡ k → ⊥) (whole : 1024 * j + 1024 ≤ length area.bytes) where
  aside : (i : ℕ) → 1024 * j ≤ i → i < 1024 * j + 1024 → (i < 1024 * k) ⊎ (1024 * k + length slot ≤ i)
  aside i from to = ⊎_elim
      (λ (l : j < k). inl (omega (arith, l, to)))
      (λ (l : k ≤ j). ⊎_elim (λ (m : k < j). inr (omega (arith, m, from, long))) (λ (m : j ≤ k). absurd (other (omega (arith, l, m)))) (cases_lt k j))
      (cases_lt j k)

  pub torn_stays : piece 1024 j c ≡ piece 1024 j area.bytes
  torn_stays =
      let longer : area.end ≤ length c = left.no_shorter in
      same_piece j c area.bytes (omega (arith, longer, end, whole)) whole
      (λ i from to. left.same i (omega (arith, to, end, whole)) (aside i from to, subst (IsApart i) (sym clean) tt))
