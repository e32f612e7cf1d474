-- What a crash leaves of the masters of a run.
use Rattle.std.proofs.Common.{◌≡◌, ◌⊎◌, inl, inr, ⊎_elim, ◌≤◌, ◌<◌, ◌+◌, ◌-◌, ◌*◌, ◌%◌, ℕ, zero, suc, ltb, List, ◌∷◌, length, Option, Some, None, codes, refl, sym, ap, ◌∙◌, subst, arith}
use Rattle.std.proofs.lemmas.Bool.{cases_lt, lt-ltb, le-ltb, cond-true, cond-false}
use Rattle.master_store.specs.image_model.Fair.{piece, IsFair}
use Rattle.map_model.specs.Lists.{Has}
use Rattle.lean_disk.specs.Area.{Area, IsApart, Leaves, Write, put_over, synced, torn, written}
use Rattle.master_store.specs.disk_slots.Masters.{IsMaster, IsMasterSlot, master_slot}
use Rattle.master_store.specs.disk_slots.Slots.{IsSealed}
use Rattle.master_store.specs.disk_slots.declared.master.Master.{Master}
use Rattle.master_store.proofs.disk_slots.LawLemmas.{every_master}
use Rattle.master_store.specs.disk_image.MasterSlots.{master_in, master_on, newer}
use Rattle.master_store.proofs.disk_image.MasterSlotLemmas.{every_master_in}
use Rattle.master_store.proofs.page_store.PieceLemmas.{piece_within, same_piece, write_here, write_other, write_size}
use Rattle.master_store.proofs.SlotLemmas.{alone, in_slot, master_is}
use Rattle.worker_log.proofs.RingLemmas.{apart}
use Rattle.disk_runs.specs.Fair.{IsSlotWrite}
use Rattle.disk_runs.specs.Masters.{IsNextOf, MasterStands, slot_of}
use Rattle.disk_runs.proofs.SlotLemmas as slotted

-- the other holds an earlier one
earlier : (bytes : List ℕ) (k : ℕ) (m o : Master) → k < 2 → in_slot bytes k ≡ Some m → in_slot bytes (1 - k) ≡ Some o → o.sequence < m.sequence → master_on bytes ≡ Some m
earlier bytes zero m o lt here other less =
    ap (λ (x : Option Master). newer x (in_slot bytes 1)) here ∙ ap (newer (Some m)) other ∙ cond-false (ltb m.sequence o.sequence) (Some o) (Some m) (le-ltb m.sequence o.sequence (omega arith))
earlier bytes (suc zero) m o lt here other less =
    ap (λ (x : Option Master). newer x (in_slot bytes 1)) other ∙ ap (newer (Some o)) here ∙ cond-true (ltb o.sequence m.sequence) (Some m) (Some o) (lt-ltb o.sequence m.sequence less)
earlier bytes (suc (suc k)) m o lt here other less = absurd (omega arith)

pub is_slot : (k : ℕ) (bytes : List ℕ) (m : Master) → master_in k bytes ≡ Some m → IsMasterSlot k bytes m
is_slot k bytes m e = (every_master_in k bytes m).0 e

pub sealed : (k : ℕ) (bytes : List ℕ) (m : Master) → master_in k bytes ≡ Some m → IsSealed (codes "LEANMAST") bytes
sealed k bytes m e = (every_master k m).sealed bytes (is_slot k bytes m e)

-- As the area of a master stands, but some others may stand there too.
pub record MasterMay (Also : Master → Type 0) (n : Master) (first : List ℕ) (older : List Write) (area : Area) : Type 0 where
  pub since : List Write
  pub own : (w : Write) → Has w since → IsSlotWrite w
  pub there : in_slot area.bytes (slot_of n) ≡ Some n
  pub end : 1024 * slot_of n + 1024 ≤ area.end
  pub late : (range : ℕ × ℕ) → Has range area.unsynced → range ≡ (1024 * (1 - slot_of n), 1024)
  pub old : (k : ℕ) (m : Master) → k < 2 → master_in k (piece 1024 k first) ≡ Some m → (m.sequence ≤ n.sequence) ⊎ Also m
  pub new : (k : ℕ) (bytes : List ℕ) (m : Master) → k < 2 → Has (1024 * k, bytes) since → master_in k bytes ≡ Some m → (m.sequence ≤ n.sequence) ⊎ Also m

module _ (Also : Master → Type 0) (n : Master) (above : (m : Master) → Also m → n.sequence < m.sequence) (first : List ℕ) (older : List Write) (area : Area) (stands : MasterMay Also n first older area) where
  abbrev k : ℕ
  k = slot_of n

  pub half : k < 2
  half = omega arith

  pub whole : 1024 * k + 1024 ≤ length area.bytes
  whole = piece_within k area.bytes (sealed k (piece 1024 k area.bytes) n stands.there).long

  module _ (c : List ℕ) (left : Leaves area c) where
    off : (j : ℕ) → 1024 * k ≤ j → j < 1024 * k + 1024 → IsApart j area.unsynced
    off j from to = apart j area.unsynced (λ range has.
        subst (λ (r : ℕ × ℕ). (j < r.0) ⊎ (r.0 + r.1 ≤ j)) (sym (stands.late range has)) (⊎_elim
        (λ (l : 1 - k < k). inr (omega (arith, l, from)))
        (λ (l : k ≤ 1 - k). inl (let h = half in omega (arith, h, l, to)))
        (cases_lt (1 - k) k)))

    firm : in_slot c k ≡ Some n
    firm = ap (master_in k) (same_piece k c area.bytes (let e = stands.end in let l = left.no_shorter in omega arith) whole (λ j from to. left.same j (let e = stands.end in omega arith) (off j from to))) ∙ stands.there

    -- it counts, or one of the others does
    abbrev Counts : Type 0
    Counts = (master_on c ≡ Some n) ⊎ ((m : Master) × Also m × (master_on c ≡ Some m))

    counts_by : ((m : Master) → in_slot c (1 - k) ≡ Some m → (m.sequence ≤ n.sequence) ⊎ Also m) → Counts
    counts_by may = go (in_slot c (1 - k)) refl
      where
        low : (m : Master) → in_slot c (1 - k) ≡ Some m → m.sequence ≤ n.sequence → master_on c ≡ Some n
        low m e most =
            let parity : m.sequence % 2 ≡ 1 - k = (is_slot (1 - k) (piece 1024 (1 - k) c) m e).holds.parity in
            let apart_so : m.sequence ≡ n.sequence → ⊥ = λ q. (let r : m.sequence % 2 ≡ n.sequence % 2 = ap (λ (z : ℕ). z % 2) q in let h = half in omega arith) in
            earlier c k n m half firm e (omega (arith, most, apart_so))

        go : (o : Option Master) → in_slot c (1 - k) ≡ o → Counts
        go None e = inl (alone c k n half firm e)
        go (Some m) e = ⊎_elim
            (λ most. inl (low m e most))
            (λ also.
            let back : 1 - (1 - k) ≡ k = (let h = half in omega arith) in
            inr (m, also, earlier c (1 - k) m n (let h = half in omega arith) e (subst (λ (i : ℕ). in_slot c i ≡ Some n) (sym back) firm) (above m also)))
            (may m e)

    pub counts : IsFair 1024 (IsSealed (codes "LEANMAST")) first stands.since c → Counts
    counts fair = counts_by (λ m e. ⊎_elim
        (λ (stood : piece 1024 (1 - k) c ≡ piece 1024 (1 - k) first). stands.old (1 - k) m (let h = half in omega arith) (ap (master_in (1 - k)) (sym stood) ∙ e))
        (λ (wrote : Has (1024 * (1 - k), piece 1024 (1 - k) c) stands.since). stands.new (1 - k) (piece 1024 (1 - k) c) m (let h = half in omega arith) wrote e)
        (slotted.in_slot (IsSealed (codes "LEANMAST")) first stands.since c stands.own fair (1 - k) (sealed (1 - k) (piece 1024 (1 - k) c) m e)))

module _ (n : Master) (first : List ℕ) (older : List Write) (area : Area) (stands : MasterStands n first older area) where
  abbrev NoOther : Master → Type 0
  NoOther m = ⊥

  resting : MasterMay NoOther n first older area
  resting = record { since = stands.since; own = stands.own; there = stands.there; end = stands.end; late = stands.late; old = λ k m lt e. inl (stands.old k m lt e); new = λ k b m lt h e. inl (stands.new k b m lt h e) }

  pub holds_master : (c : List ℕ) → Leaves area c → IsFair 1024 (IsSealed (codes "LEANMAST")) first stands.since c → master_on c ≡ Some n
  unfolding resting
  holds_master c left fair = ⊎_elim (λ e. e) (λ other. absurd other.1) (counts NoOther n (λ m no_one. absurd no_one) first older area resting c left fair)

  -- as it reads
  pub reads_master : master_on area.bytes ≡ Some n
  reads_master = go (in_slot area.bytes (1 - slot_of n)) refl
    where
      low : (m : Master) → in_slot area.bytes (1 - slot_of n) ≡ Some m → master_on area.bytes ≡ Some n
      low m e =
          let most = stands.other m e in
          let parity : m.sequence % 2 ≡ 1 - slot_of n = (is_slot (1 - slot_of n) (piece 1024 (1 - slot_of n) area.bytes) m e).holds.parity in
          let apart_so : m.sequence ≡ n.sequence → ⊥ = λ q. (let r : m.sequence % 2 ≡ n.sequence % 2 = ap (λ (z : ℕ). z % 2) q in omega arith) in
          earlier area.bytes (slot_of n) n m (omega arith) stands.there e (omega (arith, most, apart_so))

      go : (o : Option Master) → in_slot area.bytes (1 - slot_of n) ≡ o → master_on area.bytes ≡ Some n
      go None e = alone area.bytes (slot_of n) n (omega arith) stands.there e
      go (Some m) e = low m e

  -- ## The next one is written

  module _ (m : Master) (next : IsNextOf n m) (valid : IsMaster (slot_of m) m) where
    abbrev place : ℕ
    place = 1024 * slot_of m

    abbrev bytes : List ℕ
    bytes = master_slot m

    abbrev IsNew : Master → Type 0
    IsNew o = o ≡ m

    other_slot : slot_of m ≡ 1 - slot_of n
    other_slot = let e = next.sequence in omega arith

    there_m : master_in (slot_of m) bytes ≡ Some m
    there_m = (every_master_in (slot_of m) bytes m).1 (record { holds = valid; spelled = refl })

    long : length bytes ≡ 1024
    long = (sealed (slot_of m) bytes m there_m).long

    within : 1024 * slot_of n + 1024 ≤ length area.bytes
    within = piece_within (slot_of n) area.bytes (sealed (slot_of n) (piece 1024 (slot_of n) area.bytes) n stands.there).long

    reach : place ≤ length area.bytes
    reach = let a = within in let b = other_slot in omega arith

    -- what is written is the next one
    wrote_m : (k : ℕ) (b : List ℕ) (o : Master) → ◌≡◌ {A = Write} (1024 * k, b) (place, bytes) → master_in k b ≡ Some o → o ≡ m
    wrote_m k b o is e =
        let at : 1024 * k ≡ place = ap (λ (w : Write). w.0) is in
        let same : k ≡ slot_of m = omega arith in
        let spelled : b ≡ bytes = ap (λ (w : Write). w.1) is in
        master_is o m (sym (subst (λ (v : List ℕ). master_in (slot_of m) v ≡ Some o) spelled (subst (λ (i : ℕ). master_in i b ≡ Some o) same e)) ∙ there_m)

    own_next : (w : Write) → Has w ((place, bytes) ∷ stands.since) → IsSlotWrite w
    own_next = slotted.own_more (place, bytes) stands.since (record { slot = slot_of m; place = refl; whole = long }) stands.own

    moving : MasterMay IsNew n first older (torn place bytes area)
    moving = record {
      since = (place, bytes) ∷ stands.since;
      own = own_next;
      there = stands.there;
      end = stands.end;
      late = λ range has. ⊎_elim
          (λ (e : ◌≡◌ {A = ℕ × ℕ} range (place, length bytes)). e ∙ (ap (λ (l : ℕ). let r : ℕ × ℕ = (place, l) in r) long ∙ ap (λ (i : ℕ). let r : ℕ × ℕ = (1024 * i, 1024) in r) other_slot))
          (λ was. stands.late range was) has;
      old = λ k o lt e. inl (stands.old k o lt e);
      new = λ k b o lt has e. ⊎_elim (λ (is : ◌≡◌ {A = Write} (1024 * k, b) (place, bytes)). inr (wrote_m k b o is e)) (λ was. inl (stands.new k b o lt was e)) has;
    }

    pub counts_either : (c : List ℕ) → Leaves (torn place bytes area) c → IsFair 1024 (IsSealed (codes "LEANMAST")) first ((place, bytes) ∷ stands.since) c → (master_on c ≡ Some n) ⊎ (master_on c ≡ Some m)
    unfolding moving
    counts_either c left fair = ⊎_elim inl (λ other. inr (other.2 ∙ ap Some other.1))
        (counts IsNew n (λ o e. let q = ap (λ (z : Master). z.sequence) e in let s = next.sequence in omega arith) first older (torn place bytes area) moving c left fair)

    abbrev after : List ℕ
    after = put_over place bytes area.bytes

    pub next_stands : MasterStands m first older (synced (written place bytes area))
    next_stands = record {
      since = (place, bytes) ∷ stands.since;
      own = own_next;
      writes = ap (λ (ws : List Write). (place, bytes) ∷ ws) stands.writes;
      there = ap (master_in (slot_of m)) (write_here place (slot_of m) bytes area.bytes refl long reach) ∙ there_m;
      other = λ o e.
          let back : 1 - slot_of m ≡ slot_of n = (let b = other_slot in omega arith) in
          let kept : piece 1024 (slot_of n) after ≡ piece 1024 (slot_of n) area.bytes = write_other place (slot_of m) bytes area.bytes refl long reach (slot_of n) (λ q. (let b = other_slot in omega arith)) in
          let was : in_slot area.bytes (slot_of n) ≡ Some o = sym (ap (master_in (slot_of n)) kept) ∙ subst (λ (i : ℕ). in_slot after i ≡ Some o) back e in
          let q = ap (λ (z : Master). z.sequence) (master_is o n (sym was ∙ stands.there)) in
          let s = next.sequence in omega arith;
      end = let w = write_size place (slot_of m) bytes area.bytes refl long reach in omega arith;
      late = λ range has. absurd has;
      old = λ k o lt e. let a = stands.old k o lt e in let s = next.sequence in omega arith;
      new = λ k b o lt has e. ⊎_elim
          (λ (is : ◌≡◌ {A = Write} (1024 * k, b) (place, bytes)). let q = ap (λ (z : Master). z.sequence) (wrote_m k b o is e) in omega arith)
          (λ was. let a = stands.new k b o lt was e in let s = next.sequence in omega arith) has;
    }
