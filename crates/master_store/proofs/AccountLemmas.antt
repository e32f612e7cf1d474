-- The masters of an account, and what the write of the next one leaves.
use Rattle.std.proofs.Common.{◌≡◌, ◌⊎◌, ◌≤◌, ◌<◌, ◌+◌, ◌-◌, ◌*◌, ℕ, suc, List, [], ◌∷◌, length, Option, Some, None, codes, refl, sym, ap, ◌∙◌, subst, inl, inr, ⊎_elim, arith}
use Rattle.std.proofs.lemmas.Option.{none-some}
use Rattle.std.proofs.lemmas.Bool.{cases_eq}
use Rattle.map_model.specs.Lists.{Has}
use Rattle.page_store.specs.image_model.Fair.{piece, IsFair, IsWritten}
use Rattle.page_store.proofs.image_model.FairLemmas.{IsOfOne, among_more, exactly, narrow}
use Rattle.lean_disk.specs.Area.{Area, Leaves, Write, put_over, synced, torn, written}
use Rattle.page_store.specs.disk_slots.Masters.{master_slot}
use Rattle.page_store.specs.disk_slots.Slots.{IsSealed}
use Rattle.page_store.specs.disk_slots.declared.master.Master.{Master}
use Rattle.page_store.proofs.disk_slots.LawLemmas.{every_master}
use Rattle.page_store.specs.disk_image.MasterSlots.{master_in, master_on}
use Rattle.page_store.proofs.PieceLemmas.{write_here, write_other}
use Rattle.master_store.specs.Laws.{EverySettled}
use Rattle.master_store.specs.Masters.{Account, AreInTurn, IsKept, IsNextOf, IsOfSlot, LeavesMasters, WritesOnce, counted, next_sequence, wrote, writes_of}
use Rattle.master_store.proofs.SlotLemmas.{alone, counts_there, in_slot, is_slot, later, master_is, most_there, none_counts, none_there, own_long, own_there, slot_of, torn_stays, whole_slot}

abbrev IsSealedMaster : List ℕ → Type 0
IsSealedMaster = IsSealed (codes "LEANMAST")

-- ## Writes of masters

abbrev write_of : Master → Write
write_of m = (1024 * slot_of m, master_slot m)

record IsWriteOf (ms : List Master) (w : Write) : Type 0 where
  master : Master
  has : Has master ms
  is : w ≡ write_of master

write_has : (ms : List Master) (w : Write) → Has w (writes_of ms) → IsWriteOf ms w
write_has [] w h = absurd h
write_has (m ∷ ms) w (inl e) = record { master = m; has = inl refl; is = e }
write_has (m ∷ ms) w (inr h) = let one : IsWriteOf ms w = write_has ms w h in record { master = one.master; has = inr one.has; is = one.is }

abbrev AreOfSlots : List Master → Type 0
AreOfSlots ms = (m : Master) → Has m ms → IsOfSlot m

in_turn : (first : List ℕ) (ms : List Master) → AreInTurn first ms → AreOfSlots ms
in_turn first [] turns m h = absurd h
in_turn first (x ∷ ms) turns m (inl e) = subst IsOfSlot (sym e) turns.0.valid
in_turn first (x ∷ ms) turns m (inr h) = in_turn first ms turns.1 m h

-- ## What a slot of a fair image holds

module _ (first : List ℕ) where
  -- one of the masters whose slot it is, or what it held at first
  abbrev IsKnown : List Master → ℕ → Master → Type 0
  IsKnown ms k z = (in_slot first k ≡ Some z) ⊎ (Has z ms × (slot_of z ≡ k))

  fair_known : (ms : List Master) (image : List ℕ) → AreOfSlots ms → IsFair 1024 IsSealedMaster first (writes_of ms) image → (k : ℕ) (z : Master) → in_slot image k ≡ Some z → IsKnown ms k z
  fair_known ms image valid fair k z e = ⊎_elim
      (λ (q : piece 1024 k image ≡ piece 1024 k first). inl (ap (master_in k) (sym q) ∙ e))
      (λ (h : Has (1024 * k, piece 1024 k image) (writes_of ms)). inr (known (write_has ms (1024 * k, piece 1024 k image) h)))
      (narrow 1024 IsSealedMaster first (writes_of ms) image (omega arith) ones fair k ((every_master k z).sealed (piece 1024 k image) (is_slot k image z e)))
    where
      ones : (w : Write) → Has w (writes_of ms) → IsOfOne 1024 w
      ones w h =
          let one : IsWriteOf ms w = write_has ms w h in
          record { slot = slot_of one.master; place = ap (λ (x : Write). x.0) one.is; whole = ap (λ (x : Write). length x.1) one.is ∙ own_long one.master (valid one.master one.has) }

      known : IsWriteOf ms (1024 * k, piece 1024 k image) → Has z ms × (slot_of z ≡ k)
      known one =
          let y : Master = one.master in
          let place : 1024 * k ≡ 1024 * slot_of y = ap (λ (x : Write). x.0) one.is in
          let same : slot_of y ≡ k = omega (arith, place) in
          let bytes : piece 1024 k image ≡ master_slot y = ap (λ (x : Write). x.1) one.is in
          let there : in_slot image (slot_of y) ≡ Some y = own_there y image (valid y one.has) (subst (λ (j : ℕ). piece 1024 j image ≡ master_slot y) (sym same) bytes) in
          let is : y ≡ z = master_is y z (sym (subst (λ (j : ℕ). in_slot image j ≡ Some y) same there) ∙ e) in
          (subst (λ (x : Master). Has x ms) is one.has, subst (λ (x : Master). slot_of x ≡ k) is same)

  -- where none counts there is none
  none_known : (ms : List Master) (k : ℕ) (z : Master) → k < 2 → counted first ms ≡ None → IsKnown ms k z → ⊥
  none_known [] k z lt e (inl is) = none-some z (sym (none_there first k lt e) ∙ is)
  none_known [] k z lt e (inr h) = absurd h.0
  none_known (m ∷ ms) k z lt e known = none-some m (sym e)

  -- and else none is later than the one that counts
  at_most : (ms : List Master) (old : Master) (k : ℕ) (z : Master) → k < 2 → AreInTurn first ms → counted first ms ≡ Some old → IsKnown ms k z → z.sequence ≤ old.sequence
  at_most [] old k z lt turns e (inl is) = most_there first k old z lt e is
  at_most [] old k z lt turns e (inr h) = absurd h.0
  at_most (m ∷ ms) old k z lt turns e known = ⊎_elim
      (λ (q : z ≡ m). let s : z.sequence ≡ m.sequence = ap (λ (x : Master). x.sequence) q in omega (arith, s, newest))
      (λ (h : IsKnown ms k z). before (counted first ms) refl h (λ o is. at_most ms o k z lt turns.1 is h))
      (newest_or known)
    where
      newest : m.sequence ≡ old.sequence
      newest = ap (λ (x : Master). x.sequence) (master_is m old e)

      newest_or : IsKnown (m ∷ ms) k z → (z ≡ m) ⊎ IsKnown ms k z
      newest_or (inl is) = inr (inl is)
      newest_or (inr h) = ⊎_elim (λ q. inl q) (λ has. inr (inr (has, h.1))) h.0

      before : (b : Option Master) → counted first ms ≡ b → IsKnown ms k z → ((o : Master) → counted first ms ≡ Some o → z.sequence ≤ o.sequence) → z.sequence ≤ old.sequence
      before None is h most = absurd (none_known ms k z lt is h)
      before (Some o) is h most =
          let le : z.sequence ≤ o.sequence = most o is in
          let next : m.sequence ≡ suc o.sequence = turns.0.sequence ∙ ap next_sequence is in
          omega (arith, le, next, newest)

-- ## An account begins

pub every_settled : EverySettled
every_settled area clean end = record { writes = refl; clean = clean; end = end; counts = refl; turns = tt; fair = λ p sealed. inl refl }

-- ## The next master

module _ (x : Account) (m : Master) (area : Area) (kept : IsKept x area) (next : IsNextOf x m) where
  abbrev before : Option Master
  before = counted x.first x.masters

  abbrev place : ℕ
  place = 1024 * slot_of m

  half : slot_of m < 2
  half = omega arith

  long : length (master_slot m) ≡ 1024
  long = own_long m next.valid

  other_half : 1 - slot_of m ≡ slot_of m → ⊥
  other_half e = let h : slot_of m < 2 = half in omega (arith, e, h)

  -- the master that counts stands in the other slot
  stands : (old : Master) → before ≡ Some old → in_slot area.bytes (1 - slot_of m) ≡ Some old
  stands old is =
      let s : m.sequence ≡ suc old.sequence = next.sequence ∙ ap next_sequence is in
      let q : slot_of old ≡ 1 - slot_of m = omega (arith, s) in
      subst (λ (k : ℕ). in_slot area.bytes k ≡ Some old) q (counts_there area.bytes old (kept.counts ∙ is))

  none : before ≡ None → (k : ℕ) → k < 2 → in_slot area.bytes k ≡ None
  none is k lt = none_there area.bytes k lt (kept.counts ∙ is)

  -- ## As a read gives it

  reach : place ≤ length area.bytes
  reach = go before refl
    where
      go : (b : Option Master) → before ≡ b → place ≤ length area.bytes
      go None is = let z : m.sequence ≡ 0 = next.sequence ∙ ap next_sequence is in omega (arith, z)
      go (Some old) is = let w : 1024 * (1 - slot_of m) + 1024 ≤ length area.bytes = whole_slot (1 - slot_of m) area.bytes old (stands old is) in let h : slot_of m < 2 = half in omega (arith, w, h)

  abbrev now : List ℕ
  now = put_over place (master_slot m) area.bytes

  here : piece 1024 (slot_of m) now ≡ master_slot m
  here = write_here place (slot_of m) (master_slot m) area.bytes refl long reach

  elsewhere : (k : ℕ) → (k ≡ slot_of m → ⊥) → piece 1024 k now ≡ piece 1024 k area.bytes
  elsewhere k other = write_other place (slot_of m) (master_slot m) area.bytes refl long reach k other

  counts_now : master_on now ≡ Some m
  counts_now = go before refl
    where
      there : in_slot now (slot_of m) ≡ Some m
      there = own_there m now next.valid here

      same : in_slot now (1 - slot_of m) ≡ in_slot area.bytes (1 - slot_of m)
      same = ap (master_in (1 - slot_of m)) (elsewhere (1 - slot_of m) other_half)

      go : (b : Option Master) → before ≡ b → master_on now ≡ Some m
      go None is = alone now (slot_of m) m half there (same ∙ none is (1 - slot_of m) (omega arith))
      go (Some old) is =
          let s : m.sequence ≡ suc old.sequence = next.sequence ∙ ap next_sequence is in
          let h : slot_of m < 2 = half in
          let back : slot_of m ≡ 1 - (1 - slot_of m) = omega (arith, h) in
          later now (1 - slot_of m) old m (omega arith) (same ∙ stands old is) (subst (λ (k : ℕ). in_slot now k ≡ Some m) back there) (omega (arith, s))

  fair_now : IsFair 1024 IsSealedMaster x.first (writes_of (m ∷ x.masters)) now
  fair_now p sealed = ⊎_elim
      (λ (e : p ≡ slot_of m).
      let is : piece 1024 p now ≡ master_slot m = subst (λ (k : ℕ). piece 1024 k now ≡ master_slot m) (sym e) here in
      inr (exactly 1024 p (piece 1024 p now) x.first (writes_of (m ∷ x.masters)) (omega arith) (ap length is ∙ long) (inl (λ i. (1024 * e i, is i)))))
      (λ (no : p ≡ slot_of m → ⊥).
      let same : piece 1024 p now ≡ piece 1024 p area.bytes = elsewhere p no in
      ⊎_elim
      (λ (q : piece 1024 p area.bytes ≡ piece 1024 p x.first). inl (same ∙ q))
      (λ (w : IsWritten 1024 p (piece 1024 p area.bytes) x.first (writes_of x.masters)).
      inr (among_more 1024 p (piece 1024 p now) x.first (write_of m) (writes_of x.masters) (subst (λ (b : List ℕ). IsWritten 1024 p b x.first (writes_of x.masters)) (sym same) w)))
      (kept.fair p (subst IsSealedMaster same sealed)))
      (cases_eq p (slot_of m))

  pub kept_more : (after : Area) → after ≡ synced (written place (master_slot m) area) → IsKept (wrote m x) after
  kept_more after is = subst (IsKept (wrote m x)) (sym is) (record {
    writes = ap (λ (ws : List Write). write_of m ∷ ws) kept.writes;
    clean = refl;
    end = refl;
    counts = counts_now;
    turns = (next, kept.turns);
    fair = fair_now;
  })

  -- ## As a crash leaves it

  module _ (c : List ℕ) (left : Leaves (torn place (master_slot m) area) c) where
    stays : (old : Master) → before ≡ Some old → in_slot c (1 - slot_of m) ≡ Some old
    stays old is =
        let there : in_slot area.bytes (1 - slot_of m) ≡ Some old = stands old is in
        ap (master_in (1 - slot_of m)) (torn_stays area kept.clean kept.end (slot_of m) (master_slot m) long c left (1 - slot_of m) other_half (whole_slot (1 - slot_of m) area.bytes old there)) ∙ there

    -- what a slot may hold
    abbrev MayHold : Type 0
    MayHold = (k : ℕ) (z : Master) → in_slot c k ≡ Some z → ((z ≡ m) × (slot_of z ≡ k)) ⊎ IsKnown x.first x.masters k z

    may_hold : (ws : List Write) → (ws ≡ writes_of (m ∷ x.masters)) ⊎ (ws ≡ writes_of x.masters) → IsFair 1024 IsSealedMaster x.first ws c → MayHold
    may_hold ws (inr e) fair k z is =
        inr (fair_known x.first x.masters c (in_turn x.first x.masters kept.turns) (subst (λ (us : List Write). IsFair 1024 IsSealedMaster x.first us c) e fair) k z is)
    may_hold ws (inl e) fair k z is = go (fair_known x.first (m ∷ x.masters) c (in_turn x.first (m ∷ x.masters) (next, kept.turns)) (subst (λ (us : List Write). IsFair 1024 IsSealedMaster x.first us c) e fair) k z is)
      where
        go : IsKnown x.first (m ∷ x.masters) k z → ((z ≡ m) × (slot_of z ≡ k)) ⊎ IsKnown x.first x.masters k z
        go (inl at) = inr (inl at)
        go (inr h) = ⊎_elim (λ q. inl (q, h.1)) (λ has. inr (inr (has, h.1))) h.0

    module _ (may : MayHold) where
      abbrev Counts : Type 0
      Counts = (master_on c ≡ Some m) ⊎ (master_on c ≡ before)

      -- none counted
      unless : before ≡ None → Counts
      unless is = go (in_slot c (slot_of m)) refl
        where
          never : (k : ℕ) → k < 2 → (k ≡ slot_of m → ⊥) → (o : Option Master) → in_slot c k ≡ o → in_slot c k ≡ None
          never k lt other None e = e
          never k lt other (Some z) e = absurd (⊎_elim
              (λ (q : (z ≡ m) × (slot_of z ≡ k)). other (sym q.1 ∙ ap slot_of q.0))
              (λ (known : IsKnown x.first x.masters k z). none_known x.first x.masters k z lt is known)
              (may k z e))

          empty : in_slot c (1 - slot_of m) ≡ None
          empty = never (1 - slot_of m) (omega arith) other_half (in_slot c (1 - slot_of m)) refl

          go : (o : Option Master) → in_slot c (slot_of m) ≡ o → Counts
          go None e = inr (none_counts c (slot_of m) half e empty ∙ sym is)
          go (Some z) e = ⊎_elim
              (λ (q : (z ≡ m) × (slot_of z ≡ slot_of m)). inl (alone c (slot_of m) m half (e ∙ ap Some q.0) empty))
              (λ (known : IsKnown x.first x.masters (slot_of m) z). absurd (none_known x.first x.masters (slot_of m) z half is known))
              (may (slot_of m) z e)

      -- one counted
      where_one : (old : Master) → before ≡ Some old → Counts
      where_one old is = go (in_slot c (slot_of m)) refl
        where
          s : m.sequence ≡ suc old.sequence
          s = next.sequence ∙ ap next_sequence is

          there : in_slot c (1 - slot_of m) ≡ Some old
          there = stays old is

          back : slot_of m ≡ 1 - (1 - slot_of m)
          back = let h : slot_of m < 2 = half in omega (arith, h)

          go : (o : Option Master) → in_slot c (slot_of m) ≡ o → Counts
          go None e = inr (alone c (1 - slot_of m) old (omega arith) there (subst (λ (k : ℕ). in_slot c k ≡ None) back e) ∙ sym is)
          go (Some z) e = ⊎_elim
              (λ (q : (z ≡ m) × (slot_of z ≡ slot_of m)).
              inl (later c (1 - slot_of m) old m (omega arith) there (subst (λ (k : ℕ). in_slot c k ≡ Some m) back (e ∙ ap Some q.0)) (omega (arith, s))))
              (λ (known : IsKnown x.first x.masters (slot_of m) z).
              let le : z.sequence ≤ old.sequence = at_most x.first x.masters old (slot_of m) z half kept.turns is known in
              let parity : slot_of z ≡ slot_of m = (is_slot (slot_of m) c z e).holds.parity in
              inr (later c (slot_of m) z old half e there (omega (arith, le, parity, s)) ∙ sym is))
              (may (slot_of m) z e)

      counts_after : Counts
      counts_after = go before refl
        where
          go : (b : Option Master) → before ≡ b → Counts
          go None is = unless is
          go (Some old) is = where_one old is

  pub leaves_masters : (ws : List Write) (c : List ℕ) → WritesOnce place (master_slot m) area ws c → LeavesMasters x m ws c
  leaves_masters ws c once = ⊎_elim
      (λ (e : ws ≡ area.writes). record {
        since = writes_of x.masters;
        since_is = inr refl;
        writes_are = e ∙ kept.writes;
        counts = λ fair. counts_after c once.leaves (may_hold c once.leaves (writes_of x.masters) (inr refl) fair);
      })
      (λ (e : ws ≡ write_of m ∷ area.writes). record {
        since = writes_of (m ∷ x.masters);
        since_is = inl refl;
        writes_are = e ∙ ap (λ (us : List Write). write_of m ∷ us) kept.writes;
        counts = λ fair. counts_after c once.leaves (may_hold c once.leaves (writes_of (m ∷ x.masters)) (inl refl) fair);
      })
      once.writes_are
