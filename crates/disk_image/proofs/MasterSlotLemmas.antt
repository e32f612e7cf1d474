-- The master of a slot.
use Rattle.std.proofs.Common.{◌≡◌, ◌≤◌, ◌-◌, ◌%◌, ◌^◌, ℕ, Bool, true, ◌&&◌, leb, ltb, ◌==◌, List, length, replicate, get_or, Some, None, codes, bytes_eq, refl, ap, subst, ◌∙◌}
use Rattle.std.proofs.lemmas.Bool.{and_parts, and_from, leb-true, le-leb, ltb-true, lt-ltb, eqb-true, eq-eqb, cond-true}
use Rattle.std.proofs.lemmas.List.{take_at}
use Rattle.std.proofs.lemmas.Slice.Eq.{bytes_eq-Decides}
use Rattle.map_model.specs.Lists.{all}
use Rattle.disk_slots.specs.Masters.{master_words, master_slot, IsMaster, IsMasterSlot}
use Rattle.disk_slots.specs.declared.master.Master.{Master}
use Rattle.disk_slots.proofs.MasterLemmas.{master-has}
use Rattle.disk_image.specs.Words.{words_in}
use Rattle.disk_image.specs.MasterSlots.{master_of, is_among, is_master, master_if}
use Rattle.disk_image.specs.Laws.{EveryMasterIn}
use Rattle.disk_image.proofs.TestLemmas.{if_some, all_at, all_from_at}
use Rattle.disk_image.proofs.WordLemmas.{words_in-slot}

among_to : (least most n : ℕ) → is_among least most n ≡ true → (least ≤ n) × (n ≤ most)
among_to least most n h = let b = and_parts (leb least n) (leb n most) h in (leb-true least n b.0, leb-true n most b.1)

among_from : (least most n : ℕ) → (least ≤ n) × (n ≤ most) → is_among least most n ≡ true
among_from least most n h = and_from (leb least n) (leb n most) (le-leb least n h.0) (le-leb n most h.1)

abbrev is_head : ℕ → Bool
is_head h = ltb h (2 ^ 63)

module _ (n : ℕ) (m : Master) where
  abbrev from_floor : Bool
  from_floor = ltb m.floor (2 ^ 64) && all is_head m.heads

  abbrev from_sequence : Bool
  from_sequence = ltb m.sequence (2 ^ 63) && (ltb m.generation (2 ^ 63) && from_floor)

  abbrev from_logs : Bool
  from_logs = is_among 1 16 (length m.heads) && ((m.sequence % 2 == n) && from_sequence)

  master_to : is_master n m ≡ true → IsMaster n m
  master_to h =
      let a = and_parts (is_among 16 65536 m.pages) (is_among 64 4096 m.blocks && from_logs) h in
      let b = and_parts (is_among 64 4096 m.blocks) from_logs a.1 in
      let c = and_parts (is_among 1 16 (length m.heads)) ((m.sequence % 2 == n) && from_sequence) b.1 in
      let d = and_parts (m.sequence % 2 == n) from_sequence c.1 in
      let e = and_parts (ltb m.sequence (2 ^ 63)) (ltb m.generation (2 ^ 63) && from_floor) d.1 in
      let f = and_parts (ltb m.generation (2 ^ 63)) from_floor e.1 in
      let g = and_parts (ltb m.floor (2 ^ 64)) (all is_head m.heads) f.1 in
      record {
        pages = among_to 16 65536 m.pages a.0;
        blocks = among_to 64 4096 m.blocks b.0;
        logs = among_to 1 16 (length m.heads) c.0;
        parity = eqb-true (m.sequence % 2) n d.0;
        sequence = ltb-true m.sequence (2 ^ 63) e.0;
        generation = ltb-true m.generation (2 ^ 63) f.0;
        floor = ltb-true m.floor (2 ^ 64) g.0;
        heads = λ k l. ltb-true (get_or m.heads k 0) (2 ^ 63) (all_at is_head m.heads g.1 k l);
      }

  master_from : IsMaster n m → is_master n m ≡ true
  master_from s =
      and_from (is_among 16 65536 m.pages) (is_among 64 4096 m.blocks && from_logs) (among_from 16 65536 m.pages s.pages)
      (and_from (is_among 64 4096 m.blocks) from_logs (among_from 64 4096 m.blocks s.blocks)
      (and_from (is_among 1 16 (length m.heads)) ((m.sequence % 2 == n) && from_sequence) (among_from 1 16 (length m.heads) s.logs)
      (and_from (m.sequence % 2 == n) from_sequence (eq-eqb (m.sequence % 2) n s.parity)
      (and_from (ltb m.sequence (2 ^ 63)) (ltb m.generation (2 ^ 63) && from_floor) (lt-ltb m.sequence (2 ^ 63) s.sequence)
      (and_from (ltb m.generation (2 ^ 63)) from_floor (lt-ltb m.generation (2 ^ 63) s.generation)
      (and_from (ltb m.floor (2 ^ 64)) (all is_head m.heads) (lt-ltb m.floor (2 ^ 64) s.floor)
      (all_from_at is_head m.heads (λ k l. lt-ltb (get_or m.heads k 0) (2 ^ 63) (s.heads k l)))))))))

-- the words of a master spell it
master_of-words : (m : Master) → master_of (master_words m) ≡ m
master_of-words m = ap (λ (hs : List ℕ). record m { heads = hs }) (take_at m.heads (replicate (119 - length m.heads) 0) (length m.heads) refl)

module _ (n : ℕ) (bytes : List ℕ) where
  slot_to : (o m : Master) → master_if n bytes o ≡ Some m → IsMasterSlot n bytes m
  slot_to o m h =
      let a = if_some (bytes_eq bytes (master_slot o) && is_master n o) o m h in
      let b = and_parts (bytes_eq bytes (master_slot o)) (is_master n o) a.0 in
      subst (IsMasterSlot n bytes) a.1 (record { holds = master_to n o b.1; spelled = (bytes_eq-Decides bytes (master_slot o)).0 b.0 })

  slot_from : (m : Master) → IsMasterSlot n bytes m → master_if n bytes m ≡ Some m
  slot_from m s = cond-true (bytes_eq bytes (master_slot m) && is_master n m) (Some m) None
      (and_from (bytes_eq bytes (master_slot m)) (is_master n m) ((bytes_eq-Decides bytes (master_slot m)).1 s.spelled) (master_from n m s.holds))

  master_read : (m : Master) → IsMasterSlot n bytes m → master_of (words_in 126 bytes) ≡ m
  master_read m s = ap master_of (words_in-slot 126 (codes "LEANMAST") bytes (master_words m) refl (master-has n bytes m s)) ∙ master_of-words m

pub every_master_in : EveryMasterIn
every_master_in n bytes m = (
  slot_to n bytes (master_of (words_in 126 bytes)) m,
  λ s. ap (master_if n bytes) (master_read n bytes m s) ∙ slot_from n bytes m s,
)
