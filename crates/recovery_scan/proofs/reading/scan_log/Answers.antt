use Rattle.std.proofs.Common.{◌≡◌, inl, inr, ◌≤◌, ◌+◌, ◌*◌, ◌%◌, ◌++◌, ℕ, suc, List, Err, take, refl, sym, ◌∙◌, ap, subst, arith}
use Rattle.std.proofs.lemmas.List.{append_assoc}
use Rattle.std.specs.declared.result.Result.{Result}
use Rattle.lean_disk.specs.Story.{Tells, areas_of}
use Rattle.lean_disk.proofs.MomentLemmas.{reads_more}
use Rattle.log_index.specs.Items.{Item, items_of, held}
use Rattle.recovery_scan.specs.declared.reading.Unread.{Unread}
use Rattle.recovery_scan.specs.declared.reading.Unread.TheVariants.{Damaged}
use Rattle.recovery_scan.specs.Scans.{IsBadLog}
use Rattle.recovery_scan.proofs.ItemLemmas.{has_either, has_items}
use Rattle.recovery_scan.proofs.ReadLemmas.{got}
use Rattle.recovery_scan.proofs.RunLemmas.{going-more, going-bad, going-ends}
use Rattle.recovery_scan.proofs.reading.scan_log.Goals as goal

-- the log and the place of a damage
abbrev log_of : {A : Type 0} → Result A Unread → ℕ
log_of (Err (Damaged log place)) = log
log_of _ = 0

abbrev place_of : {A : Type 0} → Result A Unread → ℕ
place_of (Err (Damaged log place)) = place
place_of _ = 0

pub loop-count-preserved : goal.loop-count-preserved
loop-count-preserved g c =
    let s0 = g.P.Part.story c.args.dev.now in
    let s = g.P.Part.story c.loop-count.dev in
    let s1 = g.P.Part.story c.read.new.self in
    let q0 = g.P.Part.seat c.args.dev.now in
    let seat = g.P.Part.seat c.loop-count.dev in
    let inv = c.loop-count.invariant in
    let m = c.args.master.now in
    let w = c.args.log in
    let count = c.loop-count.count in
    let number = c.head-head.result + count in
    let place = number % m.blocks in
    let old = c.args.index.now in
    let j = inv.going in
    let b = c.in-Ok.ensures.added in
    let items : List Item = items_of w place b.records in
    let more : held c.take_block.new.index ≤ held c.loop-count.index + 2000 = c.in-Ok.ensures.size in
    let so_far : held c.loop-count.index ≤ held old + 2000 * count = inv.size in
    record {
      within = omega (arith, c.loop-count-test.true);
      room = c.read.auto.into ∙ inv.room;
      reads = reads_more seat.area (2048 * place) c.loop-count.buffer c.read.new.into c.read.result s0 s s1 inv.reads c.read.ensures.looked;
      seat = c.read.ensures.seat ∙ inv.seat;
      faults = c.read.ensures.cause.calm (λ e. cc) ∙ inv.faults;
      size = omega (arith, more, so_far);
      going = record {
        added = j.added ++ items;
        is = b.added ∙ (ap (λ (xs : List Item). xs ++ items) j.is ∙ append_assoc old j.added items);
        of_log = λ x h. elim (has_either j.added items x h) [ inl k ↦ j.of_log x k | inr k ↦ (has_items w place b.records x k).0 ];
        holds = λ t. going-more m w (s0.area (suc w)).bytes count j.added (j.holds t) c.loop-count-test.true c.len-start.result old c.loop-count.index c.len-start.ensures j.is number (ap (λ (h : ℕ). h + count) c.head-head.ensures)
            (take c.in-Got.n c.read.new.into) (got s0 s s1 q0 seat w 2048 place c.in-Got.n c.loop-count.buffer c.read.new.into inv.reads inv.seat c.requires.seat inv.room c.in-Got.ensures.looked t) c.take_block.new.index b;
      };
    }

pub returns-in-Err-RunEnds-clause-found : goal.returns-in-Err-RunEnds-clause-found
returns-in-Err-RunEnds-clause-found g c =
    let s0 = g.P.Part.story c.args.dev.now in
    let s = g.P.Part.story c.loop-count.dev in
    let s1 = g.P.Part.story c.read.new.self in
    let q0 = g.P.Part.seat c.args.dev.now in
    let seat = g.P.Part.seat c.loop-count.dev in
    let inv = c.loop-count.invariant in
    let m = c.args.master.now in
    let w = c.args.log in
    let count = c.loop-count.count in
    let number = c.head-head.result + count in
    let place = number % m.blocks in
    let old = c.args.index.now in
    let j = inv.going in
    let ends = c.in-Err-RunEnds.is ∙ ap Err c.in-Err-RunEnds.field-0-is in
    record {
      added = j.added;
      is = c.take_block.ensures.same ends ∙ j.is;
      of_log = j.of_log;
      holds = λ t. going-ends m w (s0.area (suc w)).bytes count j.added (j.holds t) c.loop-count-test.true c.len-start.result old c.loop-count.index c.len-start.ensures j.is number (ap (λ (h : ℕ). h + count) c.head-head.ensures)
          (take c.in-Got.n c.read.new.into) (got s0 s s1 q0 seat w 2048 place c.in-Got.n c.loop-count.buffer c.read.new.into inv.reads inv.seat c.requires.seat inv.room c.in-Got.ensures.looked t)
          (areas_of s0) refl (c.take_block.ensures.cause_run_ends ends);
    }

pub returns-in-Err-RunEnds-clause-size : goal.returns-in-Err-RunEnds-clause-size
returns-in-Err-RunEnds-clause-size g c =
    let so_far : held c.loop-count.index ≤ held c.args.index.now + 2000 * c.loop-count.count = c.loop-count.invariant.size in
    let same : held c.take_block.new.index ≡ held c.loop-count.index = ap held (c.take_block.ensures.same (c.in-Err-RunEnds.is ∙ ap Err c.in-Err-RunEnds.field-0-is)) in
    let most : c.args.master.now.blocks ≤ 4096 = c.requires.master.1.blocks.1 in
    omega (arith, so_far, same, most, c.loop-count-test.true)

pub returns-in-Err-Damaged-clause-reads : goal.returns-in-Err-Damaged-clause-reads
returns-in-Err-Damaged-clause-reads g c =
    let seat = g.P.Part.seat c.loop-count.dev in
    reads_more seat.area (2048 * ((c.head-head.result + c.loop-count.count) % c.args.master.now.blocks)) c.loop-count.buffer c.read.new.into c.read.result
    (g.P.Part.story c.args.dev.now) (g.P.Part.story c.loop-count.dev) (g.P.Part.story c.read.new.self) c.loop-count.invariant.reads c.read.ensures.looked

pub returns-in-Err-Damaged-clause-cause_damaged : goal.returns-in-Err-Damaged-clause-cause_damaged
returns-in-Err-Damaged-clause-cause_damaged g c v p same =
    let s0 = g.P.Part.story c.args.dev.now in
    let s = g.P.Part.story c.loop-count.dev in
    let s1 = g.P.Part.story c.read.new.self in
    let q0 = g.P.Part.seat c.args.dev.now in
    let seat = g.P.Part.seat c.loop-count.dev in
    let inv = c.loop-count.invariant in
    let m = c.args.master.now in
    let w = c.args.log in
    let count = c.loop-count.count in
    let number = c.head-head.result + count in
    let place = number % m.blocks in
    let old = c.args.index.now in
    let j = inv.going in
    let log_is : w ≡ v = ap log_of same in
    let place_is : place ≡ p = ap place_of same in
    let bad = c.take_block.ensures.cause_damaged (c.in-Err-Damaged.is ∙ ap Err c.in-Err-Damaged.field-0-is) in (
      sym log_is,
      subst (λ (u : ℕ). Tells s0 (suc u) → IsBadLog m u (areas_of s0) p) log_is (subst (λ (r : ℕ). Tells s0 (suc w) → IsBadLog m w (areas_of s0) r) place_is (λ t.
          going-bad m w (s0.area (suc w)).bytes count j.added (j.holds t) c.loop-count-test.true c.len-start.result old c.loop-count.index c.len-start.ensures j.is number (ap (λ (h : ℕ). h + count) c.head-head.ensures)
          (take c.in-Got.n c.read.new.into) (got s0 s s1 q0 seat w 2048 place c.in-Got.n c.loop-count.buffer c.read.new.into inv.reads inv.seat c.requires.seat inv.room c.in-Got.ensures.looked t)
          (areas_of s0) refl (c.requires.some, c.requires.log) bad)),
    )
