-- From a device's calls to what an account says: each moment of a write and of a sync, and what stands after it.
use Rattle.std.proofs.Common.{◌≡◌, ◌⊎◌, inl, inr, ⊎_elim, ℕ, ◌+◌, ◌*◌, ◌%◌, ◌^◌, ◌≤◌, ◌<◌, List, [], ◌∷◌, ◌++◌, length, get_or, refl, sym, ◌∙◌, ap, subst, IsTrue, arith, cond, length-append, ◌==◌}
use Rattle.std.proofs.lemmas.Bool.{cases_lt, cond-false, cond-true, eq-eqb, ne_eqb}
use Rattle.map_model.specs.Lists.{Has}
use Rattle.disk_image.specs.image_model.Fair.{IsFair}
use Rattle.lean_disk.specs.Area.{Area, Leaves, Write, IsApart, torn}
use Rattle.lean_disk.specs.Story.{Story, Crash, Tells, IsLawful}
use Rattle.lean_disk.specs.Calls.{Wrote, Synced}
use Rattle.lean_disk.specs.Moments.{LeavesOnly, CrashIn, Framed}
use Rattle.lean_disk.specs.declared.disk.Did.{Did}
use Rattle.lean_disk.specs.declared.disk.Did.TheVariants.{Done}
use Rattle.lean_disk.proofs.MomentLemmas.{started, goes_on, then, weaker, framed, framed_wrote, framed_synced, crash_in}
use Rattle.disk_image.specs.log_record.Spelling.{Fits}
use Rattle.disk_image.specs.log_record.declared.record.Record.{Record}
use Rattle.disk_image.proofs.log_record.SizeLemmas.{size_range}
use Rattle.disk_image.specs.log_block.Block.{Belongs, IsSealed, block_text, generation_of, records_text}
use Rattle.disk_image.specs.Runs.{Block}
use Rattle.disk_image.proofs.BlockInLemmas.{every_belongs}
use Rattle.disk_image.proofs.RunLemmas.{belongs-text}
use Rattle.worker_log.specs.Inside.{IsSized, closed_log}
use Rattle.worker_log.specs.Accounts.{Account, spelled_from, with_current}
use Rattle.worker_log.specs.Kept.{IsInRange, AllFitBlocks, AreLate, HoldsFirst, IsBlockWrite, IsKept, IsOwnWrite, IsPassed, LeavesBlocks, RiseFrom, StagesTo, closed, flushed, staged, write_of, IsOfGeneration}
use Rattle.worker_log.specs.Logs.{Log, used}
use Rattle.worker_log.specs.Calls.{HasRoom}
use Rattle.worker_log.proofs.ListLemmas.{block_of, fit_blocks-take, fit_blocks-with, joined-drop-more, joined-drop-with, joined-with, length-with, one_size, spelled-belongs, spelled-last, spelled-with, take-with, with_some}
use Rattle.worker_log.proofs.CrashLemmas.{synced_stands, prefix_left}
use Rattle.worker_log.proofs.KeptLemmas.{count_none, count_some, kept_closed, kept_put, kept_synced}

-- ## What a crash leaves

module _ (x : Account) (log : Log) (area : Area) (ranges : IsInRange log) (kept : IsKept x log area) where
  log_fits : log.log < 2 ^ 64
  log_fits = omega (arith, ranges.number.1)

  head_fits : log.head + log.blocks ≤ 2 ^ 64
  head_fits = omega (arith, ranges.head, ranges.some.1)

  abbrev all : List (List Record)
  all = with_current x.written x.current

  all_within : length all ≤ log.blocks
  all_within = ⊎_elim
      (λ (some : 0 < log.count). omega (arith, (length-with x.written x.current).2, ranges.ring, count_some log.count some, kept.next))
      (λ (none : log.count ≤ 0). omega (arith, (length-with x.written x.current).1, none, kept.count, kept.ring))
      (cases_lt 0 log.count)

  all_fit : AllFitBlocks all
  all_fit = fit_blocks-with x.written x.current kept.fit.0 kept.fit.1

  abbrev Own : Write → Type 0
  Own w = IsOwnWrite log.generation log.log log.blocks log.head all w

  -- in the image c, which has the area's bytes outside these ranges, with these writes
  holds_first : (c : List ℕ) (high : ℕ) (ranges : List (ℕ × ℕ)) (since : List Write) → AreLate log.blocks (log.head + x.synced) high ranges → high ≤ log.head + log.blocks → area.end ≤ length c
      → ((j : ℕ) → j < area.end → IsApart j ranges → get_or c j 0 ≡ get_or area.bytes j 0)
      → ((w : Write) → Has w since → Own w) → IsFair 2048 IsSealed x.first since c → HoldsFirst x log all c
  holds_first c high late_ranges since late near longer same writes fair =
      let prefix = take-with x.synced x.written x.current kept.synced in
      let stands = synced_stands log.generation log.log log.blocks log.head x.first x.older x.written x.synced area ranges.generation log_fits head_fits kept.synced kept.ring kept.fit.0 kept.holds c high late_ranges late near longer same in
      let it = prefix_left log.generation log.log log.blocks log.head x.first all x.synced c since ranges.generation log_fits head_fits (omega (arith, kept.synced, (length-with x.written x.current).0)) all_within
      all_fit (omega (arith, ranges.some.0)) kept.holds.new writes fair
      (λ b has. stands b (subst (λ (l : List (List Record)). Has b (spelled_from log.generation log.log log.head l)) prefix has)) in
      record {
        k = it.k;
        synced = it.enough;
        within = it.within;
        run = it.run;
        fit = fit_blocks-take it.k all all_fit;
        numbers = (kept.numbers.0, subst (λ (l : List Record). RiseFrom kept.numbers.0 l log.last) (sym (joined-with x.written x.current)) kept.numbers.1);
        above = λ r has. kept.above r (subst (Has r) (joined-drop-with x.synced x.written x.current kept.synced) (joined-drop-more x.synced it.k all it.enough r has));
      }

  -- a block of the log is of the generation
  block_generation : (b : Block) (w : Write) → Belongs log.generation log.log b.number b.bytes → w ≡ write_of log.blocks b → IsOfGeneration log.generation w
  block_generation b w its is = record {
    place = b.number % log.blocks;
    at = ap (λ (v : Write). v.0) is;
    whole = ap (λ (v : Write). length v.1) is ∙ its.sealed.whole;
    generation_is = ap (λ (v : Write). generation_of v.1) is ∙ its.of_generation;
  }

  own_generation : (w : Write) → Own w → IsOfGeneration log.generation w
  own_generation w (inl is) =
      let b : Block = is.block in
      let its : Belongs log.generation log.log b.number b.bytes = (every_belongs log.generation log.log b.number b.bytes).0
      (spelled-belongs log.generation log.log ranges.generation log_fits log.head all (omega (arith, all_within, head_fits)) all_fit b is.has) in
      block_generation b w its is.at
  own_generation w (inr passed) = block_generation passed.block w passed.belongs passed.at

  old_writes : (w : Write) → Has w kept.holds.since → Own w
  old_writes w has = ⊎_elim
      (λ (it : IsBlockWrite log.blocks (spelled_from log.generation log.log log.head x.written) w). inl (record { block = it.block; has = spelled-with log.generation log.log log.head x.written x.current it.block it.has; at = it.at }))
      (λ (passed : IsPassed log.generation log.log log.blocks log.head w). inr passed)
      (kept.holds.blocks w has)

  -- before any further write
  pub leaves_now : (writes : List Write) (c : List ℕ) → writes ≡ area.writes → Leaves area c → LeavesBlocks x log writes c
  leaves_now writes c are left = record {
    since = kept.holds.since;
    writes_are = are ∙ kept.holds.writes;
    own = λ w has. own_generation w (old_writes w has);
    holds = λ fair. holds_first c (log.head + length x.written) area.unsynced kept.holds.since kept.holds.late (omega (arith, kept.ring)) left.no_shorter left.same old_writes fair;
  }

  -- while the block in hand is written
  module _ (some : 0 < log.count) where
    abbrev at : ℕ
    at = 2048 * (log.next % log.blocks)

    abbrev block : List ℕ
    block = block_text log.generation log.log log.next log.count log.payload

    has_some : 0 < length x.current
    has_some = omega (arith, some, kept.count)

    place_left : length x.written < log.blocks
    place_left = omega (arith, ranges.ring, count_some log.count some, kept.next)

    payload_fits : length log.payload ≤ 2000
    payload_fits = subst (λ (l : List ℕ). length l ≤ 2000) (sym kept.payload) kept.fit.1.room

    whole : length block ≡ 2048
    whole = ((every_belongs log.generation log.log log.next block).0 (belongs-text log.generation log.log log.next log.count log.payload ranges.generation log_fits (omega (arith, kept.next, place_left, head_fits)) payload_fits)).sealed.whole

    is_last : ◌≡◌ {A = Block} (record { number = log.next; bytes = block }) (block_of log.generation log.log (log.head + length x.written) x.current)
    is_last =
        ap (λ (k : ℕ). record { number = k; bytes = block_text log.generation log.log k log.count log.payload }) kept.next
        ∙ ap (λ (k : ℕ). record { number = log.head + length x.written; bytes = block_text log.generation log.log (log.head + length x.written) k log.payload }) kept.count
        ∙ ap (λ (l : List ℕ). record { number = log.head + length x.written; bytes = block_text log.generation log.log (log.head + length x.written) (length x.current) l }) kept.payload

    new_write : (w : Write) → w ≡ (at, block) → Own w
    new_write w is = inl (record {
      block = record { number = log.next; bytes = block };
      has = subst (λ (b : Block). Has b (spelled_from log.generation log.log log.head all)) (sym is_last)
          (subst (λ (l : List (List Record)). Has (block_of log.generation log.log (log.head + length x.written) x.current) (spelled_from log.generation log.log log.head l)) (sym (with_some x.written x.current has_some))
          (spelled-last log.generation log.log log.head x.written x.current));
      at = is;
    })

    late_too : AreLate log.blocks (log.head + x.synced) (log.head + length x.written + 1) ((at, length block) ∷ area.unsynced)
    late_too = record {
      late = λ range has. ⊎_elim
          (λ (e : range ≡ (at, length block)). (log.next, omega (arith, kept.next, kept.synced), omega (arith, kept.next), e ∙ ap (λ (k : ℕ). let r : ℕ × ℕ = (at, k) in r) whole))
          (λ old. let it = kept.holds.late.late range old in (it.0, it.1, omega (arith, it.2), it.3)) has;
    }

    torn_first : (c : List ℕ) (since : List Write) → Leaves (torn at block area) c → ((w : Write) → Has w since → Own w) → IsFair 2048 IsSealed x.first since c → HoldsFirst x log all c
    torn_first c since left writes fair = holds_first c (log.head + length x.written + 1) ((at, length block) ∷ area.unsynced) since late_too (omega (arith, place_left)) left.no_shorter left.same writes fair

    -- with the writes since the account began
    torn_leaves : (writes : List Write) (c : List ℕ) (since : List Write) → writes ≡ since ++ x.older → Leaves (torn at block area) c → ((w : Write) → Has w since → Own w) → LeavesBlocks x log writes c
    torn_leaves writes c since are left own = record {
      since = since;
      writes_are = are;
      own = λ w has. own_generation w (own w has);
      holds = λ fair. torn_first c since left own fair;
    }

    pub leaves_torn : (writes : List Write) (c : List ℕ) → (writes ≡ (at, block) ∷ area.writes) ⊎ (writes ≡ area.writes) → Leaves (torn at block area) c → LeavesBlocks x log writes c
    leaves_torn writes c (inl are) left =
        let wrote : Write = (at, block) in
        torn_leaves writes c (wrote ∷ kept.holds.since) (are ∙ ap (λ (l : List Write). wrote ∷ l) kept.holds.writes) left (λ w has. ⊎_elim (new_write w) (old_writes w) has)
    leaves_torn writes c (inr are) left = torn_leaves writes c kept.holds.since (are ∙ kept.holds.writes) left old_writes

-- ## Calls

module _ (x : Account) (log : Log) (sized : IsSized log) (s0 : Story) (a : ℕ) (law : IsLawful s0) (seated : IsTrue s0.counts → Tells s0 a) (is : Tells s0 a → IsKept x log (s0.area a)) where
  abbrev P : Crash → Type 0
  P = CrashIn s0 a (LeavesBlocks x log)

  -- no call was made
  pub quiet : LeavesOnly s0 s0 P
  quiet = started s0 P law (λ c now.
      let t : Tells s0 a = seated now.counts in
      crash_in a s0 s0 (LeavesBlocks x log) c (framed a s0) now (leaves_now x log (s0.area a) sized.ranges (is t) (c.writes a) (c.image a) (now.writes a t) (now.leaves a t)))

  -- the block in hand is written
  pub while_written : (some : 0 < log.count) (s1 : Story) (r : Did) → Wrote a (2048 * (log.next % log.blocks)) (block_text log.generation log.log log.next log.count log.payload) r s0 s1 → LeavesOnly s0 s1 P
  while_written some s1 r wrote = goes_on s0 s0 s1 P quiet wrote.time (λ c now.
      let t : Tells s0 a = seated (sym wrote.time.counts ∙ now.counts) in
      let t1 : Tells s1 a = wrote.time.tells a ∙ t in
      let frame : Framed a s0 s1 = framed_wrote a (2048 * (log.next % log.blocks)) (block_text log.generation log.log log.next log.count log.payload) r s0 s0 s1 (framed a s0) wrote in
      crash_in a s0 s1 (LeavesBlocks x log) c frame now (leaves_torn x log (s0.area a) sized.ranges (is t) some (c.writes a) (c.image a)
      (⊎_elim (λ e. inl (now.writes a t1 ∙ e)) (λ e. inr (now.writes a t1 ∙ e)) (wrote.writes t)) (wrote.crash t (c.image a) (now.leaves a t1))))

  -- it is synced
  pub while_synced : (s1 : Story) (r : Did) → Synced a r s0 s1 → LeavesOnly s0 s1 P
  while_synced s1 r did = goes_on s0 s0 s1 P quiet did.time (λ c now.
      let t : Tells s0 a = seated (sym did.time.counts ∙ now.counts) in
      let t1 : Tells s1 a = did.time.tells a ∙ t in
      let frame : Framed a s0 s1 = framed_synced a r s0 s0 s1 (framed a s0) did in
      crash_in a s0 s1 (LeavesBlocks x log) c frame now (leaves_now x log (s0.area a) sized.ranges (is t) (c.writes a) (c.image a) (now.writes a t1 ∙ did.writes) (did.crash t (c.image a) (now.leaves a t1))))

-- the area after a block in hand was written
pub written_kept : (x : Account) (log : Log) (sized : IsSized log) (s0 s1 : Story) (a : ℕ) (some : 0 < log.count) (r : Did)
    → Wrote a (2048 * (log.next % log.blocks)) (block_text log.generation log.log log.next log.count log.payload) r s0 s1 → r ≡ Done → Tells s1 a → IsKept x log (s0.area a) → IsKept (closed x) (closed_log log) (s1.area a)
written_kept x log sized s0 s1 a some r wrote done t1 kept =
    let t : Tells s0 a = sym (wrote.time.tells a) ∙ t1 in
    subst (IsKept (closed x) (closed_log log)) (sym (wrote.done t done)) (kept_closed x log (s0.area a) sized kept some)

-- ## A block that is closed, and a sync behind it

-- what a crash leaves in a run that goes on from s1 is as if it had begun at s0
pub crash_back : (a : ℕ) (s0 s1 : Story) (Q : List Write → List ℕ → Type 0) (c : Crash) → Framed a s0 s1 → CrashIn s1 a Q c → CrashIn s0 a Q c
crash_back a s0 s1 Q c f in_run = record {
  notes = in_run.notes ∙ f.notes;
  writes = λ b other told. in_run.writes b other (f.tells b ∙ told) ∙ ap (λ (y : Area). y.writes) (f.elsewhere b other);
  leaves = λ b other told. subst (λ (y : Area). Leaves y (c.image b)) (f.elsewhere b other) (in_run.leaves b other (f.tells b ∙ told));
  here = in_run.here;
}

-- the blocks of an account are those when the one in hand is closed
same_blocks : (x : Account) (log : Log) (writes : List Write) (c : List ℕ) → LeavesBlocks (closed x) (closed_log log) writes c → LeavesBlocks x log writes c
same_blocks x log writes c leaves = record {
  since = leaves.since;
  writes_are = leaves.writes_are;
  own = leaves.own;
  holds = λ fair. let it = leaves.holds fair in record { k = it.k; synced = it.synced; within = it.within; run = it.run; fit = it.fit; numbers = it.numbers; above = it.above };
}

module _ (x : Account) (log : Log) (s0 s1 s2 : Story) (a : ℕ) (frame : Framed a s0 s1) (first : LeavesOnly s0 s1 (CrashIn s0 a (LeavesBlocks x log)))
    (mid : Log) (sized : IsSized mid) (is_mid : mid ≡ closed_log log) (law : IsLawful s1) (seated : IsTrue s1.counts → Tells s1 a)
    (r : Did) (did : Synced a r s1 s2) where
  pub closed_and_synced : (Tells s0 a → IsKept x log (s0.area a)) → (Tells s1 a → IsKept x log (s0.area a) → IsKept (closed x) mid (s1.area a)) → LeavesOnly s0 s2 (CrashIn s0 a (LeavesBlocks x log))
  closed_and_synced is keeps =
      let is1 : Tells s1 a → IsKept (closed x) mid (s1.area a) = λ t. keeps t (is (sym (frame.tells a) ∙ t)) in
      let second : LeavesOnly s1 s2 (CrashIn s1 a (LeavesBlocks (closed x) mid)) = while_synced (closed x) mid sized s1 a law seated is1 s2 r did in
      then s0 s1 s2 (CrashIn s0 a (LeavesBlocks x log)) first (weaker s1 s2 (CrashIn s1 a (LeavesBlocks (closed x) mid)) (CrashIn s0 a (LeavesBlocks x log))
      (λ c in_run. crash_back a s0 s1 (LeavesBlocks x log) c frame (record {
        notes = in_run.notes;
        writes = in_run.writes;
        leaves = in_run.leaves;
        here = same_blocks x log (c.writes a) (c.image a) (subst (λ (l : Log). LeavesBlocks (closed x) l (c.writes a) (c.image a)) is_mid in_run.here);
      })) second)

pub synced_kept : (x : Account) (s1 s2 : Story) (a : ℕ) (mid : Log) (sized : IsSized mid) (r : Did) → Synced a r s1 s2 → r ≡ Done → Tells s2 a → IsKept (closed x) mid (s1.area a) → IsKept (flushed x) (record mid { flushed = mid.last }) (s2.area a)
synced_kept x s1 s2 a mid sized r did done t2 kept =
    let t1 : Tells s1 a = sym (did.time.tells a) ∙ t2 in
    subst (IsKept (flushed x) (record mid { flushed = mid.last })) (sym (did.done t1 done))
    (kept_synced x.first x.older (with_current x.written x.current) x.synced mid (s1.area a) sized kept)

-- ## A record that is staged

-- into the block in hand
pub staged_here : (x : Account) (old new : Log) (area : Area) (r : Record) → IsSized old → IsKept x old area → Fits r → old.last < r.gsn → HasRoom old r
    → new ≡ record old { payload = old.payload ++ records_text (r ∷ []); count = old.count + 1; last = r.gsn } → StagesTo r x old new area
staged_here x old new area r sized kept fits rises room is = record {
  y = staged x r;
  staged = record { room = λ _. refl; full = λ no. absurd (no room) };
  kept = subst (λ (l : Log). IsKept (staged x r) l area) (sym is) (kept_put x old area sized kept r fits rises room);
}

ends_closed : (log : Log) → IsSized log → log.head + length (cond (log.count == 0) log.ends (log.ends ++ log.last ∷ [])) ≡ log.next + cond (log.count == 0) 0 1
ends_closed log sized = ⊎_elim
    (λ (some : 0 < log.count). let e = cond-false (log.count == 0) log.ends (log.ends ++ log.last ∷ []) (ne_eqb log.count 0 (λ e. omega (arith, some))) in
    omega (arith, count_some log.count some, sized.ends, ap length e, length-append log.ends (log.last ∷ [])))
    (λ (none : log.count ≤ 0). let e = cond-true (log.count == 0) log.ends (log.ends ++ log.last ∷ []) (eq-eqb log.count 0 (omega (arith, none))) in
    omega (arith, count_none log.count (omega (arith, none)), sized.ends, ap length e))
    (cases_lt 0 log.count)

-- a log that is sized still is where the block in hand was written
pub sized_closed : (log : Log) → IsSized log → IsSized (closed_log log)
sized_closed log sized =
    let step : used (closed_log log) ≡ used log = ⊎_elim
    (λ (some : 0 < log.count). omega (arith, count_some log.count some, sized.order))
    (λ (none : log.count ≤ 0). omega (arith, count_none log.count (omega (arith, none)), sized.order))
    (cases_lt 0 log.count) in
    record {
      ranges = record {
        generation = sized.ranges.generation;
        number = sized.ranges.number;
        some = sized.ranges.some;
        head = sized.ranges.head;
        ring = omega (arith, step, sized.ranges.ring);
      };
      order = omega (arith, sized.order);
      ends = ends_closed log sized;
      payload = omega arith;
      count = omega arith;
      none = λ e. refl;
      flushed = sized.flushed;
      pending = λ some. absurd (omega arith);
    }

-- into the next one
pub staged_next : (x : Account) (old mid new : Log) (area : Area) (r : Record) → IsSized old → mid ≡ closed_log old → IsKept (closed x) mid area → Fits r → old.last < r.gsn → (HasRoom old r → ⊥)
    → new ≡ record mid { payload = mid.payload ++ records_text (r ∷ []); count = mid.count + 1; last = r.gsn } → StagesTo r x old new area
staged_next x old mid new area r sized is_mid kept fits rises full is =
    let mid_sized : IsSized mid = subst IsSized (sym is_mid) (sized_closed old sized) in
    let last : mid.last ≡ old.last = ap (λ (l : Log). l.last) is_mid in
    let payload : length mid.payload ≡ 0 = ap (λ (l : Log). length l.payload) is_mid in
    let few = (size_range r.body fits.body).1 in
    let one = one_size r fits in
    let room : HasRoom mid r = omega (arith, payload, few, one) in
    record {
      y = staged (closed x) r;
      staged = record { room = λ has. absurd (full has); full = λ _. refl };
      kept = subst (λ (l : Log). IsKept (staged (closed x) r) l area) (sym is) (kept_put (closed x) mid area mid_sized kept r fits (omega (arith, last, rises)) room);
    }
