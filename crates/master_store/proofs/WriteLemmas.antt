-- One write and its sync, and what a crash leaves meanwhile.
use Rattle.std.proofs.Common.{inl, inr, ⊎_elim, ℕ, List, IsTrue, sym, ◌∙◌}
use Rattle.lean_disk.specs.Area.{Area, Leaves, Write, torn}
use Rattle.lean_disk.specs.Calls.{Wrote, Synced}
use Rattle.lean_disk.specs.Moments.{LeavesOnly, CrashIn}
use Rattle.lean_disk.specs.Story.{Story, IsLawful, Tells}
use Rattle.lean_disk.specs.declared.disk.Did.{Did}
use Rattle.lean_disk.proofs.MomentLemmas.{started, goes_on, framed, framed_wrote, framed_synced, crash_in}
use Rattle.master_store.specs.Masters.{WritesOnce}

-- what a crash may leave, it may leave where a write was begun
torn_more : (at : ℕ) (bytes : List ℕ) (x : Area) (c : List ℕ) → Leaves x c → Leaves (torn at bytes x) c
torn_more at bytes x c left = record { clean = λ e. cc; no_shorter = left.no_shorter; same = λ j lt apart. left.same j lt apart.1 }

-- each crash has what follows from it
module _ (at : ℕ) (bytes : List ℕ) (a : ℕ) (s0 s1 : Story) (law : IsLawful s0) (seated : IsTrue s0.counts → Tells s0 a) (r1 : Did) (wrote : Wrote a at bytes r1 s0 s1)
    (Q : List Write → List ℕ → Type 0) (follows : Tells s0 a → (ws : List Write) (c : List ℕ) → WritesOnce at bytes (s0.area a) ws c → Q ws c) where
  at_start : LeavesOnly s0 s0 (CrashIn s0 a Q)
  at_start = started s0 (CrashIn s0 a Q) law (λ c now.
      let told : Tells s0 a = seated now.counts in
      crash_in a s0 s0 Q c (framed a s0) now (follows told (c.writes a) (c.image a) (record {
        writes_are = inl (now.writes a told);
        leaves = torn_more at bytes (s0.area a) (c.image a) (now.leaves a told);
      })))

  pub while_written : LeavesOnly s0 s1 (CrashIn s0 a Q)
  while_written = goes_on s0 s0 s1 (CrashIn s0 a Q) at_start wrote.time (λ c now.
      let t0 : Tells s0 a = seated (sym wrote.time.counts ∙ now.counts) in
      let t1 : Tells s1 a = wrote.time.tells a ∙ t0 in
      crash_in a s0 s1 Q c (framed_wrote a at bytes r1 s0 s0 s1 (framed a s0) wrote) now (follows t0 (c.writes a) (c.image a) (record {
        writes_are = ⊎_elim (λ e. inr (now.writes a t1 ∙ e)) (λ e. inl (now.writes a t1 ∙ e)) (wrote.writes t0);
        leaves = wrote.crash t0 (c.image a) (now.leaves a t1);
      })))

  pub while_synced : (s2 : Story) (r2 : Did) → Synced a r2 s1 s2 → LeavesOnly s0 s2 (CrashIn s0 a Q)
  while_synced s2 r2 did = goes_on s0 s1 s2 (CrashIn s0 a Q) while_written did.time (λ c now.
      let t0 : Tells s0 a = seated (sym wrote.time.counts ∙ (sym did.time.counts ∙ now.counts)) in
      let t1 : Tells s1 a = wrote.time.tells a ∙ t0 in
      let t2 : Tells s2 a = did.time.tells a ∙ t1 in
      crash_in a s0 s2 Q c (framed_synced a r2 s0 s1 s2 (framed_wrote a at bytes r1 s0 s0 s1 (framed a s0) wrote) did) now (follows t0 (c.writes a) (c.image a) (record {
        writes_are = ⊎_elim (λ e. inr (now.writes a t2 ∙ (did.writes ∙ e))) (λ e. inl (now.writes a t2 ∙ (did.writes ∙ e))) (wrote.writes t0);
        leaves = wrote.crash t0 (c.image a) (did.crash t1 (c.image a) (now.leaves a t2));
      })))
