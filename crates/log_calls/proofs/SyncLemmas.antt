-- The master of a sync is the next of a run.
use Rattle.std.proofs.Common.{◌≡◌, ◌*◌, ◌%◌}
use Rattle.disk_runs.specs.core_state.Events.{Event}
use Rattle.disk_runs.specs.disk_image.Laws.{EverySealed}
use Rattle.disk_runs.specs.disk_slots.declared.master.Master.{Master}
use Rattle.lean_disk.specs.Moments.{CrashIn, LeavesOnly}
use Rattle.lean_disk.specs.Story.{Story}
use Rattle.lean_disk.specs.declared.disk.Did.{Did}
use Rattle.lean_disk.specs.declared.disk.Did.TheVariants as did
use Rattle.disk_runs.specs.worker_log.Laws.{EveryKept, EveryPrefix}
use Rattle.disk_runs.specs.core_disk.Versions.{EveryVersion}
use Rattle.disk_runs.specs.MasterLaws.{WritesNext, with_sync}
use Rattle.disk_runs.proofs.NextLemmas.{every_next_master, every_sync}
use Rattle.lean_disk.proofs.MomentLemmas.{weaker}
use Rattle.disk_runs.specs.disk_slots.Masters.{master_slot}
use Rattle.disk_runs.specs.master_store.Masters.{WritesOnce}
use Rattle.log_calls.specs.Calls.{Anything}
use Rattle.log_calls.specs.Syncs.{KeepsEither, SyncsOn}

-- what was written is in its area
pub within : (m : Master) (old new : Story) → LeavesOnly old new (CrashIn old 0 (WritesOnce (1024 * (m.sequence % 2)) (master_slot m) (old.area 0))) → LeavesOnly old new (CrashIn old 0 Anything)
within m old new = weaker old new (CrashIn old 0 (WritesOnce (1024 * (m.sequence % 2)) (master_slot m) (old.area 0))) (CrashIn old 0 Anything)
    (λ c is. record { notes = is.notes; writes = is.writes; leaves = is.leaves; here = tt })

module _ (versions : EveryVersion) (keeps : EveryKept) (prefixes : EveryPrefix) (seals : EverySealed) (m : Master) (r : Did) (old new : Story) (writes : WritesNext m r old new) where
  pub syncs : r ≡ did.Done → SyncsOn m old new
  syncs done s0 g es x n stands is = (every_next_master keeps prefixes seals old new s0 g es (Event.Sync n) x (with_sync x m n) r stands (every_sync versions old s0 g es x m n stands is) writes).after done

  pub either : KeepsEither m old new
  either s0 g es x n stands is = (every_next_master keeps prefixes seals old new s0 g es (Event.Sync n) x (with_sync x m n) r stands (every_sync versions old s0 g es x m n stands is) writes).any_moment
