-- While lines are put.
use Rattle.std.proofs.Common.{refl}
use Rattle.lean_disk.specs.Story.{Story}
use Rattle.disk_runs.specs.disk_image.Laws.{EverySealed}
use Rattle.disk_runs.specs.worker_log.Laws.{EveryKept, EveryPrefix}
use Rattle.disk_runs.proofs.StandLemmas.{every_rest}
use Rattle.run_crashes.specs.Laws.{EveryPut}

pub every_put : EveryKept → EveryPrefix → EverySealed → (s : Story) → EveryPut s
every_put keeps prefixes seals s s0 g es x stands counts c writes leaves fair =
    every_rest keeps prefixes seals s s0 g es x stands (record c { notes = s.notes }) (record { counts = counts; notes = refl; writes = writes; leaves = leaves })
    (record { masters = fair.masters; pages = fair.pages; log = fair.log })
