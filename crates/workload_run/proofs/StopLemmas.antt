-- Why it stops: the sink that keeps nothing never fails.
use Rattle.std.proofs.Common.{◌≡◌, Some, refl, arith}
use Rattle.lean_disk.specs.Faults.{HasCause, Rose}
use Rattle.script_run.specs.Inside.{IsOfEngine, MayRun}
use Rattle.script_run.specs.declared.stop.Stop.{Stop}
use Rattle.script_run.specs.declared.stop.Stop.TheVariants.{DiskFault, Damaged, WriteFault}

pub engine_stops : (stop : Stop) → MayRun (Some stop) → HasCause 0 0 (Some stop ≡ Some WriteFault) → IsOfEngine stop
engine_stops DiskFault may sink = tt
engine_stops (Damaged place) may sink = tt
engine_stops WriteFault may sink = absurd (never (sink.cause refl))
  where
    never : Rose 0 0 → ⊥
    never r = omega (arith, r)
engine_stops _ may sink = absurd may
