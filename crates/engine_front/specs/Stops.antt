-- Why a call was not answered.
use Rattle.std.specs.Prelude.{ℕ, List}
use Rattle.call_parts.specs.core_state.Openings.{Opening}
use Rattle.call_parts.specs.core_calls.Fronts.{Done}
use Rattle.call_parts.specs.disk_runs.Stands.{Known}
use Rattle.lean_disk.specs.Story.{Crash, Story}
use Rattle.call_parts.specs.engine_calls.Clauses.{Between}
use Rattle.call_parts.specs.engine_trait.Limits.{limits}
use Rattle.call_parts.specs.Memory.{IsOf, Memory}
use Rattle.call_parts.specs.engine_trait.declared.unserved.Unanswered.{Unanswered}
use Rattle.call_parts.specs.engine_trait.declared.unserved.Unanswered.TheVariants.{Broken, Damaged, DiskFault}

-- with this in memory, the disk stands for no run of these outcomes
abbrev pub StandsNot : (g : Opening) (group : ℕ) → List Done → Memory → Story → Type 0
StandsNot g group xs was old = (s0 : Crash) (k : Known) → Between limits g group xs s0 k old → IsOf g was k → ⊥

-- where the disk failed this; where a page of it is damaged this too, and it stood for no run
abbrev pub StopsBy : Unanswered → (fails never : Type 0) → Type 0
StopsBy Broken fails never = Unit {0}
StopsBy DiskFault fails never = fails
StopsBy (Damaged place) fails never = fails × never
