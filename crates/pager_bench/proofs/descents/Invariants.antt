use Rattle.pager_bench.specs.Rigs.{Stands}
use Rattle.pager_bench.proofs.descents.Given as goal

abbrev pub invariant-loop-i : goal.invariant-loop-i
invariant-loop-i l = Stands l.rig
