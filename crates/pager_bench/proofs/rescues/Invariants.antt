use Rattle.pager_bench.specs.Rigs.{Stands}
use Rattle.pager_bench.proofs.rescues.Given as goal

abbrev pub invariant-loop-i : goal.invariant-loop-i
invariant-loop-i l = Stands l.rig
