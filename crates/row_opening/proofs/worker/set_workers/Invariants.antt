use Rattle.row_opening.specs.Inside.{worker_row, AreTiled}
use Rattle.row_opening.proofs.worker.set_workers.Given as goal

abbrev pub invariant-loop-worker : goal.invariant-loop-worker
invariant-loop-worker l = AreTiled (λ _. worker_row l.base) 2 4 l.worker l.fn.words l.words
