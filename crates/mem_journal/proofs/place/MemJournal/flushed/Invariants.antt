use Rattle.std.proofs.Common.{◌≡◌, ◌-◌}
use Rattle.rfa_model.specs.Reaches.{least}
use Rattle.mem_journal.specs.Views.{view_of, worker_at}
use Rattle.mem_journal.proofs.place.MemJournal.flushed.Given as goal

abbrev pub invariant-loop-w : goal.invariant-loop-w
invariant-loop-w l = l.least ≡ least (λ w. (worker_at (view_of l.self) w).flushed) (l.w - 1)
