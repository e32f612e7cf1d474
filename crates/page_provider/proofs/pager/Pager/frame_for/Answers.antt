use Rattle.std.proofs.Common.{subst}
use Rattle.page_provider.specs.Faults.{Faulted}
use Rattle.page_provider.proofs.Placing.{wanted_lost}
use Rattle.page_provider.proofs.pager.Pager.frame_for.Goals as goal

pub unreachable-requires : goal.unreachable-requires
unreachable-requires g c = wanted_lost c.requires.wanted
    (subst (λ d. Faulted 5 (g.R.Rows.shape c.args.rows.now) c.args.path.now (g.R.Rows.view c.args.seat.now) c.args.self.now c.args.page d (g.R.Rows.view c.fault.new.seat) c.fault.new.self) c.in_default.is c.in_ok-frame.ensures.ok)

pub returns-clause-ok : goal.returns-clause-ok
returns-clause-ok g c = subst (λ d. Faulted 5 (g.R.Rows.shape c.args.rows.now) c.args.path.now (g.R.Rows.view c.args.seat.now) c.args.self.now c.args.page d (g.R.Rows.view c.fault.new.seat) c.fault.new.self) c.in-Some.is c.in_ok-frame.ensures.ok
