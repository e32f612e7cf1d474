use Rattle.std.proofs.Common.{ap}
use Rattle.session_state.proofs.StageLemmas.{but_clock, clock_set, stages_from}
use Rattle.session_state.specs.declared.session.Session.{Session}
use Rattle.session_state.proofs.work.WorkDraw.touch.Goals as goal

pub returns-clause-stages : goal.returns-clause-stages
returns-clause-stages g c r s t = stages_from r c.args.self.now.session _ s.session _ _ _ _ _ _ _ _ _ (but_clock c.args.self.now.session _ _ _ (clock_set c.args.self.now.session _ _ _ c.touch.ensures)) t

pub returns-clause-touches : goal.returns-clause-touches
returns-clause-touches g c = ap (λ (y : Session). record c.args.self.now { session = y }) (but_clock c.args.self.now.session _ _ _ (clock_set c.args.self.now.session _ _ _ c.touch.ensures))
