use Rattle.session_state.proofs.StageLemmas.{but_clock, clock_set, stages_from}
use Rattle.session_state.proofs.work.WorkDraw.next.Goals as goal

pub returns-clause-stages : goal.returns-clause-stages
returns-clause-stages g c r s t = stages_from r c.args.self.now.session _ s.session _ _ _ _ _ _ _ _ _ (but_clock c.args.self.now.session _ _ _ (clock_set c.args.self.now.session _ _ _ c.next.ensures.after)) t
