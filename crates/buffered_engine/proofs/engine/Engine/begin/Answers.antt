use Rattle.std.proofs.Common.{Result, subst}
use Rattle.map_model.specs.declared.call.Answer.{Answer}
use Rattle.map_model.specs.declared.call.Call.TheVariants as calls
use Rattle.buffered_engine.specs.Calls.{Asked}
use Rattle.buffered_engine.proofs.engine.Engine.begin.Goals as goal
use Rattle.paged_scans.specs.engine_trait.declared.unserved.Unanswered.{Unanswered}

pub returns-clause-asked : goal.returns-clause-asked
returns-clause-asked g c =
    subst (λ (a : Result Answer Unanswered). Asked g.D.Disk.story c.args.session calls.Begin a c.args.self.now c.ask.new.self) c.begun_in.ensures c.ask.ensures.asked
