use Rattle.std.proofs.Common.{Result, subst}
use Rattle.map_model.specs.declared.call.Answer.{Answer}
use Rattle.buffered_engine.specs.Calls.{AskedScan}
use Rattle.buffered_engine.proofs.engine.Engine.next_pair.Goals as goal
use Rattle.paged_scans.specs.engine_trait.declared.unserved.Unanswered.{Unanswered}

pub returns-clause-asked : goal.returns-clause-asked
returns-clause-asked g c = subst (λ (a : Result Answer Unanswered). AskedScan g.D.Disk.story a c.args.self.now c.ask_scan.new.self) c.step_in.ensures c.ask_scan.ensures.went
