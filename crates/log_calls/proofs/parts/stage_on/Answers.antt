use Rattle.std.proofs.Common.{rules}
use Rattle.log_calls.proofs.CallLemmas.{on_disk}
use Rattle.log_calls.proofs.parts.stage_on.Goals as goal

pub returns-clause-any_moment : goal.returns-clause-any_moment
returns-clause-any_moment g c = on_disk g.D.Disk.story c.new.result.disk.now c.args.disk.now c.stage.new.dev.disk.now _ c.new.result.area _ c.args.log.now c.new.ensures.disk (search rules) c.new.ensures.area c.stage.ensures.any_moment
