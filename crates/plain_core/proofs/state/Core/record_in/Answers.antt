use Rattle.plain_core.specs.Records.{entry_of}
use Rattle.plain_core.specs.States.{worker_of}
use Rattle.plain_core.proofs.Placings.{moved}
use Rattle.plain_core.proofs.state.Core.record_in.Goals as goal

pub returns : goal.returns
returns c = moved c.args.self.now c.change_pages.new.self c.enter.new.self c.set_worker.new.self _ (entry_of c.args.entry) c.args.own (worker_of c.args.worker) c.in_ok-change_pages.ensures c.in_ok-enter.ensures c.in_ok-set_worker.ensures
