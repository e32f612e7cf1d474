use Rattle.plain_core.specs.Records.{page_of, entry_of}
use Rattle.plain_core.specs.States.{worker_of}
use Rattle.plain_core.proofs.Runs.{wrote}
use Rattle.plain_core.proofs.state.Core.write.Goals as goal

pub returns : goal.returns
returns c = wrote c.args.self.now c.enter.new.self c.set_page.new.self c.set_worker.new.self (entry_of c.args.entry) c.args.place (page_of c.args.page) c.args.own (worker_of c.args.worker) c.in_ok-enter.ensures c.in_ok-set_page.ensures c.in_ok-set_worker.ensures
