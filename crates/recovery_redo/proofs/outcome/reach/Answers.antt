use Rattle.std.proofs.Common.{arith}
use Rattle.recovery_scan.specs.Records.{entries_of}
use Rattle.recovery_redo.proofs.OutcomeLemmas.{reach_from}
use Rattle.recovery_redo.proofs.outcome.reach.Goals as goal

pub returns : goal.returns
returns c =
    let some = c.requires.logs.0 in
    let most = c.requires.logs.1 in
    let long = c.find_greatest.auto.greatest in
    reach_from c.args.logs c.args.floor (entries_of c.args.index.now) c.find_greatest.new.greatest c.least.result c.requires.logs.0 (omega arith) c.find_greatest.ensures c.least.ensures
