use Rattle.std.proofs.Common.{sym, subst}
use Rattle.worker_log.specs.Kept.{IsKept}
use Rattle.worker_log.specs.Logs.{Log}
use Rattle.worker_log.proofs.KeptLemmas.{kept_marked}
use Rattle.worker_log.proofs.log.WorkerLog.mark.Goals as goal

pub returns-clause-kept : goal.returns-clause-kept
returns-clause-kept c = λ x area kept.
    let log : Log = c.args.self.now in
    subst (λ (l : Log). IsKept x (record l { last = c.args.number; flushed = c.args.number }) area) (sym c.self.view_is)
    (kept_marked c.args.number x log area c.requires.flushed c.requires.rises kept)
