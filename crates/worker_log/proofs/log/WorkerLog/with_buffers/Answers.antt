use Rattle.std.proofs.Common.{rules}
use Rattle.worker_log.proofs.KeptLemmas.{kept_fresh}
use Rattle.worker_log.proofs.log.WorkerLog.with_buffers.Goals as goal

pub returns-clause-starts : goal.returns-clause-starts
returns-clause-starts c = rw c.requires.ends.0 (λ area fresh. kept_fresh c.args.generation c.args.log c.args.blocks c.args.head c.args.flushed area fresh)
