use Rattle.core_paging.proofs.every_last_log.Goals as goal
use Rattle.core_paging.proofs.LogLemmas.{every_last_log}

pub returns : goal.returns
returns c = every_last_log
