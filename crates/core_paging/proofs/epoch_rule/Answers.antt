use Rattle.core_paging.proofs.epoch_rule.Goals as goal
use Rattle.core_paging.proofs.Laws.{epoch_rule}

pub returns : goal.returns
returns c = epoch_rule
