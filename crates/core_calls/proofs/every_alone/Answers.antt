use Rattle.core_calls.proofs.AloneLemmas.{every_alone}
use Rattle.core_calls.proofs.every_alone.Goals as goal

pub returns : goal.returns
returns c = every_alone c.every_need.ensures c.every_holder.ensures c.every_floor.ensures c.every_rise.ensures c.every_durable.ensures c.every_commit.ensures
