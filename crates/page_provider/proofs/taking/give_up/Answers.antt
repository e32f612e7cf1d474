use Rattle.page_provider.proofs.Glances.{opens}
use Rattle.page_provider.proofs.taking.give_up.Goals as goal

pub give_up_one-requires-clause-one : goal.give_up_one-requires-clause-one
give_up_one-requires-clause-one g c = opens c.requires.one

pub give_up_one-requires-clause-same : goal.give_up_one-requires-clause-same
give_up_one-requires-clause-same g c = c.requires.one.first.same
