use Rattle.page_provider.proofs.Amounts.{few_are}
use Rattle.page_provider.proofs.every_few.Goals as goal

pub returns : goal.returns
returns c = few_are c.every_stood.ensures
