use Rattle.page_provider.proofs.Sequels.{sequels}
use Rattle.page_provider.proofs.every_sequel.Goals as goal

pub returns : goal.returns
returns c = sequels c.laws.ensures.rows
