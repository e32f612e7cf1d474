use Rattle.rows_trait.proofs.Causes.{finds_low}
use Rattle.rows_trait.proofs.every_low.Goals as goal

pub returns : goal.returns
returns c = finds_low
