use Rattle.page_provider.proofs.Descents.{descent_is}
use Rattle.page_provider.proofs.every_descent.Goals as goal

pub returns : goal.returns
returns c = descent_is
