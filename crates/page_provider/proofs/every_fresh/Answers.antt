use Rattle.page_provider.proofs.Beginning.{fresh_keeps}
use Rattle.page_provider.proofs.every_fresh.Goals as goal

pub returns : goal.returns
returns c = fresh_keeps
