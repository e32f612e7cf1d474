use Rattle.page_store.proofs.CrashLemmas.{every_fewer}
use Rattle.page_store.proofs.every_fewer.Goals as goal

pub returns : goal.returns
returns c = every_fewer
