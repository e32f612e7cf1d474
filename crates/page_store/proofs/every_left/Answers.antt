use Rattle.page_store.proofs.CrashLemmas.{every_left}
use Rattle.page_store.proofs.every_left.Goals as goal

pub returns : goal.returns
returns c = every_left
