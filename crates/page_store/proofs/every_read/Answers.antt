use Rattle.page_store.proofs.HeldLemmas.{every_read}
use Rattle.page_store.proofs.every_read.Goals as goal

pub returns : goal.returns
returns c = every_read
