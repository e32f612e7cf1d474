use Rattle.master_store.proofs.AccountLemmas.{every_settled}
use Rattle.master_store.proofs.every_settled.Goals as goal

pub returns : goal.returns
returns c = every_settled
