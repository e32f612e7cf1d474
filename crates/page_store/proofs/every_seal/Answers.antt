use Rattle.page_store.proofs.SlotLemmas.{every_seal}
use Rattle.page_store.proofs.every_seal.Goals as goal

pub returns : goal.returns
returns c = every_seal
