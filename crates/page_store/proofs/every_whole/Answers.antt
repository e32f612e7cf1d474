use Rattle.page_store.proofs.PieceLemmas.{every_whole}
use Rattle.page_store.proofs.every_whole.Goals as goal

pub returns : goal.returns
returns c = every_whole
