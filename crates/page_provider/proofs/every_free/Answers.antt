use Rattle.page_provider.proofs.Marks.{free_are}
use Rattle.page_provider.proofs.every_free.Goals as goal

pub returns : goal.returns
returns c = free_are
