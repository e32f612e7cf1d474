use Rattle.paged_opening.proofs.PageLemmas.{are_pages}
use Rattle.paged_opening.proofs.pages.are_pages.Goals as goal

pub returns : goal.returns
returns c = are_pages c.args.recovered.now c.requires
