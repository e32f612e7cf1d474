use Rattle.page_provider.proofs.Unwritten.{unsaved}
use Rattle.page_provider.proofs.every_unsaved.Goals as goal

pub returns : goal.returns
returns g c old new = unsaved (g.P.Part.story old) (g.P.Part.story new)
