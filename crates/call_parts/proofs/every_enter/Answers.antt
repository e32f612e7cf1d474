use Rattle.call_parts.proofs.SightLemmas.{every_enter}
use Rattle.call_parts.proofs.every_enter.Goals as goal

pub returns : goal.returns
returns c = every_enter c.every_entry.ensures
