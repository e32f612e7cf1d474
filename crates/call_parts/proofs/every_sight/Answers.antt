use Rattle.call_parts.proofs.SightLemmas.{every_sight}
use Rattle.call_parts.proofs.every_sight.Goals as goal

pub returns : goal.returns
returns c = every_sight
