use Rattle.image_laws.proofs.every_formatted.Goals as goal
use Rattle.image_laws.proofs.FormattedLemmas.{every_formatted}

pub returns : goal.returns
returns c = every_formatted
