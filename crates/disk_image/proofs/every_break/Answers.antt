use Rattle.disk_image.proofs.every_break.Goals as goal
use Rattle.disk_image.proofs.BreakLemmas.{every_break}

pub returns : goal.returns
returns c = every_break
