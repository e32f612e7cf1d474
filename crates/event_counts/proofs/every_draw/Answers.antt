use Rattle.event_counts.proofs.every_draw.Goals as goal
use Rattle.event_counts.proofs.DrawLemmas.{every_draw}

pub returns : goal.returns
returns c = every_draw
