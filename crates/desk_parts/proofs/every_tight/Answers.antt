use Rattle.desk_parts.proofs.TightLemmas.{every_tight}
use Rattle.desk_parts.proofs.every_tight.Goals as goal

pub returns : goal.returns
returns c = every_tight c.every_reached.ensures c.every_where.ensures
