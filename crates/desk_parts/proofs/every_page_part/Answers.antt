use Rattle.desk_parts.proofs.PageLemmas.{every_page_part}
use Rattle.desk_parts.proofs.every_page_part.Goals as goal

pub returns : goal.returns
returns g c = every_page_part (g.D.Disk.story c.args.old.now) (g.D.Disk.story c.args.new.now) c.every_area.ensures c.every_step.ensures
