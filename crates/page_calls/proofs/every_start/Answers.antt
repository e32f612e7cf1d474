use Rattle.page_calls.proofs.Mirroring.{starts}
use Rattle.page_calls.proofs.every_start.Goals as goal

pub returns : goal.returns
returns g c = starts (g.P.Part.story c.args.now.now)
