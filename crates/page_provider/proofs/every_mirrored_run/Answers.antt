use Rattle.page_provider.proofs.Mirrored.{runs_mirrored}
use Rattle.page_provider.proofs.every_mirrored_run.Goals as goal

pub returns : goal.returns
returns g c = runs_mirrored (g.P.Part.story c.args.now.now) c.every_mirrored.ensures c.every_reached.ensures
