use Rattle.page_provider.proofs.Mirrored.{gives_mirrored}
use Rattle.page_provider.proofs.every_mirrored_gives.Goals as goal

pub returns : goal.returns
returns g c = gives_mirrored (g.P.Part.story c.args.now.now)
