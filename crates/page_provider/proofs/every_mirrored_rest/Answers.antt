use Rattle.page_provider.proofs.Mirrored.{rest_mirrored}
use Rattle.page_provider.proofs.every_mirrored_rest.Goals as goal

pub returns : goal.returns
returns g c = rest_mirrored (g.P.Part.story c.args.now.now)
