use Rattle.page_provider.proofs.Unwritten.{area_rest}
use Rattle.page_provider.proofs.every_area_rest.Goals as goal

pub returns : goal.returns
returns g c = area_rest (g.P.Part.story c.args.now.now) (g.met.P.Part.lawful c.args.now.now)
