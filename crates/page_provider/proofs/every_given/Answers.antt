use Rattle.page_provider.proofs.Givings.{given_is}
use Rattle.page_provider.proofs.every_given.Goals as goal

pub returns : goal.returns
returns g c = given_is (g.P.Part.story c.args.now.now) c.every_held.ensures c.every_reached.ensures
