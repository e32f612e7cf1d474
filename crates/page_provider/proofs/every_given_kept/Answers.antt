use Rattle.page_provider.proofs.Fetched.{given_kept}
use Rattle.page_provider.proofs.every_given_kept.Goals as goal

pub returns : goal.returns
returns g c = given_kept (g.P.Part.story c.args.now.now)
