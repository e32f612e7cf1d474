use Rattle.page_calls.proofs.Loading.{held_is}
use Rattle.page_calls.proofs.every_held.Goals as goal

pub returns : goal.returns
returns g c s0 go es x slots generation p slot y on few there holds = held_is s0 go es x slots generation p slot y (g.P.Part.story c.args.now.now) on few there holds
