use Rattle.page_calls.proofs.Mirroring.{mirrored}
use Rattle.page_calls.proofs.every_mirrored.Goals as goal

pub returns : goal.returns
returns g c s0 go es x slots generation on = mirrored c.every_whole.ensures s0 go es x slots generation (g.P.Part.story c.args.now.now) on
