use Rattle.page_provider.proofs.Losses.{found_is}
use Rattle.page_provider.proofs.every_found.Goals as goal

pub returns : goal.returns
returns g c now = found_is (g.D.Disk.story now) c.every_reached.ensures c.every_seal.ensures
