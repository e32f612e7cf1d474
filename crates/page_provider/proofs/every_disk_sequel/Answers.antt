use Rattle.page_provider.proofs.Sequels.{disk_sequels}
use Rattle.page_provider.proofs.every_disk_sequel.Goals as goal

pub returns : goal.returns
returns g c old mid new = disk_sequels (g.P.Part.story old) (g.P.Part.story mid) (g.P.Part.story new) c.laws.ensures.disk
