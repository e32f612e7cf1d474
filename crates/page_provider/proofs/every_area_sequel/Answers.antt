use Rattle.page_provider.proofs.Unwritten.{area_sequel}
use Rattle.page_provider.proofs.every_area_sequel.Goals as goal

pub returns : goal.returns
returns g c old mid new = area_sequel (g.P.Part.story old) (g.P.Part.story mid) (g.P.Part.story new)
