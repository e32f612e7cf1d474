use Rattle.page_provider.proofs.Writing.{disked_misses}
use Rattle.page_provider.proofs.every_disk_rest.Goals as goal

pub returns : goal.returns
returns g c alone v u k r = disked_misses c.laws.ensures.disk (g.met.P.Part.lawful c.args.now.now) r tt
