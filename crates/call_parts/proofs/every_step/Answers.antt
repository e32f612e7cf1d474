use Rattle.call_parts.proofs.StepLemmas.{every_step}
use Rattle.call_parts.proofs.every_step.Goals as goal

pub returns : goal.returns
returns g c = every_step c.laws.ensures.reached c.laws.ensures.needs c.laws.ensures.versions c.laws.ensures.kept c.laws.ensures.prefixes c.laws.ensures.seals (g.D.Disk.story c.args.old.now) (g.D.Disk.story c.args.new.now) ((g.met.D.Disk g.world.𝓛 g.world.𝓜 g.world.𝓡 ((λ s x. x), (λ x. x), (λ x. x), (λ x. x))).lawful c.args.old.now)
