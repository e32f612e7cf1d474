use Rattle.call_parts.proofs.JoinLemmas.{every_join}
use Rattle.call_parts.proofs.every_join.Goals as goal

pub returns : goal.returns
returns g c = every_join (g.D.Disk.story c.args.old.now) (g.D.Disk.story c.args.mid.now) (g.D.Disk.story c.args.new.now) ((g.met.D.Disk g.world.𝓛 g.world.𝓜 g.world.𝓡 ((λ s x. x), (λ x. x), (λ x. x), (λ x. x))).lawful c.args.old.now) c.every_move.ensures
