use Rattle.run_tests.proofs.AnswerLemmas.{every_line_is_answered}
use Rattle.run_tests.proofs.every_line_is_answered.Goals as goal

pub returns : goal.returns
returns g c = every_line_is_answered (g.D.Disk.story c.args.old.now) (g.D.Disk.story c.args.new.now)
