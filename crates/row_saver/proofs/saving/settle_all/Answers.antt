use Rattle.row_saver.proofs.RunLemmas.{settle_keeps, settles_run}
use Rattle.row_saver.proofs.saving.settle_all.Goals as goal

pub returns-clause-settled : goal.returns-clause-settled
returns-clause-settled g c = λ done o es generation. settles_run (c.settle.ensures.stands done) o es generation

pub returns-clause-keeps : goal.returns-clause-keeps
returns-clause-keeps g c = settle_keeps c.settle.ensures.any_moment c.settle.ensures.within
