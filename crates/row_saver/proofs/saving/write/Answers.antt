use Rattle.page_provider.proofs.Saves.{saved_size, writes_moments, writes_on}
use Rattle.std.proofs.Common.{◌∙◌}
use Rattle.page_provider.proofs.Framing.{framed_then, within_then}
use Rattle.row_saver.proofs.saving.write.Goals as goal

pub returns-clause-writes : goal.returns-clause-writes
returns-clause-writes g c = λ done. writes_on (c.settle_first.ensures.stands c.in-Done.is) (c.save.ensures.stands done)

pub returns-clause-size : goal.returns-clause-size
returns-clause-size g c = saved_size c.args.node.now.number c.settle_first.new.slots c.save.new.slots c.save.result c.save.ensures.after c.save.ensures.same ∙ c.settle_first.ensures.size

pub returns-clause-any_moment : goal.returns-clause-any_moment
returns-clause-any_moment g c = writes_moments (c.settle_first.ensures.stands c.in-Done.is) c.settle_first.ensures.any_moment c.save.ensures.any_moment

pub returns-clause-frame : goal.returns-clause-frame
returns-clause-frame g c = framed_then c.settle_first.ensures.frame c.save.ensures.frame

pub returns-clause-within : goal.returns-clause-within
returns-clause-within g c = within_then c.settle_first.ensures.frame c.settle_first.ensures.within c.save.ensures.within
