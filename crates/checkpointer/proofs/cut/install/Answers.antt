use Rattle.checkpointer.proofs.cut.install.Goals as goal

pub returns-clause-stands : goal.returns-clause-stands
returns-clause-stands g c = c.cut_master.ensures.stands c.in-Done.is
