use Rattle.std.proofs.Common.{Err, subst}
use Rattle.row_room.specs.row_changes.declared.ways.Unmade.{Unmade}
use Rattle.paged_calls.proofs.TidyWarms.{HasStepped, none_lost, never_needs, same_needs}
use Rattle.paged_calls.proofs.tidying.step_hot.Goals as goal

pub unserved_of-requires-clause-cut : goal.unserved_of-requires-clause-cut
unserved_of-requires-clause-cut g c = c.in-Err.ensures.cause_cold c.requires.warm

pub unserved_of-requires-clause-lost : goal.unserved_of-requires-clause-lost
unserved_of-requires-clause-lost g c = none_lost g.D.Disk.story c.args.key c.args.at c.args.machine.now c.step.new.machine c.in-Err.unmade c.in-Err.ensures.steps

pub returns-in-Err-clause-steps : goal.returns-in-Err-clause-steps
returns-in-Err-clause-steps g c = subst (λ (r : Unmade). HasStepped g.D.Disk.story c.args.key c.args.at c.args.machine.now c.step.new.machine (Err r)) c.unserved_of.ensures c.in-Err.ensures.steps

pub returns-in-Err-clause-higher : goal.returns-in-Err-clause-higher
returns-in-Err-clause-higher g c page l e = absurd (never_needs c.unserved_of.result page l e)

pub returns-in-Ok-clause-higher : goal.returns-in-Ok-clause-higher
returns-in-Ok-clause-higher g c page l e = c.in-Ok.ensures.higher page l (same_needs c.in-Ok.tidied page l e)
