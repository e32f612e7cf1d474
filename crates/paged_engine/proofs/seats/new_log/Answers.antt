use Rattle.paged_engine.proofs.MadeLemmas.{made_if}
use Rattle.paged_engine.proofs.seats.new_log.Goals as goal

pub returns : goal.returns
returns c = made_if c.args.master.now c.args.number c.new.result c.new.ensures.log c.new.ensures.ranges c.new.ensures.starts
