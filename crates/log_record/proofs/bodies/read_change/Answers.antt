use Rattle.log_record.proofs.KindLemmas.{no_short, change_stands}
use Rattle.log_record.proofs.bodies.read_change.Goals as goal

pub returns-then-bytes-clause-cause : goal.returns-then-bytes-clause-cause
returns-then-bytes-clause-cause c = no_short 1 c.args.bytes.now c.if-bytes.true

pub returns-clause-answer : goal.returns-clause-answer
returns-clause-answer c = change_stands c.args.bytes.now c.split_key_change.result.1.now c.split_key_change.result.0 c.set_change.new.body c.set_change.ensures c.split_key_change.ensures.prefix c.split_key_change.ensures.fits
