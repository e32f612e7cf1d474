use Rattle.log_record.proofs.KindLemmas.{no_short, put_back_stands}
use Rattle.log_record.proofs.bodies.read_put_back.Goals as goal

pub returns-then-bytes-clause-cause : goal.returns-then-bytes-clause-cause
returns-then-bytes-clause-cause c = no_short 2 c.args.bytes.now c.if-bytes.true

pub returns-clause-answer : goal.returns-clause-answer
returns-clause-answer c = put_back_stands c.args.bytes.now c.split_key_change.result.1.now c.split_key_change.result.0 c.set_put_back.new.body c.set_put_back.ensures c.split_key_change.ensures.prefix c.split_key_change.ensures.fits
