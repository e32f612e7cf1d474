use Rattle.log_record.proofs.KindLemmas.{no_short, abort_stands}
use Rattle.log_record.proofs.bodies.read_abort.Goals as goal

pub returns-then-bytes-clause-cause : goal.returns-then-bytes-clause-cause
returns-then-bytes-clause-cause c = no_short 9 c.args.bytes.now c.if-bytes.true

pub returns-clause-answer : goal.returns-clause-answer
returns-clause-answer c = abort_stands c.args.bytes.now c.split_word-need.result.1.now c.split_word-need.result.0 c.set_abort.new.body c.set_abort.ensures c.split_word-need.ensures.prefix c.split_word-need.ensures.fits
