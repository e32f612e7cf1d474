use Rattle.std.proofs.Common.{Some, ap}
use Rattle.log_record.proofs.RecordLemmas.{found, stands, no_stands, no_head}
use Rattle.log_record.proofs.read.read_record.Goals as goal

pub returns-then-bytes-lt-HEAD_SIZE-clause-every : goal.returns-then-bytes-lt-HEAD_SIZE-clause-every
returns-then-bytes-lt-HEAD_SIZE-clause-every c r rest f e = absurd (no_head c.args.bytes.now rest r c.if-bytes-lt-HEAD_SIZE.true e)

pub returns-then-bytes-lt-HEAD_SIZE-clause-cause : goal.returns-then-bytes-lt-HEAD_SIZE-clause-cause
returns-then-bytes-lt-HEAD_SIZE-clause-cause c r rest f e = no_head c.args.bytes.now rest r c.if-bytes-lt-HEAD_SIZE.true e

pub returns-in-Some-clause-answer : goal.returns-in-Some-clause-answer
returns-in-Some-clause-answer c = stands c.args.bytes.now c.split_head.result.1.now c.split_head.result.0 c.in-Some.size c.read_body.new.body c.split_head.ensures.prefix c.split_head.ensures.fits c.in-Some.ensures.answer

pub returns-in-Some-clause-every : goal.returns-in-Some-clause-every
returns-in-Some-clause-every c r rest f e =
    let is = stands c.args.bytes.now c.split_head.result.1.now c.split_head.result.0 c.in-Some.size c.read_body.new.body c.split_head.ensures.prefix c.split_head.ensures.fits c.in-Some.ensures.answer in
    let same = found c.args.bytes.now r _ _ rest is f e in
    (ap Some same.0, same.1)

pub returns-in-None-clause-every : goal.returns-in-None-clause-every
returns-in-None-clause-every c r rest f e =
    absurd (no_stands c.args.bytes.now c.split_head.result.1.now c.split_head.result.0 c.split_head.ensures.prefix c.split_head.ensures.fits c.in-None.ensures.cause r rest f e)

pub returns-in-None-clause-cause : goal.returns-in-None-clause-cause
returns-in-None-clause-cause c r rest f e = no_stands c.args.bytes.now c.split_head.result.1.now c.split_head.result.0 c.split_head.ensures.prefix c.split_head.ensures.fits c.in-None.ensures.cause r rest f e
