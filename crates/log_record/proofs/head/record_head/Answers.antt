use Rattle.std.proofs.Common.{refl, sym}
use Rattle.log_record.proofs.RecordLemmas.{stands, no_stands, no_head, head_found}
use Rattle.log_record.proofs.head.record_head.Goals as goal

pub returns-then-bytes-lt-HEAD_SIZE-clause-every : goal.returns-then-bytes-lt-HEAD_SIZE-clause-every
returns-then-bytes-lt-HEAD_SIZE-clause-every c r n b = absurd (no_head c.args.bytes.now b.rest r c.if-bytes-lt-HEAD_SIZE.true b.spelled)

pub returns-then-bytes-lt-HEAD_SIZE-clause-cause : goal.returns-then-bytes-lt-HEAD_SIZE-clause-cause
returns-then-bytes-lt-HEAD_SIZE-clause-cause c r n b = no_head c.args.bytes.now b.rest r c.if-bytes-lt-HEAD_SIZE.true b.spelled

pub returns-in-Some-clause-answer : goal.returns-in-Some-clause-answer
returns-in-Some-clause-answer c =
    let s = c.in-Some.ensures.answer in
    let is = stands c.args.bytes.now c.split_head.result.1.now c.split_head.result.0 c.in-Some.size s.0 c.split_head.ensures.prefix c.split_head.ensures.fits s.1 in
    (_, is, sym s.1.is, refl, refl)

pub returns-in-Some-clause-every : goal.returns-in-Some-clause-every
returns-in-Some-clause-every c r n b =
    let s = c.in-Some.ensures.answer in
    head_found c.args.bytes.now c.split_head.result.1.now c.split_head.result.0 c.in-Some.size s.0 r n c.split_head.ensures.prefix c.split_head.ensures.fits s.1 b

pub returns-in-None-clause-every : goal.returns-in-None-clause-every
returns-in-None-clause-every c r n b =
    absurd (no_stands c.args.bytes.now c.split_head.result.1.now c.split_head.result.0 c.split_head.ensures.prefix c.split_head.ensures.fits c.in-None.ensures.cause r b.rest b.fits b.spelled)

pub returns-in-None-clause-cause : goal.returns-in-None-clause-cause
returns-in-None-clause-cause c r n b =
    no_stands c.args.bytes.now c.split_head.result.1.now c.split_head.result.0 c.split_head.ensures.prefix c.split_head.ensures.fits c.in-None.ensures.cause r b.rest b.fits b.spelled
