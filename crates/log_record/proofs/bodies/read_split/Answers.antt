use Rattle.std.proofs.Common.{ap, sym, ◌∙◌}
use Rattle.log_record.proofs.KindLemmas.{no_short, no_split, split_stands, with_pairs}
use Rattle.log_record.proofs.bodies.read_split.Goals as goal

pub returns-then-bytes-clause-cause : goal.returns-then-bytes-clause-cause
returns-then-bytes-clause-cause c = no_short 3 c.args.bytes.now c.if-bytes.true

pub returns-in-Some-clause-answer : goal.returns-in-Some-clause-answer
returns-in-Some-clause-answer c =
    split_stands c.args.bytes.now c.split_siblings.result.1.now c.split_byte-level.result.1.now c.split_siblings.result.0 c.split_byte-level.result.0 c.read_pairs.new.into _ c.in-Some.size
    (ap (with_pairs c.read_pairs.new.into) (sym c.set_split.ensures.is ∙ c.in-Split.is))
    c.split_siblings.ensures.prefix c.split_byte-level.ensures.prefix c.split_siblings.ensures.fits c.split_byte-level.ensures.fits c.in-Some.ensures.answer

pub returns-in-None-clause-cause : goal.returns-in-None-clause-cause
returns-in-None-clause-cause c =
    no_split c.args.bytes.now c.split_siblings.result.1.now c.split_byte-level.result.1.now c.split_siblings.result.0 c.split_byte-level.result.0
    c.split_siblings.ensures.prefix c.split_byte-level.ensures.prefix c.split_siblings.ensures.fits c.in-None.ensures.cause
