use Rattle.std.proofs.Common.{ap, sym, ◌∙◌}
use Rattle.log_record.proofs.KindLemmas.{no_short, no_drop, drop_stands, with_pairs}
use Rattle.log_record.proofs.bodies.read_drop_root.Goals as goal

pub returns-then-bytes-clause-cause : goal.returns-then-bytes-clause-cause
returns-then-bytes-clause-cause c = no_short 6 c.args.bytes.now c.if-bytes.true

pub returns-in-Some-clause-answer : goal.returns-in-Some-clause-answer
returns-in-Some-clause-answer c =
    drop_stands c.args.bytes.now c.split_root_change.result.1.now c.split_root_change.result.0 c.read_pairs.new.into _ c.in-Some.size (ap (with_pairs c.read_pairs.new.into) (sym c.set_drop_root.ensures.is ∙ c.in-DropRoot.is))
    c.split_root_change.ensures.prefix c.split_root_change.ensures.fits c.in-Some.ensures.answer

pub returns-in-None-clause-cause : goal.returns-in-None-clause-cause
returns-in-None-clause-cause c =
    no_drop c.args.bytes.now c.split_root_change.result.1.now c.split_root_change.result.0 c.split_root_change.ensures.prefix c.split_root_change.ensures.fits c.in-None.ensures.cause
