use Rattle.std.proofs.Common.{ap, sym, ◌∙◌}
use Rattle.log_record.proofs.KindLemmas.{no_short, no_purge, purge_stands, with_keys}
use Rattle.log_record.proofs.bodies.read_purge.Goals as goal

pub returns-then-bytes-clause-cause : goal.returns-then-bytes-clause-cause
returns-then-bytes-clause-cause c = no_short 7 c.args.bytes.now c.if-bytes.true

pub returns-in-Some-clause-answer : goal.returns-in-Some-clause-answer
returns-in-Some-clause-answer c =
    purge_stands c.args.bytes.now c.split_ref.result.1.now c.split_ref.result.0 c.read_keys.new.into _ c.in-Some.size (ap (with_keys c.read_keys.new.into) (sym c.set_purge.ensures.is ∙ c.in-Purge.is))
    c.split_ref.ensures.prefix c.split_ref.ensures.fits c.in-Some.ensures.answer

pub returns-in-None-clause-cause : goal.returns-in-None-clause-cause
returns-in-None-clause-cause c =
    no_purge c.args.bytes.now c.split_ref.result.1.now c.split_ref.result.0 c.split_ref.ensures.prefix c.split_ref.ensures.fits c.in-None.ensures.cause
