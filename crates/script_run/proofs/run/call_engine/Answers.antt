use Rattle.script_run.proofs.StopLemmas.{by_damage}
use Rattle.script_run.proofs.run.call_engine.Goals as goal

pub returns-in-Err-Damaged-clause-fails : goal.returns-in-Err-Damaged-clause-fails
returns-in-Err-Damaged-clause-fails g c o xs names run = by_damage (c.in-Err-Damaged).field-0-is ((c.in-Err-Damaged.ensures).stops o xs names run)
