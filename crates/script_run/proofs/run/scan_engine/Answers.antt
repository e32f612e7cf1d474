use Rattle.script_run.proofs.StopLemmas.{by_damage, by_fault}
use Rattle.script_run.proofs.run.scan_engine.Goals as goal

pub returns-in-Err-DiskFault-clause-fails : goal.returns-in-Err-DiskFault-clause-fails
returns-in-Err-DiskFault-clause-fails g c o y earlier names run = by_fault _ (c.in-Err-DiskFault).field-0-is ((c.in-Err-DiskFault.ensures).stops o y earlier names run)

pub returns-in-Err-Damaged-clause-fails : goal.returns-in-Err-Damaged-clause-fails
returns-in-Err-Damaged-clause-fails g c o y earlier names run = by_damage (c.in-Err-Damaged).field-0-is ((c.in-Err-Damaged.ensures).stops o y earlier names run)
