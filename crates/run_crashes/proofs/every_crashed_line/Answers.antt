use Rattle.run_crashes.proofs.LineLemmas.{every_crashed_line}
use Rattle.run_crashes.proofs.every_crashed_line.Goals as goal

pub returns : goal.returns
returns c = every_crashed_line c.every_shown.ensures c.every_run_crash.ensures c.every_agreement.ensures
