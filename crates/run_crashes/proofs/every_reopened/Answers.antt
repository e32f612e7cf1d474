use Rattle.run_crashes.proofs.ReopenLemmas.{every_reopened}
use Rattle.run_crashes.proofs.every_reopened.Goals as goal

pub returns : goal.returns
returns c = every_reopened c.every_shown.ensures c.every_run_crash.ensures c.every_agreement.ensures
