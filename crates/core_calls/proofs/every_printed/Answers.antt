use Rattle.core_calls.proofs.PrintedLemmas.{every_printed}
use Rattle.core_calls.proofs.every_printed.Goals as goal

pub returns : goal.returns
returns c = every_printed
