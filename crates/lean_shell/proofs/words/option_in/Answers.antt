use Rattle.lean_shell.proofs.WordLemmas.{if_none}
use Rattle.lean_shell.proofs.words.option_in.Goals as goal

pub returns-in_err-n-clause-none : goal.returns-in_err-n-clause-none
returns-in_err-n-clause-none c = if_none c.from_residual.result c.in_err-n.ensures.none
