use Rattle.lean_shell.proofs.WordLemmas.{if_none}
use Rattle.lean_shell.proofs.words.read_workload.Goals as goal

pub returns-in_err-number-clause-none : goal.returns-in_err-number-clause-none
returns-in_err-number-clause-none c = if_none c.from_residual.result (λ w given. c.in_err-number.ensures.none w.number given.number)

pub returns-in_err-count-clause-none : goal.returns-in_err-count-clause-none
returns-in_err-count-clause-none c = if_none c.from_residual-in_err-count.result (λ w given. c.in_err-count.ensures.none w.count given.count)
