use Rattle.lean_shell.proofs.WordLemmas.{if_none}
use Rattle.lean_shell.proofs.words.read_size.Goals as goal

pub returns-in_err-rows-clause-none : goal.returns-in_err-rows-clause-none
returns-in_err-rows-clause-none c = if_none c.from_residual.result (λ s given. c.in_err-rows.ensures.none s.rows given.rows)

pub returns-in_err-group-clause-none : goal.returns-in_err-group-clause-none
returns-in_err-group-clause-none c = if_none c.from_residual-in_err-group.result (λ s given. c.in_err-group.ensures.none s.group given.group)

pub returns-in_err-frames-clause-none : goal.returns-in_err-frames-clause-none
returns-in_err-frames-clause-none c = if_none c.from_residual-in_err-frames.result (λ s given. c.in_err-frames.ensures.none s.frames given.frames)
