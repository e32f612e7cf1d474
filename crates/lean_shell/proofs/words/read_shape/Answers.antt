use Rattle.lean_shell.proofs.WordLemmas.{if_none}
use Rattle.lean_shell.proofs.words.read_shape.Goals as goal

pub returns-in_err-workers-clause-none : goal.returns-in_err-workers-clause-none
returns-in_err-workers-clause-none c = if_none c.from_residual.result (λ s given. c.in_err-workers.ensures.none s.workers given.workers)

pub returns-in_err-pages-clause-none : goal.returns-in_err-pages-clause-none
returns-in_err-pages-clause-none c = if_none c.from_residual-in_err-pages.result (λ s given. c.in_err-pages.ensures.none s.pages given.pages)

pub returns-in_err-blocks-clause-none : goal.returns-in_err-blocks-clause-none
returns-in_err-blocks-clause-none c = if_none c.from_residual-in_err-blocks.result (λ s given. c.in_err-blocks.ensures.none s.blocks given.blocks)
