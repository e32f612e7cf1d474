use Rattle.std.proofs.Common.{rules}
use Rattle.clap.specs.Words.{found_of, rows_of}
use Rattle.lean_shell.proofs.WordLemmas.{if_none, only_format, only_make, only_run}
use Rattle.lean_shell.proofs.words.asked.Goals as goal

pub returns-in_err-shape-clause-none : goal.returns-in_err-shape-clause-none
returns-in_err-shape-clause-none c = if_none c.from_residual.result (only_format c.args.name.now (rows_of (found_of c.args.options.now)) (search rules) c.in_err-shape.ensures.none)

pub returns-in_err-size-clause-none : goal.returns-in_err-size-clause-none
returns-in_err-size-clause-none c = if_none c.from_residual-in_err-size.result (only_run c.args.name.now (rows_of (found_of c.args.options.now)) (search rules) c.in_err-size.ensures.none)

pub returns-in_err-workload-clause-none : goal.returns-in_err-workload-clause-none
returns-in_err-workload-clause-none c = if_none c.from_residual-in_err-workload.result (only_make c.args.name.now (rows_of (found_of c.args.options.now)) (search rules) c.in_err-workload.ensures.none)
