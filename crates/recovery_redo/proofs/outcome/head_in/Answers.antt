use Rattle.std.proofs.Common.{get_or, ap, arith}
use Rattle.recovery_redo.proofs.LogLemmas.{nothing, log_at}
use Rattle.recovery_redo.proofs.outcome.head_in.Goals as goal

pub returns-clause-log : goal.returns-clause-log
returns-clause-log c =
    let x = get_or c.args.index.now c.args.i nothing in
    let w = log_at c.args.logs c.args.index.now c.requires.of_logs c.args.i x c.requires.within (Rattle.std.proofs.lemmas.List.get_or_default c.args.index.now c.args.i nothing x c.requires.within) in
    let e = ap (λ (h : Rattle.log_index.specs.declared.head.Head.Head). h.log) (c.head.ensures nothing) in
    let a = w.0 in let b = w.1 in
    (omega arith, omega arith)
