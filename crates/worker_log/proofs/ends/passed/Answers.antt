use Rattle.std.proofs.Common.{◌≡◌, ◌+◌, ◌∙◌, ℕ, drop, sym, ap, arith}
use Rattle.std.proofs.lemmas.Bool.{not-true}
use Rattle.std.proofs.lemmas.List.{drop_all}
use Rattle.worker_log.specs.Logs.{passed_by}
use Rattle.worker_log.proofs.EndLemmas.{passed_all, passed_more}
use Rattle.worker_log.proofs.ends.passed.Goals as goal

pub loop-at-preserved : goal.loop-at-preserved
loop-at-preserved c =
    let q = passed_more c.loop-at.at c.args.number c.args.ends.now.items (sym c.is_below.ensures ∙ c.if-not-is_below.false) in
    let a = q.0 in let i = c.loop-at.invariant in omega arith

pub returns-then-not-is_below-clause-count : goal.returns-then-not-is_below-clause-count
returns-then-not-is_below-clause-count c =
    let a = passed_all c.loop-at.at c.args.number c.args.ends.now.items (sym c.is_below.ensures ∙ c.if-not-is_below.true) in
    let i = c.loop-at.invariant in omega arith

pub returns-clause-count : goal.returns-clause-count
returns-clause-count c =
    let n = c.len-at-end.ensures.len in
    let m = c.len.ensures.len in
    let rest = ap (passed_by c.args.number) (drop_all c.loop-at.at c.args.ends.now.items (let l = c.loop-at-test.false in omega arith)) in
    let i = c.loop-at.invariant in let e = c.loop-at.auto.at-end in omega arith
