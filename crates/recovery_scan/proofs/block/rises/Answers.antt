use Rattle.recovery_scan.proofs.block.rises.Goals as goal

pub returns-then-not-is_above-clause-no : goal.returns-then-not-is_above-clause-no
returns-then-not-is_above-clause-no c late = c.is_above.ensures.no c.if-not-is_above.true c.args.start c.args.from c.if-start-i.true c.loop-i.invariant.behind
