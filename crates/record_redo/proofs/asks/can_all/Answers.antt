use Rattle.std.proofs.Common.{length}
use Rattle.record_redo.proofs.asks.can_all.Goals as goal
use Rattle.record_redo.proofs.AskLemmas.{nowhere, can_more, can_fails}
use Rattle.record_redo.proofs.WriteLemmas.{below_at}

pub bounds-pages-refs : goal.bounds-pages-refs
bounds-pages-refs c = below_at (length c.args.pages.now) c.args.refs.now c.loop-i.i nowhere c.loop-i-test.true c.requires.below

pub returns-then-not-can_one : goal.returns-then-not-can_one
returns-then-not-can_one c =
    can_fails c.args.pages.now c.args.refs.now c.loop-i.i c.index-pages-refs.result c.can_one.result c.loop-i-test.true c.requires.below c.index-pages-refs.is c.args.body.now c.can_one.ensures c.if-not-can_one.true c.loop-i.invariant

pub loop-i-preserved : goal.loop-i-preserved
loop-i-preserved c =
    can_more c.args.pages.now c.args.refs.now c.loop-i.i c.index-pages-refs.result c.can_one.result c.loop-i-test.true c.requires.below c.index-pages-refs.is c.args.body.now c.can_one.ensures c.if-not-can_one.false c.loop-i.invariant
