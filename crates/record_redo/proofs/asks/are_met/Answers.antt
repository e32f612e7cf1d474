use Rattle.std.proofs.Common.{length}
use Rattle.record_redo.proofs.asks.are_met.Goals as goal
use Rattle.record_redo.proofs.AskLemmas.{nowhere, met_more, met_fails}
use Rattle.record_redo.proofs.WriteLemmas.{below_at}

pub bounds-pages-refs : goal.bounds-pages-refs
bounds-pages-refs c = below_at (length c.args.pages.now) c.args.refs.now c.loop-i.i nowhere c.loop-i-test.true c.requires

pub returns-then-not-is_met : goal.returns-then-not-is_met
returns-then-not-is_met c =
    met_fails c.args.pages.now c.args.refs.now c.loop-i.i c.index-pages-refs.result c.is_met.result c.loop-i-test.true c.requires c.index-pages-refs.is c.args.number c.is_met.ensures c.if-not-is_met.true c.loop-i.invariant

pub loop-i-preserved : goal.loop-i-preserved
loop-i-preserved c =
    met_more c.args.pages.now c.args.refs.now c.loop-i.i c.index-pages-refs.result c.is_met.result c.loop-i-test.true c.requires c.index-pages-refs.is c.args.number c.is_met.ensures c.if-not-is_met.false c.loop-i.invariant
