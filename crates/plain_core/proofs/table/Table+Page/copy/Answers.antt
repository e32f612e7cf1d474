use Rattle.std.proofs.Common.{arith}
use Rattle.plain_core.specs.Records.{page_of}
use Rattle.plain_core.proofs.Meanings.{same_found, all_meant}
use Rattle.plain_core.proofs.table.Table+Page.copy.Goals as goal

pub returns : goal.returns
returns c = λ i. same_found page_of page_of c.loop-change.changes.items c.args.self.now.changes.items c.in_ok-default.default c.args.self.now.default i
    (all_meant page_of page_of c.loop-change.changes.items c.args.self.now.changes.items c.loop-change.change-index (omega (arith, c.loop-change-test.false, c.deref-change-items.ensures.len)) c.loop-change.invariant) c.in_ok-default.ensures
