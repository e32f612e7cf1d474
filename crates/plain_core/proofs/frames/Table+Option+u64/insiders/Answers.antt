use Rattle.std.proofs.Common.{Bool, arith}
use Rattle.core_state.specs.Needs as needs
use Rattle.plain_core.proofs.Meanings.{same_found, all_meant}
use Rattle.plain_core.proofs.frames.Table+Option+u64.insiders.Goals as goal

pub returns : goal.returns
returns c = λ i. same_found (λ (b : Bool). b) needs.is_inside c.loop-change.changes.items c.args.self.now.changes.items c.is_inside-2.result c.args.self.now.default i
    (all_meant (λ (b : Bool). b) needs.is_inside c.loop-change.changes.items c.args.self.now.changes.items c.loop-change.change-index (omega (arith, c.loop-change-test.false, c.deref-change-items.ensures.len)) c.loop-change.invariant) c.is_inside-2.ensures
