use Rattle.std.proofs.Common.{arith}
use Rattle.core_state.specs.States as states
use Rattle.plain_core.specs.States.{place_of}
use Rattle.plain_core.proofs.Meanings.{same_found, all_meant}
use Rattle.plain_core.proofs.effects.Table+Place.left_by.Goals as goal

pub returns : goal.returns
returns c = λ i. same_found place_of (λ a. states.left_by c.args.worker (place_of a)) c.loop-change.changes.items c.args.self.now.changes.items c.in_ok-default.default c.args.self.now.default i
    (all_meant place_of (λ a. states.left_by c.args.worker (place_of a)) c.loop-change.changes.items c.args.self.now.changes.items c.loop-change.change-index (omega (arith, c.loop-change-test.false, c.deref-change-items.ensures.len)) c.loop-change.invariant) c.in_ok-default.ensures
