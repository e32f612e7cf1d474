use Rattle.std.proofs.Common.{Bool, drop}
use Rattle.core_state.specs.Needs as needs
use Rattle.plain_core.proofs.Meanings.{HasMeant}
use Rattle.plain_core.proofs.frames.Table+Option+u64.insiders.Given as goal

abbrev pub invariant-loop-change : goal.invariant-loop-change
invariant-loop-change l = HasMeant (λ (b : Bool). b) needs.is_inside l.changes.items (drop l.change-index l.self.changes.items) l.self.changes.items
