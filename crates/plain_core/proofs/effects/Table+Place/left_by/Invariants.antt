use Rattle.std.proofs.Common.{drop}
use Rattle.core_state.specs.States as states
use Rattle.plain_core.specs.States.{place_of}
use Rattle.plain_core.proofs.Meanings.{HasMeant}
use Rattle.plain_core.proofs.effects.Table+Place.left_by.Given as goal

abbrev pub invariant-loop-change : goal.invariant-loop-change
invariant-loop-change l = HasMeant place_of (λ a. states.left_by l.worker (place_of a)) l.changes.items (drop l.change-index l.self.changes.items) l.self.changes.items
