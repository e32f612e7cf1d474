use Rattle.std.proofs.Common.{◌≡◌, true}
use Rattle.embed.proofs.TurnLemmas.{still_left}
use Rattle.embed.specs.Turns.{IsBehindAnswer}
use Rattle.embed.proofs.tell_pairs.Given as goal

abbrev pub invariant-pairs : goal.invariant-pairs
invariant-pairs l = (l.engine.works ≡ true) × (l.engine.sessions ≡ l.initial.engine.sessions) × IsBehindAnswer l.engine.next

abbrev pub decreases-pairs : goal.decreases-pairs
decreases-pairs l = still_left l.engine.next l.engine.scan
