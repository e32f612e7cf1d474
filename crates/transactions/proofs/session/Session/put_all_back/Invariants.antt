use Rattle.std.proofs.Common.{◌≡◌, List, [], length}
use Rattle.core_state.specs.Openings.{Opening}
use Rattle.core_state.specs.Events.{Event}
use Rattle.transactions.specs.Kinds.{in_any}
use Rattle.transactions.specs.Memory.{memory_of, Knows}
use Rattle.transactions.specs.Calls.{Backs}
use Rattle.transactions.proofs.session.Session.put_all_back.Given as goal

abbrev pub invariant-loop-self : goal.invariant-loop-self
invariant-loop-self g l =
    (g.T.Place.rows l.place ≡ length l.self.held.items) × (length l.self.held.items ≡ length l.initial.self.held.items)
    × ((l.self.is_open ≡ l.initial.self.is_open) × (l.self.session ≡ l.initial.self.session) × (l.self.held ≡ l.initial.self.held))
    × ((o : Opening) (es : List Event) → g.T.Place.stands o es [] l.initial.place → Knows o es (memory_of l.initial.self)
    → Backs g.T.Place.stands g.T.Place.leaves g.T.Place.alone in_any g.T.Place.cause o es l.initial.place l.place (memory_of l.initial.self) (memory_of l.self))

abbrev pub decreases-loop-self : goal.decreases-loop-self
decreases-loop-self g l = l.self.count
