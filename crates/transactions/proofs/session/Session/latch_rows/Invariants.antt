use Rattle.std.proofs.Common.{◌≡◌, List, [], length}
use Rattle.core_state.specs.Openings.{Opening}
use Rattle.core_state.specs.Events.{Event}
use Rattle.transactions.specs.Paths.{Idles}
use Rattle.transactions.specs.Kinds.{in_any}
use Rattle.transactions.specs.Memory.{memory_of, Ties, held_rows}
use Rattle.transactions.proofs.session.Session.latch_rows.Given as goal

abbrev pub invariant-loop-row : goal.invariant-loop-row
invariant-loop-row g l =
    (g.T.Place.rows l.place ≡ length l.self.held.items) × (g.T.Place.rows l.place ≡ g.T.Place.rows l.initial.place)
    × ((o : Opening) (es : List Event) → g.T.Place.stands o es [] l.initial.place → Ties o es (memory_of l.self)
    → Idles g.T.Place.stands g.T.Place.leaves g.T.Place.alone in_any o es l.self.session (held_rows l.self.held.items l.row) l.initial.place l.place)
