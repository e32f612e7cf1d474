use Rattle.std.proofs.Common.{◌≡◌, ◌≤◌, List, length}
use Rattle.core_state.specs.Openings.{Opening}
use Rattle.core_state.specs.Events.{Event}
use Rattle.transactions.specs.Paths.{Idles}
use Rattle.transactions.specs.Kinds.{in_any}
use Rattle.transactions.specs.Memory.{held_rows}
use Rattle.transactions.proofs.session.Session.unlatch_rows.Given as goal

abbrev pub invariant-loop-row : goal.invariant-loop-row
invariant-loop-row g l =
    (g.T.Place.rows l.place ≡ length l.self.held.items) × (l.row ≤ length l.self.held.items) × (g.T.Place.rows l.place ≡ g.T.Place.rows l.initial.place)
    × ((o : Opening) (es : List Event) → g.T.Place.stands o es (held_rows l.self.held.items l.initial.row) l.initial.place
    → Idles g.T.Place.stands g.T.Place.leaves g.T.Place.alone in_any o es l.self.session (held_rows l.self.held.items l.row) l.initial.place l.place)

abbrev pub decreases-loop-row : goal.decreases-loop-row
decreases-loop-row g l = l.row
