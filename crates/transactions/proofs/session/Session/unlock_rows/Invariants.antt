use Rattle.std.proofs.Common.{◌≡◌, ◌≤◌, ◌<◌, ℕ, false, List, length}
use Rattle.core_state.specs.Openings.{Opening}
use Rattle.core_state.specs.Events.{Event}
use Rattle.transactions.specs.Kinds.{in_any}
use Rattle.transactions.specs.Memory.{memory_of, Ties, has_row, held_rows}
use Rattle.transactions.proofs.LoopLemmas.{UnlockedSo}
use Rattle.transactions.proofs.session.Session.unlock_rows.Given as goal

abbrev pub invariant-loop-row : goal.invariant-loop-row
invariant-loop-row g l =
    (g.T.Place.rows l.place ≡ length l.self.held.items) × (length l.self.held.items ≡ length l.initial.self.held.items) × (l.row ≤ length l.self.held.items)
    × ((l.self.session ≡ l.initial.self.session) × (l.self.is_open ≡ l.initial.self.is_open) × (l.self.is_half ≡ l.initial.self.is_half) × (l.self.count ≡ l.initial.self.count) × (l.self.undo ≡ l.initial.self.undo))
    × ((i : ℕ) → l.row ≤ i → i < length l.self.held.items → has_row l.self.held.items i ≡ false)
    × ((o : Opening) (es : List Event) → g.T.Place.stands o es (held_rows l.initial.self.held.items (length l.initial.self.held.items)) l.initial.place → Ties o es (memory_of l.initial.self) → l.initial.self.is_open ≡ false
    → UnlockedSo g.T.Place.stands g.T.Place.leaves g.T.Place.alone in_any o es l.initial.place l.place (memory_of l.initial.self) (memory_of l.self) l.row)

abbrev pub decreases-loop-row : goal.decreases-loop-row
decreases-loop-row g l = l.row
