use Rattle.std.proofs.Common.{◌≡◌, length}
use Rattle.session_state.proofs.HeldLemmas.{AreLeft}
use Rattle.session_state.proofs.held.HeldRows.clear.Given as goal

abbrev pub invariant-loop-at : goal.invariant-loop-at
invariant-loop-at l =
    (l.self-inside.rows ≡ l.initial.self-inside.rows)
    × (length l.self-inside.marks.items ≡ length l.initial.self-inside.marks.items)
    × AreLeft l.self-inside.marks.items l.self-inside.rows.items l.at
