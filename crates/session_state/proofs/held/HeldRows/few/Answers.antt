use Rattle.std.proofs.Common.{◌≤◌, length, subst, arith}
use Rattle.session_state.proofs.HeldLemmas.{count_most}
use Rattle.session_state.proofs.held.HeldRows.few.Goals as goal

pub returns : goal.returns
returns c = subst (λ h. length h.rows ≤ h.count) c.self.view_is (let a = c.self.invariant.count in let b = count_most c.self.inside.marks.items in omega arith)
