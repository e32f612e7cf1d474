use Rattle.std.proofs.Common.{◌≡◌, true, MatchOption, subst, sym}
use Rattle.core_commit.specs.core_state.Needs.{may_hold}
use Rattle.transactions.specs.declared.hindrance.Mode.{Mode}
use Rattle.transactions.specs.Memory.{mode_of}
use Rattle.mem_journal.specs.Rows.{IsInTheWay}
use Rattle.mem_journal.proofs.RowLemmas.{way_readers}
use Rattle.mem_journal.proofs.row.Row.in_the_way.Goals as goal

pub returns-in-Alone : goal.returns-in-Alone
returns-in-Alone c o x =
    subst (λ (m : Mode). MatchOption c.other_reader.result (may_hold o c.args.w (mode_of m) ≡ true) (IsInTheWay o c.args.w (mode_of m))) (sym c.in-Alone.is)
    (way_readers o c.args.self.now c.args.w c.other_reader.result x c.in_default.is c.other_reader.ensures)
