-- What an end tells.
use Rattle.std.proofs.Common.{◌≡◌, ◌+◌, ℕ, Bool, true, List, sym, ◌∙◌}
use Rattle.rfa_model.specs.Stamps.{need_of}
use Rattle.session_state.specs.rows_trait.Views.{Shape, state}
use Rattle.session_state.specs.rows_trait.declared.view.View.{View}
use Rattle.session_state.specs.worker_log.Logs.{Log}
use Rattle.row_ends.specs.Ends.{Latched}
use Rattle.row_ends.specs.Flushed.{flushed_to}
use Rattle.row_ends.specs.Receipts.{IsEnded}
use Rattle.session_state.specs.declared.session.Session.{Session}
use Rattle.row_ends.proofs.FinishLemmas.{floor_found}

-- where the numbers up to which all logs are flushed were loaded
pub receipt : (z : Shape) (v : View) (x y : Session) (log : Log) (marks : List Bool) → Latched z v x log marks → x.is_open ≡ true → (floor need : ℕ) → floor ≡ flushed_to (state v).core x.workers → need ≡ need_of x.clock.debt floor
    → y.txn ≡ x.txn → y.end ≡ x.clock.clock + 1 → y.clock.debt ≡ x.clock.debt → IsEnded v y (record { number = x.txn; at = x.clock.clock + 1; need = need })
receipt z v x y log marks l opened floor need loaded need_is txn end debt = record {
  number = sym txn;
  at = sym end;
  need = need_is ∙ (λ i. need_of (sym debt i) (floor_found z v x log marks l opened floor loaded i));
}
