-- What an end of a transaction tells.
use Rattle.std.specs.Prelude.{◌≡◌}
use Rattle.rfa_model.specs.Stamps.{need_of}
use Rattle.session_state.specs.core_state.States.{flushed_by_all}
use Rattle.session_state.specs.row_words.Openings.{opening}
use Rattle.session_state.specs.rows_trait.declared.view.View.{View}
use Rattle.session_state.specs.rows_trait.Views.{state}
use Rattle.row_ends.specs.declared.ending.Ended.{Ended}
use Rattle.session_state.specs.declared.session.Session.{Session}

-- The number of the transaction and that of its end, as the session has them behind it; and what the end needs: what the session owes other logs, where they were
-- flushed as they were before the call.
pub record IsEnded (v : View) (y : Session) (e : Ended) : Type 0 where
  pub number : e.number ≡ y.txn
  pub at : e.at ≡ y.end
  pub need : e.need ≡ need_of y.clock.debt (flushed_by_all (opening v.given) (state v).core)
