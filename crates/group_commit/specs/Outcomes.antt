-- Which outcome of a run ends a transaction, and the receipt of it.
use Rattle.std.specs.Prelude.{◌≡◌, Bool, true, false, List, ◌∷◌, Option, Some, None}
use Rattle.rfa_model.specs.Stamps.{need_of}
use Rattle.core_crash.specs.core_state.Openings.{Opening}
use Rattle.core_crash.specs.core_state.States.{flushed_by_all}
use Rattle.core_crash.specs.core_state.Steps.{state_after}
use Rattle.core_calls.specs.Deeds.{Deed, Committed, Aborted}
use Rattle.core_calls.specs.Fronts.{Done, front}
use Rattle.group_commit.specs.declared.receipts.Receipt.{Receipt}

-- by a commit, or by an abort
abbrev pub ends_by : Deed → Option Bool
ends_by (Committed n at) = Some true
ends_by (Aborted c n at backs) = Some false
ends_by _ = None

-- The receipt of a session's end, by what its worker has behind the call, and what all logs had flushed before it.
pub record IsOfOutcome (g : Opening) (xs : List Done) (x : Done) (r : Receipt) : Type 0 where
  pub txn : r.txn ≡ ((state_after g (front (x ∷ xs))).worker x.outcome.session).txn
  pub log : r.log ≡ x.outcome.session
  pub gsn : r.gsn ≡ ((state_after g (front (x ∷ xs))).worker x.outcome.session).end
  pub need : r.need ≡ need_of ((state_after g (front (x ∷ xs))).worker x.outcome.session).debt (flushed_by_all g (state_after g (front xs)))
