-- An abort: where it may come, and what it tells.
use Rattle.paged_desks.specs.engine_trait.Serving.{unserved_answer}
use Rattle.paged_desks.specs.engine_trait.declared.unserved.Unanswered.{Unanswered}
use Rattle.std.specs.Prelude.{◌≡◌, ◌++◌, ℕ, Bool, true, false, List, ◌∷◌, Some, Result, Ok, Err}
use Rattle.map_model.specs.declared.call.Answer.{Answer}
use Rattle.map_model.specs.declared.call.Answer.TheVariants as answer
use Rattle.map_model.specs.declared.call.Call.{Call}
use Rattle.map_model.specs.declared.call.Call.TheVariants as call
use Rattle.paged_desks.specs.engine_trait.declared.unserved.Unserved.{Unserved}
use Rattle.paged_desks.specs.core_calls.Fronts.{Done, outcomes}
use Rattle.paged_desks.specs.core_calls.Steps.{hindered_in}
use Rattle.paged_desks.specs.core_state.Openings.{Opening}
use Rattle.paged_desks.specs.core_state.States.{flushed_by_all}
use Rattle.paged_desks.specs.engine_calls.Clauses.{IsNewLine}
use Rattle.row_ends.specs.Ends.{gives}
use Rattle.row_ends.specs.Receipts.{IsEnded}
use Rattle.row_ends.specs.declared.ending.Ended.{Ended}
use Rattle.paged_desks.specs.row_words.declared.event.Event.{Event}
use Rattle.paged_desks.specs.row_words.declared.event.Event.TheVariants.{End}
use Rattle.paged_desks.specs.row_words.Openings.{opening}
use Rattle.paged_desks.specs.rows_trait.declared.view.View.{View}
use Rattle.paged_desks.specs.rows_trait.Views.{state}
use Rattle.paged_desks.specs.Machines.{view_of}
use Rattle.paged_desks.specs.declared.machine.PagedMachine.{PagedMachine}

-- ## Where it may come

-- The line asks it; or the newest outcome is a call of the session, in its open transaction, that met a conflict, and it is the abort of that.
pub data MayAbort (own : ℕ) (is_open : Bool) (c : Call) (g : Opening) (xs : List Done) : Type 0 where
  Asked : IsNewLine (outcomes xs) → c ≡ call.Abort → MayAbort own is_open c g xs
  Hindered : is_open ≡ true → (y : Done) (earlier : List Done) → xs ≡ y ∷ earlier → hindered_in y.outcome.deed ≡ Some c → y.outcome.session ≡ own → MayAbort own is_open c g xs

abbrev pub abort_answer : Result Ended Unserved → Result Answer Unanswered
abort_answer (Ok ended) = Ok (answer.Aborted ended.number)
abort_answer (Err why) = unserved_answer why

-- ## What it tells

-- The numbers of the transaction and of its end, and what the end needs, by how far the logs were flushed when it ended: then its changes were put back, and its rows were given back next.
pub record HasReceipt {D : Type 0} (m n : PagedMachine D) (e : Ended) : Type 0 where
  pub before : View
  pub events : List Event
  pub given : before.given ≡ (view_of m).given
  pub kept : (view_of n).given ≡ (view_of m).given
  pub seen : before.seen ≡ (view_of m).seen ++ events
  pub told : IsEnded before n.machine.work.session e
  pub floor : ℕ
  pub floor_is : floor ≡ flushed_by_all (opening before.given) (state before).core
  pub rows : List ℕ
  pub ended : (view_of n).seen ≡ before.seen ++ End m.machine.work.session.own false floor ∷ gives m.machine.work.session.own rows
