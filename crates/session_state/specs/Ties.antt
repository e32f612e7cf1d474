-- In which run an engine is.
use Rattle.std.specs.Prelude.{◌≡◌, ◌≤◌, ◌^◌, ◌++◌, ℕ, Bool, List, length}
use Rattle.btree_descent.specs.core_state.Openings.{Opening}
use Rattle.btree_descent.specs.core_state.Events.{Event}
use Rattle.btree_descent.specs.core_state.Steps.{AllMet, state_after}
use Rattle.engine_calls.specs.core_calls.Fronts.{Done, front}
use Rattle.engine_calls.specs.core_calls.Runs.{EachTells}
use Rattle.engine_trait.specs.Calls.{is_half_done}
use Rattle.engine_trait.specs.Limits.{AreLoads, limits}
use Rattle.btree_descent.specs.row_words.Moments.{events_of}
use Rattle.row_opening.specs.Openings.{Opens}
use Rattle.btree_descent.specs.rows_trait.declared.view.View.{View}

-- The rows began as the opening. The view has seen just the events of these outcomes, each of which is told behind those before it, and behind them
-- maybe the loads of the opening, which the next call takes to its own events. The outcomes tell whether an abort of session `own` is half done.
pub record Ties (g : Opening) (group : ℕ) (xs : List Done) (own : ℕ) (is_half_aborted : Bool) (v : View) : Type 0 where
  pub opens : Opens g v.given
  pub told : EachTells limits g group xs
  pub half_is : is_half_done own xs ≡ is_half_aborted
  pub loads : List Event
  pub are_loads : AreLoads loads
  pub few : length loads ≤ 2 ^ 16
  pub met : AllMet g (state_after g (front xs)) loads
  pub seen : events_of v.given.before ++ events_of v.seen ≡ front xs ++ loads

-- ## Within a call

-- the view has seen the events of the outcomes, and then these, each of which was met
pub record Behind (g : Opening) (xs : List Done) (first : List Event) (v : View) : Type 0 where
  pub opens : Opens g v.given
  pub met : AllMet g (state_after g (front xs)) first
  pub seen : events_of v.given.before ++ events_of v.seen ≡ front xs ++ first
