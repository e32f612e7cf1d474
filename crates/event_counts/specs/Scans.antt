-- What a scan takes: numbers, and masters, of which a sync writes one.
use Rattle.std.specs.Prelude.{◌≡◌, ◌≤◌, ◌+◌, ℕ, suc, List}
use Rattle.map_model.specs.declared.call.Call.TheVariants as call
use Rattle.page_model.specs.Limits.{transaction_changes}
use Rattle.disk_runs.specs.core_state.Openings.{Opening}
use Rattle.core_calls.specs.Deeds.{asked}
use Rattle.core_calls.specs.Fronts.{Done, outcomes}
use Rattle.core_calls.specs.Refusals.{Limits}
use Rattle.core_calls.specs.Runs.{Tells}
use Rattle.core_calls.specs.Steps.{call_behind}
use Rattle.disk_runs.specs.Masters.{masters}
use Rattle.event_counts.specs.Draws.{draws}

-- Of an outcome whose call is a scan, behind these.
pub record ScanCounts (g : Opening) (earlier : List Done) (x : Done) : Type 0 where
  -- a step of the scan draws no number, and makes one sync at most
  pub step : call_behind (outcomes earlier) (asked x.outcome.deed) ≡ asked x.outcome.deed → (draws x.events ≡ 0) × (masters x.events ≤ 1)
  -- the abort behind one that met a conflict draws a number for each change that it puts back, and one for its end
  pub few : (draws x.events ≤ suc g.changes) × (masters x.events ≤ 3)

-- where there are 24 frames beside those of the tallest way
abbrev pub EveryScanCount : Type 0
EveryScanCount = (l : Limits) (g : Opening) (group : ℕ) (earlier : List Done) (x : Done) (from to : ℕ) → 24 + suc g.format.levels ≤ g.frames → g.changes ≤ transaction_changes
    → Tells l g group earlier x → asked x.outcome.deed ≡ call.Scan from to → ScanCounts g earlier x
