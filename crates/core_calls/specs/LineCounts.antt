-- How many answers there are to the lines of a script, and how many durable lines to the answers.
use Rattle.std.specs.Prelude.{◌≡◌, ◌≤◌, ◌+◌, ◌*◌, ℕ, Bool, true, false, not, List, length, map}
use Rattle.map_model.specs.declared.call.Call.{Call}
use Rattle.map_model.specs.declared.call.Call.TheVariants as call
use Rattle.map_model.specs.Lists.{keep}
use Rattle.map_model.specs.Pairings.{script_of}
use Rattle.core_crash.specs.core_state.Openings.{Opening}
use Rattle.core_calls.specs.Deeds.{asked, in_words}
use Rattle.core_calls.specs.Refusals.{Limits}
use Rattle.core_calls.specs.Fronts.{Done, outcomes}
use Rattle.core_calls.specs.Runs.{EachTells}
use Rattle.core_calls.specs.Durables.{durables, moments}
use Rattle.core_calls.specs.Printed.{printed}

-- a scan
abbrev pub is_scan_call : Call → Bool
is_scan_call (call.Scan from to) = true
is_scan_call _ = false

-- another call was asked
abbrev pub asks_no_scan : Done → Bool
asks_no_scan x = not (is_scan_call (asked x.outcome.deed))

-- the lines that were executed, the oldest first
abbrev pub lines_asked : List Done → List (ℕ × Call)
lines_asked xs = script_of (map in_words (outcomes xs))

-- A line has as many answers as a scan may tell pairs, and two more: where it goes on, or that it is over; or a refusal; or a conflict, and
-- that its transaction is aborted.
pub record LineCountLaws (l : Limits) (g : Opening) (xs : List Done) : Type 0 where
  pub answers : length xs ≤ (l.pairs + 2) * length (lines_asked xs)
  -- but for scans it has two
  pub others : length (keep asks_no_scan xs) ≤ 2 * length (lines_asked xs)
  -- each answer is of one commit at most
  pub reported : length (durables g (moments xs)) ≤ length xs
  -- what is printed are the answers and the durable lines
  pub printed_are : length (printed g xs) ≡ length xs + length (durables g (moments xs))

-- of each run
abbrev pub EveryLineCount : Type 0
EveryLineCount = (l : Limits) (g : Opening) (group : ℕ) (xs : List Done) → EachTells l g group xs → LineCountLaws l g xs
