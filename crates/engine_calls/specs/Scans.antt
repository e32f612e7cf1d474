-- A scan: each pair that it meets, a pause, and its end.
use Rattle.std.specs.Prelude.{◌≡◌, ◌≤◌, ◌<◌, ℕ, suc, false, List, [], ◌∷◌, ◌++◌, Some}
use Rattle.map_model.specs.Lists.{any, keep}
use Rattle.map_model.specs.Maps.{MapAnswer}
use Rattle.run_crashes.specs.core_state.Openings.{Opening}
use Rattle.run_crashes.specs.core_state.Events.{Event, Mode}
use Rattle.run_crashes.specs.core_state.Needs.{value_in}
use Rattle.run_crashes.specs.core_state.Steps.{AllMet, state_after}
use Rattle.lean_disk.specs.Story.{Crash, Story}
use Rattle.run_crashes.specs.core_calls.Deeds.{Deed, Met, Over, Paused, Unsaid}
use Rattle.run_crashes.specs.core_calls.Fronts.{Done, front, outcomes}
use Rattle.run_crashes.specs.core_calls.LogEvents.{IsTightSomewhere, SyncsWhere}
use Rattle.run_crashes.specs.core_calls.Refusals.{Limits}
use Rattle.run_crashes.specs.core_calls.Scans.{ScansRows}
use Rattle.run_crashes.specs.core_calls.Steps.{Walks, is_step, is_structure, met_last, scan_from}
use Rattle.run_crashes.specs.disk_runs.Stands.{Known}
use Rattle.engine_calls.specs.Clauses.{Between, CallAnswers, MayCome}
use Rattle.engine_calls.specs.Parts.{Gone, behind_first}
use Rattle.engine_calls.specs.Puts.{IsWhole, is_alone}

-- rows are taken, and gaps are passed
abbrev pub PassesGaps : List Event → Type 0
PassesGaps [] = Unit {0}
PassesGaps (Event.Lock w i Mode.Shared ∷ es) = PassesGaps es
PassesGaps (Event.Next w p k (MapAnswer.Gap h) ∷ es) = PassesGaps es
PassesGaps _ = ⊥

-- a deed of session w by these events, behind reads of which nobody is told
abbrev pub scanned_by : ℕ → Deed → List Unsaid → List Event → Done
scanned_by w d us es = record { outcome = record { session = w; deed = d; unsaid = us }; events = es }

-- the pair that follows `at` in a leaf, behind these events
abbrev pub pair_behind : List Event → (w page at k v : ℕ) → List Event
pair_behind first w page at k v = first ++ Event.Next w page at (MapAnswer.Pair k v) ∷ []

-- What the body shows of the events of each: the outcome may come next; the need of each event is met; the rows of the entries that it met
-- are taken, and no others; before the pair, if one is met, rows are taken and gaps passed, the tree stays as it is, and at the logs there are whole syncs alone, each where a page that is needed finds no frame.
pub record IsScan (g : Opening) (xs : List Done) (x : Done) (first : List Event) : Type 0 where
  pub comes : MayCome xs x.outcome
  pub met : AllMet g (state_after g (front xs)) x.events
  pub rows : ScansRows g x.outcome.session (outcomes xs) (state_after g (front xs)) x.outcome.deed x.events
  pub gaps : PassesGaps (keep is_step first)
  pub structure : any is_structure first ≡ false
  pub syncs : SyncsWhere (IsTightSomewhere g) g (state_after g (front xs)) false first

-- the leaf has the pair there
abbrev pub IsPair : Opening → List Done → List Event → (page k v : ℕ) → Type 0
IsPair g xs first page k v = value_in g.format ((behind_first g xs first).page page).node k ≡ Some v

-- the pair behind the last, of which nobody is told
abbrev pub unsaid_pair : Opening → List Done → List Event → (w k v : ℕ) → Unsaid
unsaid_pair g xs first w k v = record { key = k; value = Some v; alone = is_alone g xs first w k }

-- Where the disk stands for the events before the pair, or for all if there is none, all clauses hold.
pub record ScanLaws (l : Limits) (g : Opening) (group : ℕ) (xs : List Done) (s0 : Crash) (k a : Known) (first : List Event) (w from to : ℕ) (old new : Story) : Type 0 where
  -- a pair is met
  pub met : (page at key v : ℕ) → let es = pair_behind first w page at key v in let x = scanned_by w (Met from to key v (is_alone g xs first w key)) [] es in
      Gone g xs first s0 k old a new → IsScan g xs x first → IsPair g xs first page key v → IsWhole xs w
      → key ≤ to → met_last (outcomes xs) < l.pairs → Walks w (scan_from (outcomes xs) from) (keep is_step es) (λ n. n ≡ suc key) → CallAnswers l g group xs x s0 k old new
  -- it has met as many as it prints
  pub paused : (next : ℕ) → let x = scanned_by w (Paused from to next) [] first in Gone g xs first s0 k old a new → IsScan g xs x first
      → keep is_step first ≡ [] → met_last (outcomes xs) ≡ l.pairs → next ≡ scan_from (outcomes xs) from → next ≤ to → CallAnswers l g group xs x s0 k old new
  -- it is over, behind gaps alone, or behind a pair above the last key
  pub over : let x = scanned_by w (Over from to) [] first in Gone g xs first s0 k old a new → IsScan g xs x first
      → (met_last (outcomes xs) ≡ l.pairs → to < scan_from (outcomes xs) from) → Walks w (scan_from (outcomes xs) from) (keep is_step first) (λ n. to < n) → CallAnswers l g group xs x s0 k old new
  pub beyond : (page at key v : ℕ) → let es = pair_behind first w page at key v in let x = scanned_by w (Over from to) (unsaid_pair g xs first w key v ∷ []) es in
      Gone g xs first s0 k old a new → IsScan g xs x first → IsPair g xs first page key v → to < key
      → (met_last (outcomes xs) ≡ l.pairs → to < scan_from (outcomes xs) from) → Walks w (scan_from (outcomes xs) from) (keep is_step es) (λ n. to < n) → CallAnswers l g group xs x s0 k old new

-- in each run
abbrev pub EveryScan : (old new : Story) → Type 0
EveryScan old new = (l : Limits) (g : Opening) (group : ℕ) (xs : List Done) (s0 : Crash) (k a : Known) (first : List Event) (w from to : ℕ) → Between l g group xs s0 k old
    → ScanLaws l g group xs s0 k a first w from to old new
