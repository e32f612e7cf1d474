-- The answers alone: what a body shows of its events is told by them, whatever a disk is.
use Rattle.std.specs.Prelude.{◌≡◌, ◌≤◌, ◌<◌, ℕ, suc, Bool, true, List, [], ◌∷◌, Option, None, Some}
use Rattle.map_model.specs.Lists.{keep}
use Rattle.map_model.specs.declared.call.Call.{Call}
use Rattle.map_model.specs.declared.call.Call.TheVariants as call
use Rattle.map_model.specs.declared.call.Refusal.{Refusal}
use Rattle.run_crashes.specs.core_state.Openings.{Opening}
use Rattle.run_crashes.specs.core_state.Events.{Event, Mode}
use Rattle.run_crashes.specs.log_record.declared.record.Record.{Record}
use Rattle.run_crashes.specs.core_calls.Deeds.{Absent, Changed, Deleted, Got, Met, Over, Paused}
use Rattle.run_crashes.specs.core_calls.Fronts.{Done, outcomes}
use Rattle.run_crashes.specs.core_calls.Refusals.{Limits}
use Rattle.run_crashes.specs.core_calls.Runs.{Tells}
use Rattle.run_crashes.specs.core_calls.Steps.{Walks, is_step, met_last, scan_from}
use Rattle.engine_calls.specs.Aborts.{IsAbort, aborted_by}
use Rattle.engine_calls.specs.Begins.{IsBegin, begun_by}
use Rattle.engine_calls.specs.Commits.{IsCommit, committed_by}
use Rattle.engine_calls.specs.Halves.{IsHalved, halved_by}
use Rattle.engine_calls.specs.Puts.{IsRead, IsWhole, IsWrite, changed_by, is_alone, read_by, taking}
use Rattle.engine_calls.specs.Refused.{IsRefusal, refused_by}
use Rattle.engine_calls.specs.Scans.{IsPair, IsScan, pair_behind, scanned_by, unsaid_pair}

-- Behind these outcomes, by call.
pub record AnswerLaws (l : Limits) (g : Opening) (group : ℕ) (xs : List Done) : Type 0 where
  pub begin : (before : List Event) (w number f : ℕ) → IsBegin l g xs before w number f → Tells l g group xs (begun_by before w number f)
  pub get : (before between : List Event) (w page key : ℕ) (value : Option ℕ) → let first = taking g w key Mode.Shared before between in IsRead g xs (call.Get key) Mode.Shared before between w page key value
      → Tells l g group xs (read_by (Got key value (is_alone g xs first w key)) first w page key value)
  pub absent : (before between : List Event) (w page key : ℕ) → let first = taking g w key Mode.Alone before between in IsRead g xs (call.Del key) Mode.Alone before between w page key None → is_alone g xs first w key ≡ true
      → Tells l g group xs (read_by (Absent key) first w page key None)
  pub put : (before between : List Event) (w page key value : ℕ) (was : Option ℕ) (r : Record) → IsWrite g xs (call.Put key value) before between w page key value was r → value < g.format.dead
      → Tells l g group xs (changed_by (Changed key value was) (taking g w key Mode.Alone before between) w page key value)
  pub del : (before between : List Event) (w page key was : ℕ) (r : Record) → IsWrite g xs (call.Del key) before between w page key g.format.dead (Some was) r
      → Tells l g group xs (changed_by (Deleted key was) (taking g w key Mode.Alone before between) w page key g.format.dead)
  -- a pair of a scan
  pub met : (first : List Event) (w page at from to key v : ℕ) → let es = pair_behind first w page at key v in let x = scanned_by w (Met from to key v (is_alone g xs first w key)) [] es in
      IsScan g xs x first → IsPair g xs first page key v → IsWhole xs w → key ≤ to → met_last (outcomes xs) < l.pairs → Walks w (scan_from (outcomes xs) from) (keep is_step es) (λ n. n ≡ suc key) → Tells l g group xs x
  -- it has met as many as it prints
  pub paused : (first : List Event) (w from to next : ℕ) → let x = scanned_by w (Paused from to next) [] first in
      IsScan g xs x first → keep is_step first ≡ [] → met_last (outcomes xs) ≡ l.pairs → next ≡ scan_from (outcomes xs) from → next ≤ to → Tells l g group xs x
  -- it is over, behind gaps alone, or behind a pair above the last key
  pub over : (first : List Event) (w from to : ℕ) → let x = scanned_by w (Over from to) [] first in
      IsScan g xs x first → (met_last (outcomes xs) ≡ l.pairs → to < scan_from (outcomes xs) from) → Walks w (scan_from (outcomes xs) from) (keep is_step first) (λ n. to < n) → Tells l g group xs x
  pub beyond : (first : List Event) (w page at from to key v : ℕ) → let es = pair_behind first w page at key v in let x = scanned_by w (Over from to) (unsaid_pair g xs first w key v ∷ []) es in
      IsScan g xs x first → IsPair g xs first page key v → to < key → (met_last (outcomes xs) ≡ l.pairs → to < scan_from (outcomes xs) from) → Walks w (scan_from (outcomes xs) from) (keep is_step es) (λ n. to < n) → Tells l g group xs x
  pub commit : (first : List Event) (w number at f : ℕ) (rows : List ℕ) (due : Bool) (r : Record) → IsCommit g group xs first w number at f rows due r → Tells l g group xs (committed_by first w number at f rows due)
  pub abort : (c : Call) (first : List Event) (w number at f : ℕ) (rows : List ℕ) (r : Record) → IsAbort g xs c first w number at f rows r → Tells l g group xs (aborted_by g xs c first w number at f rows)
  pub halved : (w : ℕ) (c : Call) (es : List Event) → IsHalved l g xs w c es → Tells l g group xs (halved_by g xs w c es)
  pub refused : (w : ℕ) (c : Call) (why : Refusal) (es : List Event) → IsRefusal l g xs w c why es → Tells l g group xs (refused_by w c why es)

-- in each run
abbrev pub EveryAnswer : Type 0
EveryAnswer = (l : Limits) (g : Opening) (group : ℕ) (xs : List Done) → AnswerLaws l g group xs
