-- An abort: changes are put back, the end is staged, and the rows are given back.
use Rattle.std.specs.Prelude.{◌≡◌, ◌≤◌, ◌<◌, ℕ, suc, false, List, [], ◌∷◌, ◌++◌}
use Rattle.map_model.specs.declared.call.Call.{Call}
use Rattle.map_model.specs.Histories.{Step}
use Rattle.map_model.specs.Lists.{any, keep}
use Rattle.run_crashes.specs.image_model.Entries.{Entry, Kind}
use Rattle.run_crashes.specs.image_model.Histories.{write_call}
use Rattle.run_crashes.specs.core_state.Openings.{Opening}
use Rattle.run_crashes.specs.core_state.States.{State, flushed_by_all}
use Rattle.run_crashes.specs.core_state.Events.{Event}
use Rattle.run_crashes.specs.core_state.Needs.{holds_row}
use Rattle.run_crashes.specs.core_state.Steps.{AllMet, end_entry, state_after, step}
use Rattle.lean_disk.specs.Story.{Crash, Story}
use Rattle.run_crashes.specs.log_record.declared.record.Record.{Record}
use Rattle.run_crashes.specs.disk_image.Records.{entry_of}
use Rattle.run_crashes.specs.worker_log.Logs.{Log}
use Rattle.run_crashes.specs.core_calls.Deeds.{Aborted}
use Rattle.run_crashes.specs.core_calls.Fronts.{Done, front}
use Rattle.run_crashes.specs.core_calls.LogEvents.{IsTightSomewhere, SyncsWhere}
use Rattle.run_crashes.specs.core_calls.Marks.{was_in}
use Rattle.run_crashes.specs.core_calls.Refusals.{Limits}
pub use Rattle.run_crashes.specs.core_calls.Steps.{PutsBack}
use Rattle.run_crashes.specs.core_calls.Steps.{is_step, is_structure}
use Rattle.run_crashes.specs.disk_runs.Stands.{Known}
use Rattle.log_calls.specs.Calls.{StagesOn}
use Rattle.engine_calls.specs.Clauses.{Between, CallAnswers, CallStops, MayCome, OnLog}
use Rattle.engine_calls.specs.Commits.{unlocks}
use Rattle.engine_calls.specs.Parts.{Gone, behind_first}

-- the newest of these changes, as it is put back in page p
abbrev pub newest_back : Opening → State → (w p : ℕ) → List Entry → List Step → List Step
newest_back g s w p [] earlier = earlier
newest_back g s w p (c ∷ cs) earlier = record { session = w; call = write_call g.format c.key c.before; answer = was_in g s p c.key } ∷ earlier

-- what an event puts back, and what these do, put before what was before
abbrev pub back_by : Opening → State → Event → List Step → List Step
back_by g s (Event.Put_back w p) earlier = newest_back g s w p (s.worker w).changes earlier
back_by g s _ earlier = earlier

abbrev pub backs_by : Opening → State → List Event → List Step → List Step
backs_by g s [] earlier = earlier
backs_by g s (e ∷ es) earlier = backs_by g (step g s e) es (back_by g s e earlier)

-- behind these events, which put its changes back, session w ended the transaction of this number by an abort with the number at
abbrev pub aborted_by : Opening → List Done → Call → List Event → (w number at f : ℕ) → List ℕ → Done
aborted_by g xs c first w number at f rows = record {
  outcome = record { session = w; deed = Aborted c number at (backs_by g (state_after g (front xs)) first []); unsaid = [] };
  events = first ++ Event.End w false f ∷ unlocks w rows;
}

-- What the body shows: it may come next; its one step before the end is to put changes back, the tree stays as it is, and at the logs there are
-- whole syncs alone, each where a page that is needed finds no frame; the need of each event is met, so no change is left; r is its end's record, and the rows are those that it holds.
pub record IsAbort (g : Opening) (xs : List Done) (c : Call) (first : List Event) (w number at f : ℕ) (rows : List ℕ) (r : Record) : Type 0 where
  pub comes : MayCome xs (aborted_by g xs c first w number at f rows).outcome
  pub low : 0 < w
  pub high : w ≤ g.workers
  pub backs : PutsBack w (keep is_step first)
  pub structure : any is_structure first ≡ false
  pub syncs : SyncsWhere (IsTightSomewhere g) g (state_after g (front xs)) false first
  pub met : AllMet g (state_after g (front xs)) (aborted_by g xs c first w number at f rows).events
  pub flushed : f ≡ flushed_by_all g (behind_first g xs first)
  pub number_is : number ≡ ((behind_first g xs first).worker w).txn
  pub at_is : at ≡ suc ((behind_first g xs first).worker w).clock
  pub entry : entry_of w r ≡ end_entry Kind.Abort w ((behind_first g xs first).worker w) f
  pub released : (i : ℕ) → holds_row ((behind_first g xs (aborted_by g xs c first w number at f rows).events).row i) w ≡ false

-- What follows from what its log says, where the disk stands for the events before the end.
pub record AbortLaws (l : Limits) (g : Opening) (group : ℕ) (xs : List Done) (s0 : Crash) (k : Known) (c : Call) (first : List Event) (w number at f : ℕ) (rows : List ℕ) (r : Record) (a : Known) (old mid new : Story) : Type 0 where
  -- the end was staged
  pub answered : (log : Log) → StagesOn w r (a.log w) log mid new → OnLog w (a.log w) mid new → CallAnswers l g group xs (aborted_by g xs c first w number at f rows) s0 k old new
  -- it was not
  pub unstaged : OnLog w (a.log w) mid new → CallStops l g group xs s0 k old new

-- in each run
abbrev pub EveryAbort : (old mid new : Story) → Type 0
EveryAbort old mid new = (l : Limits) (g : Opening) (group : ℕ) (xs : List Done) (s0 : Crash) (k a : Known) (c : Call) (first : List Event) (w number at f : ℕ) (rows : List ℕ) (r : Record) → Between l g group xs s0 k old
    → Gone g xs first s0 k old a mid → IsAbort g xs c first w number at f rows r → AbortLaws l g group xs s0 k c first w number at f rows r a old mid new
