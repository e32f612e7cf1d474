-- The rows by hand, computed.
use Rattle.std.proofs.Common.{◌≡◌, ℕ, Bool, true, false, List, [], ◌∷◌, None, refl, arith}
use Rattle.map_model.specs.declared.call.Call.TheVariants as call
use Rattle.run_crashes.proofs.core_crash.ByHand.{opening}
use Rattle.run_crashes.specs.core_state.Events.{Event}
use Rattle.run_crashes.specs.core_calls.Fronts.{Done, front, outcomes}
use Rattle.run_crashes.proofs.core_calls.HandLemmas.{free_all, limits}
use Rattle.run_crashes.specs.core_calls.Refusals.{Limits}
use Rattle.engine_calls.specs.Aborts.{IsAbort, aborted_by}
use Rattle.engine_calls.specs.Begins.{IsBegin}
use Rattle.engine_calls.specs.Clauses.{IsNewLine, MayCome}
use Rattle.engine_calls.specs.Commits.{IsCommit, fills}
use Rattle.engine_calls.specs.Halves.{IsHalved}
use Rattle.engine_calls.specs.Parts.{behind_first}
use Rattle.engine_calls.specs.Puts.{IsWrite}
use Rattle.engine_calls.specs.Rows.{Rows, abort_record, backs, begun, committed, end_record, halved, put, put_record}
use Rattle.engine_calls.proofs.ComingLemmas.{follows, goes_on}

begin_shown : IsBegin limits opening [] [] 1 1 0
begin_shown = record { line = tt; steps = refl; structure = refl; half = false; prepares = refl; met = (refl, tt); flushed = refl; next = refl }

put_shown : IsWrite opening (begun ∷ []) (call.Put 5 7) [] [] 1 0 5 7 None put_record
put_shown = record {
  line = (refl, refl);
  low = omega arith;
  high = omega arith;
  before_steps = refl;
  between_steps = refl;
  syncs = tt;
  met = (refl, (refl, tt));
  was_is = refl;
  whole = refl;
  entry = refl;
}

abbrev earlier : List Done
earlier = put opening ∷ begun ∷ []

commit_shown : (group : ℕ) (due : Bool) → fills group (behind_first opening earlier []) 1 ≡ due → IsCommit opening group earlier [] 1 1 2 0 (5 ∷ []) due end_record
commit_shown group due q = record {
  line = (refl, refl);
  low = omega arith;
  high = omega arith;
  steps = refl;
  structure = refl;
  logs = refl;
  met = (refl, (refl, tt));
  flushed = refl;
  whole = refl;
  number_is = refl;
  at_is = refl;
  entry = refl;
  below = omega arith;
  released = free_all (front (committed false ∷ earlier)) 1 refl;
  due_is = q;
}

-- an abort may come on a new line
abort_comes : (xs : List Done) (first : List Event) → IsNewLine (outcomes xs) → MayCome xs (aborted_by opening xs call.Abort first 1 1 3 0 (5 ∷ [])).outcome
abort_comes xs first line =
    let x = (aborted_by opening xs call.Abort first 1 1 3 0 (5 ∷ [])).outcome in
    record { hindered = follows (outcomes xs) x line refl; goes_on = goes_on (outcomes xs) x line }

abort_shown : IsAbort opening earlier call.Abort backs 1 1 3 0 (5 ∷ []) abort_record
abort_shown = record {
  comes = abort_comes earlier backs (refl, refl);
  low = omega arith;
  high = omega arith;
  backs = (refl, tt);
  structure = refl;
  syncs = tt;
  met = (refl, (refl, (refl, tt)));
  flushed = refl;
  number_is = refl;
  at_is = refl;
  entry = refl;
  released = free_all (front (aborted_by opening earlier call.Abort backs 1 1 3 0 (5 ∷ []) ∷ earlier)) 1 refl;
}

-- latches end at once
abbrev soon : Limits
soon = record limits { latch_end = 0 }

halved_shown : IsHalved soon opening earlier 1 call.Abort backs
halved_shown = record {
  comes = record { hindered = follows (outcomes earlier) (halved opening).outcome (refl, refl) tt; goes_on = goes_on (outcomes earlier) (halved opening).outcome (refl, refl) };
  asks = refl;
  met = (refl, tt);
  backs = (refl, tt);
  structure = refl;
  cause = omega arith;
  due = tt;
}

abbrev behind_halved : List Done
behind_halved = halved opening ∷ earlier

next_shown : IsAbort opening behind_halved call.Abort [] 1 1 3 0 (5 ∷ []) abort_record
next_shown = record {
  comes = abort_comes behind_halved [] (refl, refl);
  low = omega arith;
  high = omega arith;
  backs = tt;
  structure = refl;
  syncs = tt;
  met = (refl, (refl, tt));
  flushed = refl;
  number_is = refl;
  at_is = refl;
  entry = refl;
  released = free_all (front (aborted_by opening behind_halved call.Abort [] 1 1 3 0 (5 ∷ []) ∷ behind_halved)) 1 refl;
}

pub rows : Rows
rows = record {
  opening = opening;
  limits = limits;
  begin_shown = begin_shown;
  put_events = refl;
  put_shown = put_shown;
  flush_events = refl;
  flush_shown = commit_shown 1 true refl;
  no_flush_events = refl;
  no_flush_shown = commit_shown 2 false refl;
  abort_shown = abort_shown;
  soon = soon;
  halved_shown = halved_shown;
  next_shown = next_shown;
}
