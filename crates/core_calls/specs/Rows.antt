-- Scripts of two sessions by hand, on one empty leaf: each line with its events, its outcomes, and the durable lines behind them. Then a full
-- leaf, and room that is made in it.
use Rattle.std.specs.Prelude.{◌≡◌, ◌^◌, ◌-◌, ℕ, Bool, true, false, List, [], ◌∷◌, Some, None}
use Rattle.map_model.specs.declared.call.Call.{Call}
use Rattle.map_model.specs.declared.call.Call.TheVariants as call
use Rattle.map_model.specs.declared.call.Refusal.TheVariants as refusal
use Rattle.map_model.specs.Maps.{MapCall, MapAnswer}
use Rattle.map_model.specs.Transcripts.{journal}
use Rattle.core_crash.specs.core_state.Openings.{Opening, first_map}
use Rattle.core_crash.specs.core_state.States.{State}
use Rattle.core_crash.specs.core_state.Events.{Event, Mode}
use Rattle.core_crash.specs.core_state.Steps.{step, state_after}
use Rattle.map_model.specs.Pairings.{paired, answers_in}
use Rattle.core_calls.specs.Deeds.{Deed, Begun, Got, Changed, Deleted, Absent, Met, Over, Committed, Aborted, Refused, Synced, transcript}
use Rattle.core_calls.specs.Room.{room_takes, free_list}
use Rattle.core_calls.specs.Refusals.{Limits, IsTall, IsShort}
use Rattle.core_calls.specs.Fronts.{Done, outcomes}
use Rattle.core_calls.specs.Runs.{EachTells}
use Rattle.core_calls.specs.Durables.{durables, moments}

-- with no read of which nobody is told
abbrev pub by : ℕ → Deed → List Event → Done
by w d es = record { outcome = record { session = w; deed = d; unsaid = [] }; events = es }

-- a put by its key alone, answered the value before
abbrev pub put : (w k v : ℕ) → Rattle.std.specs.Prelude.Option ℕ → Done
put w k v was = by w (Changed k v was) (Event.Lock w k Mode.Alone ∷ Event.Change w 0 k v ∷ [])

-- Session 2 reads what session 1 committed and did not flush, with groups of two: its own flush makes none of its commits durable, the
-- sync makes all three, in the order of their numbers.
abbrev pub grouped : List Done
grouped =
    by 2 (Committed 2 4) (Event.End 2 true 0 ∷ Event.Flush 2 4 ∷ [])
    ∷ by 2 (Begun 2) (Event.Begin 2 0 ∷ [])
    ∷ by 2 (Committed 1 3) (Event.End 2 true 0 ∷ Event.Unlock 2 5 ∷ [])
    ∷ by 2 (Got 5 (Some 7) false) (Event.Lock 2 5 Mode.Shared ∷ Event.Read 2 0 5 (Some 7) ∷ [])
    ∷ by 2 (Begun 1) (Event.Begin 2 0 ∷ [])
    ∷ by 1 (Committed 1 2) (Event.End 1 true 0 ∷ Event.Unlock 1 5 ∷ [])
    ∷ put 1 5 7 None
    ∷ by 1 (Begun 1) (Event.Begin 1 0 ∷ []) ∷ []

-- with the sync
abbrev pub grouped_synced : List Done
grouped_synced = by 0 (Synced 4) (Event.Flush 1 2 ∷ Event.Sync 4 ∷ []) ∷ grouped

-- Session 1 puts and stays open, session 2 puts and aborts, puts and commits. Its commit needs log 1, and is durable by the sync.
abbrev pub needy : List Done
needy =
    by 2 (Committed 2 6) (Event.End 2 true 0 ∷ Event.Unlock 2 6 ∷ Event.Flush 2 6 ∷ [])
    ∷ put 2 6 2 None
    ∷ by 2 (Begun 2) (Event.Begin 2 0 ∷ [])
    ∷ by 2 (Aborted call.Abort 1 4 (record { session = 2; call = MapCall.Del 6; answer = MapAnswer.Was (Some 1) } ∷ [])) (Event.Put_back 2 0 ∷ Event.End 2 false 0 ∷ Event.Unlock 2 6 ∷ [])
    ∷ put 2 6 1 None
    ∷ by 2 (Begun 1) (Event.Begin 2 0 ∷ [])
    ∷ put 1 5 7 None
    ∷ by 1 (Begun 1) (Event.Begin 1 0 ∷ []) ∷ []

-- with the sync
abbrev pub needy_synced : List Done
needy_synced = by 0 (Synced 6) (Event.Flush 1 1 ∷ Event.Sync 6 ∷ []) ∷ needy

-- A get meets a conflict, so its transaction is aborted; then there is none.
abbrev pub hindered : List Done
hindered =
    by 2 (Refused (call.Put 5 9) refusal.NoTransaction []) []
    ∷ by 2 (Aborted (call.Get 5) 1 1 []) (Event.End 2 false 0 ∷ [])
    ∷ by 2 (Refused (call.Get 5) (refusal.Conflict 1) []) []
    ∷ by 2 (Begun 1) (Event.Begin 2 0 ∷ [])
    ∷ put 1 5 7 None
    ∷ by 1 (Begun 1) (Event.Begin 1 0 ∷ []) ∷ []

-- Three pairs, of which one is deleted, and deleted again; a scan passes its tombstone.
abbrev pub scanned : List Done
scanned =
    by 1 (Committed 1 5) (Event.End 1 true 0 ∷ Event.Unlock 1 1 ∷ Event.Unlock 1 2 ∷ Event.Unlock 1 3 ∷ Event.Flush 1 5 ∷ [])
    ∷ by 1 (Over 1 9) (Event.Next 1 0 4 (MapAnswer.Gap (2 ^ 64 - 1)) ∷ [])
    ∷ by 1 (Met 1 9 3 30 true) (Event.Lock 1 2 Mode.Shared ∷ Event.Lock 1 3 Mode.Shared ∷ Event.Next 1 0 2 (MapAnswer.Pair 3 30) ∷ [])
    ∷ by 1 (Met 1 9 1 10 true) (Event.Lock 1 1 Mode.Shared ∷ Event.Next 1 0 1 (MapAnswer.Pair 1 10) ∷ [])
    ∷ by 1 (Absent 2) (Event.Lock 1 2 Mode.Alone ∷ Event.Read 1 0 2 None ∷ [])
    ∷ by 1 (Deleted 2 20) (Event.Lock 1 2 Mode.Alone ∷ Event.Change 1 0 2 (2 ^ 63) ∷ [])
    ∷ put 1 3 30 None
    ∷ put 1 2 20 None
    ∷ put 1 1 10 None
    ∷ by 1 (Begun 1) (Event.Begin 1 0 ∷ []) ∷ []

-- the lines of the script with a conflict
abbrev pub hindered_script : List (ℕ × Call)
hindered_script = (1, call.Begin) ∷ (1, call.Put 5 7) ∷ (2, call.Begin) ∷ (2, call.Get 5) ∷ (2, call.Put 5 9) ∷ []

-- and of the one with a scan
abbrev pub scanned_script : List (ℕ × Call)
scanned_script = (1, call.Begin) ∷ (1, call.Put 1 10) ∷ (1, call.Put 2 20) ∷ (1, call.Put 3 30) ∷ (1, call.Del 2) ∷ (1, call.Del 2) ∷ (1, call.Scan 1 9) ∷ (1, call.Commit) ∷ []

-- each answer is that of its line
abbrev pub IsPaired : List (ℕ × Call) → List Done → Type 0
IsPaired script xs = paired script (answers_in (transcript (outcomes xs))) ≡ transcript (outcomes xs)

-- An opening with two workers, one empty leaf and a lock row for each key; these scripts are what the definitions say.
pub record Rows : Type 0 where
  pub opening : Opening
  pub limits : Limits
  pub workers : opening.workers ≡ 2
  pub base : opening.base ≡ 0
  pub empty : (k : ℕ) → first_map opening k ≡ None
  -- groups of two
  pub grouped_is : EachTells limits opening 2 grouped_synced
  pub none_yet : durables opening (moments grouped) ≡ []
  pub all_then : durables opening (moments grouped_synced) ≡ record { session = 2; number = 2 } ∷ record { session = 2; number = 1 } ∷ record { session = 1; number = 1 } ∷ []
  -- a commit that needs another log
  pub needy_is : EachTells limits opening 1 needy_synced
  pub not_yet : durables opening (moments needy) ≡ []
  pub one_then : durables opening (moments needy_synced) ≡ record { session = 2; number = 2 } ∷ []
  pub told : journal (transcript (outcomes needy_synced)) ≡ record { session = 2; number = 2; at = 6; calls = record { session = 2; call = MapCall.Put 6 2; answer = MapAnswer.Was None } ∷ [] } ∷ []
  -- a conflict
  pub hindered_is : EachTells limits opening 1 hindered
  -- a scan
  pub scanned_is : EachTells limits opening 1 scanned
  pub hindered_paired : IsPaired hindered_script hindered
  pub scanned_paired : IsPaired scanned_script scanned
  pub at_once : durables opening (moments scanned) ≡ record { session = 1; number = 1 } ∷ []

-- ## Room

-- key 5's row is held alone, and pages 1 and 2, which are free, stand in frames
abbrev pub ready : Opening → State
ready g = state_after g (Event.Begin 1 0 ∷ Event.Lock 1 5 Mode.Alone ∷ Event.Load 1 1 ∷ Event.Load 2 2 ∷ [])

-- the root is lifted onto page 1,
abbrev pub lifted : Opening → State
lifted g = step g (ready g) (Event.Lift 1 1)

-- which is split with page 2,
abbrev pub divided : Opening → State
divided g = step g (lifted g) (Event.Split 1 1 2 0 1)

-- and the key is put
abbrev pub grown : Opening → State
grown g = step g (divided g) (Event.Change 1 2 5 50)

-- An opening with three pages of two pairs each, of which page 0 is a full leaf, and one level above it. Room for key 5 takes the two free pages,
-- one at the lift and one at the split. Behind the put its leaf and the root are full: a further key would take three pages and a further level.
pub record WorkedRoom : Type 0 where
  pub opening : Opening
  pub takes_two : room_takes opening (ready opening) 5 ≡ 2
  pub two_free : free_list opening (ready opening) ≡ 1 ∷ 2 ∷ []
  pub takes_one : room_takes opening (lifted opening) 5 ≡ 1
  pub one_free : free_list opening (lifted opening) ≡ 2 ∷ []
  pub takes_none : room_takes opening (divided opening) 5 ≡ 0
  pub none_free : free_list opening (divided opening) ≡ []
  pub takes_three : room_takes opening (grown opening) 6 ≡ 3
  -- in the other leaf there is room
  pub takes_none_there : room_takes opening (grown opening) 1 ≡ 0
  pub tall : IsTall opening (grown opening) 6
  pub short : IsShort opening (grown opening) 6
