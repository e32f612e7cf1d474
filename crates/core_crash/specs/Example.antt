-- A run by hand: worker 1 changes key 5 and stays open; worker 2 changes key 6, puts it back and aborts, changes it again
-- and commits. Its leaf is the one that worker 1 changed, so its ends need log 1. Nobody flushed log 1.
use Rattle.std.specs.Prelude.{◌≡◌, ◌==◌, ℕ, Bool, true, false, List, [], ◌∷◌, Some, None, if◌then◌else◌}
use Rattle.map_model.specs.Maps.{MapCall, MapAnswer}
use Rattle.map_model.specs.Journals.{Txn}
use Rattle.core_paging.specs.image_model.Entries.{Entry}
use Rattle.core_paging.specs.image_model.Ends.{reach}
use Rattle.core_paging.specs.image_model.Images.{Image, found, map_of}
use Rattle.core_paging.specs.core_state.States.{State, start}
use Rattle.core_paging.specs.core_state.Openings.{Opening, start_page, first_map}
use Rattle.core_paging.specs.core_state.Events.{Event, Mode}
use Rattle.core_paging.specs.core_state.Steps.{run, AllMet}
use Rattle.core_crash.specs.Crashes.{log_of, Leaves, image_of, kept_in}

-- the run
abbrev pub events : List Event
events =
    Event.Begin 1 0 ∷ Event.Lock 1 5 Mode.Alone ∷ Event.Change 1 0 5 7
    ∷ Event.Begin 2 0 ∷ Event.Lock 2 6 Mode.Alone ∷ Event.Change 2 0 6 1 ∷ Event.Put_back 2 0 ∷ Event.End 2 false 0 ∷ Event.Unlock 2 6
    ∷ Event.Begin 2 0 ∷ Event.Lock 2 6 Mode.Alone ∷ Event.Change 2 0 6 2 ∷ Event.End 2 true 0 ∷ Event.Unlock 2 6
    ∷ Event.Flush 2 6 ∷ []

-- a crash leaves log 2 whole, and log 1 empty or whole
abbrev pub logs_left : State → Bool → ℕ → List Entry
logs_left s first w = if w == 1 then (if first then log_of 1 s.entries else []) else log_of w s.entries

-- worker 2's second transaction
abbrev pub second : Txn
second = record { session = 2; number = 2; at = 6; calls = record { session = 2; call = MapCall.Put 6 2; answer = MapAnswer.Was None } ∷ [] }

-- An opening with two workers and one empty leaf; and what two crashes leave of this run.
pub record Example : Type 0 where
  pub opening : Opening
  pub workers : opening.workers ≡ 2
  pub base : opening.base ≡ 0
  pub empty : (k : ℕ) → first_map opening k ≡ None
  pub met : AllMet opening (start opening) events
  pub without : Leaves opening events (logs_left (run opening (start opening) events) false) (start_page opening)
  pub with : Leaves opening events (logs_left (run opening (start opening) events) true) (start_page opening)

-- the image that a crash leaves, without log 1 or with it
abbrev pub image : Example → Bool → Image
image x first = let s = run x.opening (start x.opening) events in image_of x.opening s (logs_left s first) (start_page x.opening)

-- what recovery gives from both
pub record WorkedExample : Type 0 where
  pub x : Example
  -- without log 1 the reach is 0, and nothing is kept
  pub no_reach : reach (image x false).logs (image x false).floor (found (image x false)) ≡ 0
  pub none_kept : kept_in x.opening (run x.opening (start x.opening) events) (image x false) ≡ []
  pub no_map : (k : ℕ) → map_of (image x false) k ≡ None
  -- with its record the reach is 1, and the second transaction of worker 2 is kept alone
  pub reached : reach (image x true).logs (image x true).floor (found (image x true)) ≡ 1
  pub one_kept : kept_in x.opening (run x.opening (start x.opening) events) (image x true) ≡ second ∷ []
  pub map : (k : ℕ) → map_of (image x true) k ≡ (if k == 6 then Some 2 else None)
