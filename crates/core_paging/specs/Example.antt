-- A run by hand that meets each kind of need on pages and frames: a leaf of two entries is lifted, split, saved, cooled,
-- evicted and loaded again; then the leaves are joined and the root is dropped; a tombstone is purged, and the log is cut.
use Rattle.map_model.specs.Maps.{MapAnswer}
use Rattle.core_commit.specs.core_state.States.{start, nodes_of, is_cold}
use Rattle.core_commit.specs.core_state.Openings.{Opening}
use Rattle.core_commit.specs.core_state.Events.{Event, Mode}
use Rattle.core_commit.specs.core_state.Steps.{run, AllMet}
use Rattle.std.specs.Prelude.{◌≡◌, ◌^◌, true, List, [], ◌∷◌, Some}

-- the first two entries, and room for them
abbrev pub grown : List Event
grown =
    Event.Begin 1 0 ∷ Event.Lock 1 1 Mode.Alone ∷ Event.Change 1 0 1 10 ∷ Event.Lock 1 2 Mode.Alone ∷ Event.Change 1 0 2 20
    ∷ Event.Load 1 1 ∷ Event.Lift 1 1 ∷ Event.Load 2 2 ∷ Event.Split 1 1 2 0 1
    ∷ Event.Read 1 2 2 (Some 20) ∷ Event.Next 1 1 0 (MapAnswer.Pair 1 10) ∷ Event.Peek 2 1 1 (Some 10)
    ∷ Event.End 1 true 0 ∷ Event.Unlock 1 1 ∷ Event.Unlock 1 2 ∷ Event.Flush 1 5 ∷ []

-- leaf 1 goes out of its frame, while worker 2 enters and leaves, and comes back
abbrev pub cooled : List Event
cooled =
    Event.Sync 5 ∷ Event.Save 1 ∷ Event.Enter 2 0 ∷ Event.Cool 1 ∷ Event.Tick ∷ Event.Rescue 1 ∷ Event.Cool 1 ∷ Event.Leave 2 ∷ Event.Evict 1 ∷ []

-- key 1 is deleted, its tombstone purged, the leaves joined and the root dropped
abbrev pub shrunk : List Event
shrunk =
    Event.Load 1 3
    ∷ Event.Begin 1 5 ∷ Event.Lock 1 1 Mode.Alone ∷ Event.Change 1 1 1 (2 ^ 63) ∷ Event.End 1 true 5 ∷ Event.Unlock 1 1 ∷ Event.Flush 1 7 ∷ Event.Sync 7
    ∷ Event.Begin 2 7 ∷ Event.Purge 2 1 (1 ∷ []) ∷ Event.Join 2 1 2 0 ∷ Event.Drop 2 1 ∷ Event.End 2 true 7 ∷ Event.Flush 2 11 ∷ Event.Sync 11
    ∷ Event.Save 0 ∷ Event.Save 1 ∷ Event.Save 2 ∷ Event.Cut 11 (λ _. 11) ∷ []

-- An opening with two workers, four frames and four pages of two entries; and what stands after each part.
pub record WorkedExample : Type 0 where
  pub g : Opening
  pub first : AllMet g (start g) grown
  pub second : AllMet g (run g (start g) grown) cooled
  pub evicted : is_cold ((run g (run g (start g) grown) cooled).place 1) ≡ true
  pub third : AllMet g (run g (run g (start g) grown) cooled) shrunk
  pub level : (nodes_of (run g (run g (run g (start g) grown) cooled) shrunk) 0).level ≡ 0
  pub cut : (run g (run g (run g (start g) grown) cooled) shrunk).head 1 ≡ 11
