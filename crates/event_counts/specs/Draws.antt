-- How far the numbers of a run go, by how many of its events draw one.
use Rattle.std.specs.Prelude.{◌≡◌, ◌≤◌, ◌+◌, ◌++◌, ℕ, Bool, true, false, List, length}
use Rattle.map_model.specs.Lists.{Has, keep}
use Rattle.disk_runs.specs.image_model.Entries.{Entry}
use Rattle.disk_runs.specs.core_state.Events.{Event}
use Rattle.disk_runs.specs.core_state.Openings.{Opening}
use Rattle.disk_runs.specs.core_state.States.{State}
use Rattle.disk_runs.specs.core_state.Steps.{state_after}

-- it draws a number: a record of pages, and an end
abbrev pub draws_one : Event → Bool
draws_one (Event.Change w p k v) = true
draws_one (Event.Put_back w p) = true
draws_one (Event.Split w l r q i) = true
draws_one (Event.Lift w c) = true
draws_one (Event.Join w l r q) = true
draws_one (Event.Drop w c) = true
draws_one (Event.Purge w p keys) = true
draws_one (Event.End w commit f) = true
draws_one _ = false

-- how many of these events do
abbrev pub draws : List Event → ℕ
draws es = length (keep draws_one es)

-- no floor, no entry and no page has a number above this
pub record GoesTo (top : ℕ) (s : State) : Type 0 where
  pub entered : (r : Entry) → Has r s.entries → r.number ≤ top
  pub floor : s.floor ≤ top
  pub pages : (p : ℕ) → (s.page p).gsn ≤ top

-- Behind a run no number is further above the base number than events drew one. Two parts of a run draw what both do, and none draws more than it has events.
pub record DrawLaws (g : Opening) (xs ys : List Event) : Type 0 where
  pub goes_to : GoesTo (g.base + draws xs) (state_after g xs)
  pub more : draws (xs ++ ys) ≡ draws xs + draws ys
  pub few : draws xs ≤ length xs

-- of any events
abbrev pub EveryDraw : Type 0
EveryDraw = (g : Opening) (xs ys : List Event) → DrawLaws g xs ys
