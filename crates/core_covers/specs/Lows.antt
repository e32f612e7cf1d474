-- Behind a sync no page is above what is flushed everywhere, and each may be saved.
use Rattle.std.specs.Prelude.{◌≡◌, ◌<◌, ◌≤◌, ◌++◌, ℕ, Bool, true, false, List, [], ◌∷◌}
use Rattle.map_model.specs.Lists.{any}
use Rattle.core_paging.specs.core_state.Openings.{Opening}
use Rattle.core_paging.specs.core_state.States.{State, flushed_by_all, is_cold}
use Rattle.core_paging.specs.core_state.Events.{Event}
use Rattle.core_paging.specs.core_state.Needs.{may}
use Rattle.core_paging.specs.core_state.Steps.{state_after}

-- no worker's clock is above what is flushed everywhere, as a sync leaves it
abbrev pub IsAllFlushed : Opening → State → Type 0
IsAllFlushed g s = (w : ℕ) → 0 < w → w ≤ g.workers → (s.worker w).clock ≤ flushed_by_all g s

-- Then no page's number is, after every list of events.
abbrev pub EveryLow : Type 0
EveryLow = (g : Opening) (es : List Event) → IsAllFlushed g (state_after g es) → (p : ℕ) → ((state_after g es).page p).gsn ≤ flushed_by_all g (state_after g es)

-- its worker's clock may rise: it takes a number, or meets those of pages or of a lock row
abbrev pub raises_clock : Event → Bool
raises_clock (Event.Lock w i mode) = true
raises_clock (Event.Read w p k a) = true
raises_clock (Event.Next w p k a) = true
raises_clock (Event.Change w p k v) = true
raises_clock (Event.Put_back w p) = true
raises_clock (Event.Split w l r q i) = true
raises_clock (Event.Lift w c) = true
raises_clock (Event.Join w l r q) = true
raises_clock (Event.Drop w c) = true
raises_clock (Event.Purge w p keys) = true
raises_clock (Event.End w commit f) = true
raises_clock _ = false

-- How it comes, how it lasts, what it is for.
pub record SyncLaws (g : Opening) (es : List Event) : Type 0 where
  pub synced : (n : ℕ) → may g (state_after g es) (Event.Sync n) ≡ true → IsAllFlushed g (state_after g (es ++ Event.Sync n ∷ []))
  -- as long as no clock rises but by a sync: while pages are moved, saved or read, logs are flushed, transactions begin
  pub stays : (later : List Event) → any raises_clock later ≡ false → IsAllFlushed g (state_after g es) → IsAllFlushed g (state_after g (es ++ later))
  -- each page in a frame may be saved
  pub saves : IsAllFlushed g (state_after g es) → (p : ℕ) → is_cold ((state_after g es).place p) ≡ false → may g (state_after g es) (Event.Save p) ≡ true

-- after every list of events
abbrev pub EverySync : Type 0
EverySync = (g : Opening) (es : List Event) → SyncLaws g es
