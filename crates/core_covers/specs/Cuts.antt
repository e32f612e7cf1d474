-- The number of a cut, and that its need is met.
use Rattle.std.specs.Prelude.{◌≡◌, ◌<◌, ◌≤◌, ℕ, true, List}
use Rattle.core_paging.specs.core_state.Openings.{Opening}
use Rattle.core_paging.specs.core_state.States.{State, flushed_by_all}
use Rattle.core_paging.specs.core_state.Events.{Event}
use Rattle.core_paging.specs.core_state.Needs.{is_ripe_up_to, may}
use Rattle.core_paging.specs.core_state.Steps.{state_after}
use Rattle.core_covers.specs.Changes.{HasChanges}
use Rattle.core_covers.specs.Covers.{AreCovers, IsCovered}
use Rattle.core_covers.specs.Firsts.{IsBelowFirsts}
use Rattle.core_covers.specs.Lows.{IsAllFlushed}

-- A number that a cut may have: at most each cover and what is flushed everywhere, and below the first record of each transaction that is open or whose end
-- is not ripe.
pub record MayCutAt (g : Opening) (s : State) (cover : ℕ → ℕ) (x : ℕ) : Type 0 where
  pub covered : IsCovered cover x
  pub flushed : x ≤ flushed_by_all g s
  pub ripe : is_ripe_up_to g s x ≡ true

-- the number of a cut: the greatest of these
pub record IsCutAt (g : Opening) (s : State) (cover : ℕ → ℕ) (x : ℕ) : Type 0 where
  pub may_be : MayCutAt g s cover x
  pub greatest : (y : ℕ) → MayCutAt g s cover y → y ≤ x

-- A cut's need is met, whatever the heads, and what is firm of each page has the changes up to its number.
pub record CutMet (g : Opening) (s : State) (x : ℕ) (firm : ℕ → ℕ) : Type 0 where
  pub met : (heads : ℕ → ℕ) → may g s (Event.Cut x heads) ≡ true
  pub has : (p : ℕ) → p < g.format.pages → HasChanges s p x (firm p)

-- at each number that it may have
abbrev pub EveryCutMet : Type 0
EveryCutMet = (g : Opening) (es : List Event) (cover firm : ℕ → ℕ) (x : ℕ) → AreCovers g (state_after g es) cover firm → MayCutAt g (state_after g es) cover x → CutMet g (state_after g es) x firm

-- the greatest number up to the covers and what is flushed everywhere, and below the first records of open transactions
pub record IsLeastOf (g : Opening) (s : State) (cover : ℕ → ℕ) (x : ℕ) : Type 0 where
  pub covered : IsCovered cover x
  pub flushed : x ≤ flushed_by_all g s
  pub below : IsBelowFirsts g s x
  pub greatest : (y : ℕ) → IsCovered cover y → y ≤ flushed_by_all g s → IsBelowFirsts g s y → y ≤ x

-- How to find it with no list of the transactions that have ended.
pub record CutNumber (g : Opening) (s : State) : Type 0 where
  -- it is below the first records of open transactions
  pub below : (x : ℕ) → is_ripe_up_to g s x ≡ true → IsBelowFirsts g s x
  -- behind a sync each end is ripe, so no more is asked
  pub ripe : IsAllFlushed g s → (x : ℕ) → IsBelowFirsts g s x → is_ripe_up_to g s x ≡ true
  pub number : IsAllFlushed g s → (cover : ℕ → ℕ) (x : ℕ) → IsLeastOf g s cover x → IsCutAt g s cover x

-- after every list of events
abbrev pub EveryCutNumber : Type 0
EveryCutNumber = (g : Opening) (es : List Event) → CutNumber g (state_after g es)
