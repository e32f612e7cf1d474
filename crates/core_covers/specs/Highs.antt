-- How many pages are above what is flushed everywhere, so that they can't be saved before a sync.
use Rattle.std.specs.Prelude.{◌≡◌, ◌≤◌, ◌+◌, ◌++◌, ℕ, Bool, ltb, List, [], ◌∷◌, length}
use Rattle.core_paging.specs.core_state.Lists.{count_below}
use Rattle.core_paging.specs.core_state.Openings.{Opening}
use Rattle.core_paging.specs.core_state.States.{State, flushed_by_all}
use Rattle.core_paging.specs.core_state.Events.{Event}
use Rattle.core_paging.specs.core_state.Steps.{state_after}
use Rattle.core_covers.specs.Lows.{IsAllFlushed}

-- page p is
abbrev pub is_above : Opening → State → ℕ → Bool
is_above g s p = ltb (flushed_by_all g s) (s.page p).gsn

-- how many are
abbrev pub pages_above : Opening → State → ℕ
pages_above g s = count_below g.format.pages (is_above g s)

-- the pages of its record
abbrev pub written_in : Event → List ℕ
written_in (Event.Change w p k v) = p ∷ []
written_in (Event.Put_back w p) = p ∷ []
written_in (Event.Split w l r q i) = l ∷ r ∷ q ∷ []
written_in (Event.Lift w c) = 0 ∷ c ∷ []
written_in (Event.Join w l r q) = l ∷ r ∷ q ∷ []
written_in (Event.Drop w c) = 0 ∷ c ∷ []
written_in (Event.Purge w p keys) = p ∷ []
written_in _ = []

-- how many pages their records have, a page as often as it is written in
abbrev pub writes : List Event → ℕ
writes [] = 0
writes (e ∷ es) = length (written_in e) + writes es

-- How many pages are above, from these events on.
pub record HighLaws (g : Opening) (es : List Event) : Type 0 where
  -- none behind a sync
  pub none : IsAllFlushed g (state_after g es) → pages_above g (state_after g es) ≡ 0
  -- and no more come than are written in
  pub rise : (later : List Event) → pages_above g (state_after g (es ++ later)) ≤ pages_above g (state_after g es) + writes later

-- after every list of events
abbrev pub EveryHigh : Type 0
EveryHigh = (g : Opening) (es : List Event) → HighLaws g es
