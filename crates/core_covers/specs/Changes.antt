-- Which contents of a page have its changes up to a number. Contents are known by their own number here, that of the last record that they have.
use Rattle.std.specs.Prelude.{◌≡◌, ◌≤◌, ℕ, true, List, ◌++◌}
use Rattle.map_model.specs.Lists.{Has}
use Rattle.core_paging.specs.image_model.Entries.{Entry, touches}
use Rattle.core_paging.specs.core_state.Openings.{Opening}
use Rattle.core_paging.specs.core_state.States.{State, flushed_by_all, is_cold}
use Rattle.core_paging.specs.core_state.Events.{Event}
use Rattle.core_paging.specs.core_state.Steps.{state_after}

-- contents of page p with the number n have its changes up to x
abbrev pub HasChanges : State → (p x n : ℕ) → Type 0
HasChanges s p x n = (r : Entry) → Has r s.entries → touches p r ≡ true → r.number ≤ x → r.number ≤ n

-- Of one page, after these events.
pub record ChangeLaws (g : Opening) (es : List Event) (p : ℕ) : Type 0 where
  -- the page has all its changes, and so has what is saved of it where it is not dirty, or cold
  pub now : (x : ℕ) → HasChanges (state_after g es) p x ((state_after g es).page p).gsn
  pub clean : (x : ℕ) → ((state_after g es).page p).gsn ≤ ((state_after g es).saved p).gsn → HasChanges (state_after g es) p x ((state_after g es).saved p).gsn
  pub cold : (x : ℕ) → is_cold ((state_after g es).place p) ≡ true → HasChanges (state_after g es) p x ((state_after g es).saved p).gsn
  -- what has them up to a number that is flushed everywhere has them up to it whatever happens: what comes has a greater number
  pub more : (later : List Event) (x n : ℕ) → x ≤ flushed_by_all g (state_after g es) → HasChanges (state_after g es) p x n → HasChanges (state_after g (es ++ later)) p x n

-- in each run, of each page
abbrev pub EveryChange : Type 0
EveryChange = (g : Opening) (es : List Event) (p : ℕ) → ChangeLaws g es p
