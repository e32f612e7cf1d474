-- What every state has of places, saved contents and waits, and each kind of event keeps.
use Rattle.map_model.specs.Lists.{Has}
use Rattle.core_commit.specs.image_model.Entries.{Entry, touches}
use Rattle.core_commit.specs.core_state.States.{State, flushed_by_all}
use Rattle.core_commit.specs.core_state.Openings.{Opening}
use Rattle.core_commit.specs.Invariants.{Good}
use Rattle.core_commit.specs.Kinds.{KeptByEach}
use Rattle.core_paging.specs.Paging.{Residence, Waiting}
use Rattle.std.specs.Prelude.{◌≡◌, ◌≤◌, ℕ, true}

-- what is saved has a number that is flushed everywhere, and its page's changes up to the greatest number of a cut
pub record Saves (g : Opening) (s : State) : Type 0 where
  pub numbers : (p : ℕ) → (s.saved p).gsn ≤ flushed_by_all g s
  pub held : (p : ℕ) (r : Entry) → Has r s.entries → touches p r ≡ true → r.number ≤ s.cut → r.number ≤ (s.saved p).gsn

-- all of it, beside the invariants of records, rows and workers
pub record Paged (g : Opening) (s : State) : Type 0 where
  pub good : Good g s
  pub residence : Residence g s
  pub saves : Saves g s
  pub waiting : Waiting s

-- The start has it, and each kind of event keeps it.
abbrev pub EveryKind : Type 0
EveryKind = (g : Opening) → KeptByEach g (Paged g)
