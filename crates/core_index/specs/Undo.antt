-- What a worker has still to put back is there.
use Rattle.map_model.specs.Lists.{Has}
use Rattle.core_commit.specs.image_model.Entries.{Entry}
use Rattle.page_model.specs.Nodes.{holds}
use Rattle.page_model.specs.Redo.{has_key}
use Rattle.core_commit.specs.core_state.States.{State, start}
use Rattle.core_commit.specs.core_state.Openings.{Opening}
use Rattle.core_commit.specs.core_state.Events.{Event}
use Rattle.core_commit.specs.core_state.Needs.{is_held_by}
use Rattle.core_commit.specs.core_state.Steps.{run}
use Rattle.std.specs.Prelude.{◌≡◌, ◌<◌, ◌≤◌, ℕ, true, List}

-- The key of the change has an entry in its leaf.
pub record HasEntry (g : Opening) (s : State) (c : Entry) : Type 0 where
  pub page : ℕ
  pub below : page < g.format.pages
  pub leaf : holds (s.page page).node c.key ≡ true
  pub has : has_key c.key (s.page page).node ≡ true

-- Worker w holds the row of its change's key alone, and a leaf can have the word before; where the opening is faithful the
-- key has its entry.
pub record IsUndo (g : Opening) (s : State) (w : ℕ) (c : Entry) : Type 0 where
  pub there : g.faithful ≡ true → HasEntry g s c
  pub holder : is_held_by (s.row (g.row_of c.key)).holder w ≡ true
  pub word : c.before ≤ g.format.dead

-- so it is with each listed change of each worker
abbrev pub EachUndo : Opening → State → Type 0
EachUndo g s = (w : ℕ) (c : Entry) → Has c (s.worker w).changes → IsUndo g s w c

-- and after every list of events
abbrev pub EveryUndo : Type 0
EveryUndo = (g : Opening) (es : List Event) → EachUndo g (run g (start g) es)
