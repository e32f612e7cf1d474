-- How many syncs the pages that find no frame can ask for. A sync leaves no page above what is flushed everywhere, and none is due before so many are.
use Rattle.std.specs.Prelude.{◌≤◌, ◌+◌, ◌*◌, ◌++◌, ℕ, suc, min, false, List, [], ◌∷◌}
use Rattle.page_model.specs.Limits.{transaction_changes}
use Rattle.core_paging.specs.core_state.Openings.{Opening}
use Rattle.core_paging.specs.core_state.States.{nodes_of}
use Rattle.core_paging.specs.core_state.Events.{Event}
use Rattle.core_paging.specs.core_state.Steps.{AllMet, state_after}
use Rattle.core_calls.specs.LogEvents.{IsTight, IsTightSomewhere, SyncsWhere}
use Rattle.core_covers.specs.Highs.{pages_above, writes}

-- how many syncs there are
abbrev pub syncs : List Event → ℕ
syncs [] = 0
syncs (Event.Sync n ∷ es) = suc (syncs es)
syncs (e ∷ es) = syncs es

-- Where a page finds no frame, each frame but those of the key's way, of which there is one a level, has a page that is above.
abbrev pub EveryTight : Type 0
EveryTight = (g : Opening) (es : List Event) (key : ℕ) → IsTight g (state_after g es) key → g.frames ≤ pages_above g (state_after g es) + suc (nodes_of (state_after g es) 0).level

-- Of events that were met, among which syncs stand only where a page finds no frame; there are n frames beside those of the tallest way.
pub record SyncCount (g : Opening) (es later : List Event) : Type 0 where
  -- each sync takes n pages of those that were above before, and of those that were written in since
  pub count : (n : ℕ) → n + suc g.format.levels ≤ g.frames → AllMet g (state_after g es) later → SyncsWhere (IsTightSomewhere g) g (state_after g es) false later
      → n * syncs later + min n (pages_above g (state_after g (es ++ later))) ≤ min n (pages_above g (state_after g es)) + writes later
  -- so with 24 there are at most three where a transaction is put back
  pub abort : 24 + suc g.format.levels ≤ g.frames → AllMet g (state_after g es) later → SyncsWhere (IsTightSomewhere g) g (state_after g es) false later → writes later ≤ transaction_changes → syncs later ≤ 3

-- after every list of events
abbrev pub EverySyncCount : Type 0
EverySyncCount = (g : Opening) (es later : List Event) → SyncCount g es later
