-- Rows that begin as an opening gives them.
use Rattle.std.specs.Prelude.{◌≡◌, ◌<◌, ℕ, true, List, ◌++◌}
use Rattle.page_model.specs.Limits.{transaction_changes}
use Rattle.page_model.specs.Tree.{IsTree}
use Rattle.core_paging.specs.core_state.Openings.{Opening}
use Rattle.core_paging.specs.core_state.Events as happening
use Rattle.core_paging.specs.core_state.Needs.{may}
use Rattle.core_paging.specs.core_state.States.{State, nodes_of, start}
use Rattle.core_paging.specs.core_state.Steps.{state_after}
use Rattle.core_paging.specs.core_commit.Holders.{HeldByWorkers}
use Rattle.core_index.specs.Undo.{EachUndo}
use Rattle.core_paging.specs.Paging.{Residence, Waiting}
use Rattle.rows_trait.specs.row_words.declared.event.Event.{Event}
use Rattle.rows_trait.specs.row_words.declared.given.Given.{Given}
use Rattle.rows_trait.specs.row_words.Moments.{first_state, events_of}
use Rattle.rows_trait.specs.row_words.Openings as rows
use Rattle.rows_trait.specs.Views.{after_all}

-- the opening has these sizes, and is faithful where the rows are; its start is what is given, and each page's last log is below 256
pub record Opens (x : Opening) (v : Given) : Type 0 where
  pub faithful : x.faithful ≡ v.faithful
  pub workers : x.workers ≡ (rows.opening v).workers
  pub frames : x.frames ≡ (rows.opening v).frames
  pub locks : x.row_of ≡ (rows.opening v).row_of
  pub changes : x.changes ≡ transaction_changes
  pub joined : x.joined ≡ 45
  pub format : x.format ≡ (rows.opening v).format
  pub first : start x ≡ first_state v
  pub logs : (p : ℕ) → x.last p < 256

-- at that moment the pages are a tree, places are in order, last logs are below 256, workers hold the lock rows, and where the
-- rows began faithful what they have still to put back is there
pub record Opened (v : Given) (es : List Event) : Type 0 where
  pub tree : IsTree (rows.opening v).format (nodes_of (after_all v es).core)
  pub places : Residence (rows.opening v) (after_all v es).core
  -- whoever a page waits for is inside
  pub waiting : Waiting (after_all v es).core
  -- each page's last log is below 256, and so is that of its saved contents, where there are fewer than 256 workers
  pub logs : (rows.opening v).workers < 256 → (p : ℕ) → ((after_all v es).core.page p).last < 256
  pub saved : (rows.opening v).workers < 256 → (p : ℕ) → ((after_all v es).core.saved p).last < 256
  pub locks : HeldByWorkers (rows.opening v) (after_all v es).core
  pub undo : EachUndo (rows.opening v) (after_all v es).core

-- so it is after every list of events
abbrev pub EveryOpened : Type 0
EveryOpened = (x : Opening) (v : Given) → Opens x v → (es : List Event) → Opened v es

-- The state that rows come to is the core's own, after what happened before the rows began and what happened on them.
abbrev pub EveryReached : Type 0
EveryReached = (x : Opening) (v : Given) → Opens x v → (es : List Event) → (after_all v es).core ≡ state_after x (events_of v.before ++ events_of es)

-- Whether an event may happen hangs on the sizes of an opening alone.
abbrev pub EveryNeed : Type 0
EveryNeed = (x : Opening) (v : Given) → Opens x v → (s : State) (e : happening.Event) → may x s e ≡ may (rows.opening v) s e
