-- Which commits are ripe, and for how long.
use Rattle.map_model.specs.Lists.{Has}
use Rattle.map_model.specs.Journals.{Txn}
use Rattle.core_paging.specs.image_model.Entries.{Entry, is_commit}
use Rattle.core_paging.specs.core_state.States.{State, start}
use Rattle.core_paging.specs.core_state.Openings.{Opening}
use Rattle.core_paging.specs.core_state.Events.{Event}
use Rattle.core_paging.specs.core_state.Needs.{may}
use Rattle.core_paging.specs.core_state.Steps.{step, run}
use Rattle.core_crash.specs.Crashes.{journal_in, IsRipe}
use Rattle.std.specs.Prelude.{◌≡◌, ◌≤◌, ℕ, true, List}

-- a commit that needs no other log, and has a number up to that of a flush of its own log
pub record IsFlushed (s : State) (t : Txn) (n : ℕ) : Type 0 where
  pub end : Entry
  pub has : Has end s.entries
  pub commit : is_commit end.kind ≡ true
  pub session : end.log ≡ t.session
  pub number : end.txn ≡ t.number
  pub up_to : end.number ≤ n
  pub none : end.need ≡ 0

pub record RipeLaws (g : Opening) (s : State) : Type 0 where
  -- one flush of its own log makes it ripe
  pub flushed : (t : Txn) (n : ℕ) → may g s (Event.Flush t.session n) ≡ true → IsFlushed s t n → IsRipe g (step g s (Event.Flush t.session n)) t
  -- what is ripe once is committed and ripe ever after
  pub stays : (t : Txn) (after : List Event) → Has t (journal_in g s) → IsRipe g s t → Has t (journal_in g (run g s after)) × IsRipe g (run g s after) t

-- so after every list of events
abbrev pub EveryRipe : Type 0
EveryRipe = (g : Opening) (es : List Event) → RipeLaws g (run g (start g) es)
