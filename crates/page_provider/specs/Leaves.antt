-- Words of private functions: which page of the queue can leave.
use Rattle.std.specs.Prelude.{◌≡◌, ◌≢◌, ◌⊎◌, ◌≤◌, ◌<◌, ◌+◌, ℕ, true, List, [], length, Some}
use Rattle.map_model.specs.Lists.{all}
use Rattle.btree_descent.specs.core_state.States.{flushed_by_all, is_cooling}
use Rattle.disk_runs.specs.Quiet.{is_quiet}
use Rattle.btree_descent.specs.row_words.declared.event.Event.{Event}
use Rattle.btree_descent.specs.row_words.Moments.{events_of}
use Rattle.btree_descent.specs.row_words.Openings.{opening}
use Rattle.btree_descent.specs.rows_trait.declared.view.View.{View}
use Rattle.btree_descent.specs.rows_trait.Views.{Shape, state}
use Rattle.btree_descent.specs.rows_trait.Turns.{Ran}
use Rattle.cooling_stage.specs.Queue.{found}
use Rattle.page_pool.specs.Full.{IsHeldBack, NoCandidate, NoneRipe}
use Rattle.page_provider.specs.declared.refusal.Refusal.{Refusal}
use Rattle.page_provider.specs.declared.refusal.Refusal.TheVariants as refusal
use Rattle.page_provider.specs.Moves.{way}
use Rattle.page_provider.specs.declared.leaving.Leave.{Leave}
use Rattle.page_provider.specs.declared.leaving.Leave.TheVariants as leave
use Rattle.page_provider.specs.declared.leaving.Chosen.{Chosen}
use Rattle.page_provider.specs.declared.leaving.Chosen.TheVariants as chosen
use Rattle.page_provider.specs.Evicts.{CanLeave}
use Rattle.page_provider.specs.Inside.{Missed}
use Rattle.page_provider.specs.Mirrored.{NoSaves}
use Rattle.page_provider.specs.Providers.{Provider}
use Rattle.page_provider.specs.Refusals.{IsOfRow}

-- all logs are flushed so far; where nobody else steps, no further
pub record IsFlushed (z : Shape) (flushed : ℕ) (v : View) : Type 0 where
  pub low : flushed ≤ flushed_by_all (opening v.given) (state v).core
  pub exact : z.alone ≡ true → flushed ≡ flushed_by_all (opening v.given) (state v).core

-- nothing was appended, and this was loaded
pub record HasFlushed (z : Shape) (v : View) (flushed : ℕ) (u : View) : Type 0 where
  pub ran : Ran z.alone v [] u
  pub held : u.held ≡ v.held
  pub is : IsFlushed z flushed u

-- the page may leave, or its number is above what is flushed everywhere, or a worker is inside since its epoch or an earlier one
abbrev pub Says : Shape → (page : ℕ) → Leave → View → Type 0
Says z page leave.Yes u = CanLeave u page
Says z page leave.Above u = z.alone ≡ true → flushed_by_all (opening u.given) (state u).core < ((state u).core.page page).gsn
Says z page leave.Held u = z.alone ≡ true → IsHeldBack (state u).core page

pub record Tells (z : Shape) (v : View) (page : ℕ) (answer : Leave) (u : View) : Type 0 where
  pub ran : Ran z.alone v [] u
  pub held : u.held ≡ v.held
  pub says : Says z page answer u

-- Where nobody else steps: no page that cools can leave. So many of them at most are held back by a worker, of which there is one if
-- there are any; and if there are more pages, there is one above what is flushed everywhere.
pub record NoneLeaves (k : Provider) (held : ℕ) (u : View) : Type 0 where
  pub none : NoneRipe (opening u.given) (state u).core
  pub some_held : 0 < held → (p : ℕ) × (is_cooling ((state u).core.place p) ≡ true) × IsHeldBack (state u).core p
  pub some_above : held < length k.queue → (p : ℕ) × (is_cooling ((state u).core.place p) ≡ true) × (flushed_by_all (opening u.given) (state u).core < ((state u).core.page p).gsn)

-- the page that may leave, or none
abbrev pub Chooses : Shape → Provider → Chosen → View → Type 0
Chooses z k (chosen.Page entry) u = CanLeave u entry.page × (found entry.page k.queue ≡ Some entry)
Chooses z k (chosen.Nobody held) u = (held ≤ length k.queue) × (z.alone ≡ true → NoneLeaves k held u)

-- A row was not as it has to be; nothing was appended before it was looked at.
pub record MissedLater (z : Shape) (v : View) (why : Refusal) (u : View) : Type 0 where
  pub at : View
  pub came : Ran z.alone v [] at
  pub free : at.held ≡ v.held
  pub missed : Missed z at why u

pub record Chose (z : Shape) (v : View) (k : Provider) (answer : Chosen) (u : View) : Type 0 where
  pub ran : Ran z.alone v [] u
  pub held : u.held ≡ v.held
  pub chooses : Chooses z k answer u

-- where nobody else steps, no page of the queue but the chosen one can leave
abbrev pub NoOther : Shape → View → Chosen → Type 0
NoOther z u (chosen.Page entry) = z.alone ≡ true → (p : ℕ) → p < (opening u.given).format.pages → p ≢ entry.page → is_cooling ((state u).core.place p) ≡ true → (flushed_by_all (opening u.given) (state u).core < ((state u).core.page p).gsn) ⊎ IsHeldBack (state u).core p
NoOther z u (chosen.Nobody held) = Unit {0}

-- where none leaves, none can be cooled either, where nobody else steps
abbrev pub NoneCools : Shape → List ℕ → View → Chosen → Type 0
NoneCools z path u (chosen.Page entry) = Unit {0}
NoneCools z path u (chosen.Nobody held) = z.alone ≡ true → NoCandidate (opening u.given) (state u).core (way path (state u).core)

-- the four counts, of as many frames as there are: on the path as many as have no page of the queue, but no more than it has frames
abbrev pub IsCounted : Provider → List ℕ → (held : ℕ) → Refusal → Type 0
IsCounted k path held (refusal.PoolFull on latched above h) = (on + latched + length k.queue ≡ k.frames) × (above + held ≡ length k.queue) × (h ≡ held) × (on ≤ length path) × (k.frames ≤ length k.queue + length path → latched ≡ 0)
IsCounted k path held _ = ⊥

-- ## Refusals

-- The disk does not see what was appended, no page was read, and of the pager's memory the queue, the free pages and the hand alone may have gone on.
pub record IsCalm (z : Shape) (v : View) (was : Provider) (u : View) (is : Provider) : Type 0 where
  pub events : List Event
  pub ran : Ran z.alone v events u
  pub quiet : all is_quiet (events_of events) ≡ true
  pub none : NoSaves events
  pub memory : is ≡ record was { queue = is.queue; free = is.free; hand = is.hand }

-- It was stopped by a row, and so it is.
pub record HasHalted (z : Shape) (v : View) (was : Provider) (why : Refusal) (u : View) (is : Provider) : Type 0 where
  pub kind : IsOfRow why
  pub calm : IsCalm z v was u is
