-- What the coming of pages into frames has done.
use Rattle.std.specs.Prelude.{◌≡◌, ◌≢◌, ◌≤◌, ◌<◌, ◌+◌, ◌*◌, ◌++◌, ℕ, suc, Bool, true, false, List, [], ◌∷◌, length, Result, Ok, Err}
use Rattle.map_model.specs.Lists.{any}
use Rattle.desk_parts.specs.core_calls.Fronts.{Done}
use Rattle.cold_pages.specs.Laws.{IsButEntries}
use Rattle.desk_parts.specs.core_calls.LogEvents.{IsTight, IsTightBeside, SyncsWhere}
use Rattle.desk_parts.specs.core_state.Events as happening
use Rattle.desk_parts.specs.core_state.Local.{is_sync}
use Rattle.desk_parts.specs.core_state.Openings.{Opening}
use Rattle.desk_parts.specs.core_state.States.{Place, State}
use Rattle.desk_parts.specs.engine_calls.Parts.{behind_first}
use Rattle.desk_parts.specs.engine_trait.Logs.{Logs}
use Rattle.page_pool.specs.Counts.{hot_pages}
use Rattle.desk_parts.specs.page_provider.Moves.{is_pagers}
use Rattle.paged_rows.specs.Paged.{IsNamed, IsWarm}
use Rattle.paged_rows.specs.Warms.{most_a_page}
use Rattle.paged_rows.specs.declared.wanted.Wanted.{Wanted}
use Rattle.paged_rows.specs.declared.wanted.Wanted.TheVariants as want
use Rattle.desk_parts.specs.row_words.declared.event.Event.{Event}
use Rattle.desk_parts.specs.row_words.declared.event.Event.TheVariants as told
use Rattle.desk_parts.specs.row_words.Moments.{events_of}
use Rattle.desk_parts.specs.row_words.Openings.{opening}
use Rattle.desk_parts.specs.rows_trait.Views.{state}
use Rattle.desk_parts.specs.session_desks.Desks.{desk_of}
use Rattle.desk_parts.specs.session_desks.Parts.{AreAsMany, here, logs}
use Rattle.desk_parts.specs.session_desks.declared.machine.Machine.{Machine}
use Rattle.desk_parts.specs.session_state.Ties.{Behind}
use Rattle.desk_parts.specs.session_state.declared.session.Session.{Session}
use Rattle.paged_desks.specs.Machines.{pages, view_of}
use Rattle.paged_desks.specs.declared.machine.PagedMachine.{PagedMachine}
use Rattle.paged_desks.specs.declared.warming.Unwarmed.{Unwarmed}
use Rattle.paged_desks.specs.declared.warming.Unwarmed.TheVariants as unwarmed

-- ## Events

-- a page moves or is saved, or the global epoch goes on; or a log is flushed, or all are synced
abbrev pub is_paging : Event → Bool
is_paging (told.Flush w n) = true
is_paging (told.Sync n) = true
is_paging e = is_pagers e

-- each of them is such
abbrev pub ArePaging : List Event → Type 0
ArePaging [] = Unit {0}
ArePaging (e ∷ es) = (is_paging e ≡ true) × ArePaging es

-- ## Sessions

-- of the session its clock may have risen, and what it knows of free pages, and how many of its commits wait for a flush, may have changed
pub record IsKept (x y : Session) : Type 0 where
  pub clock : x.clock.clock ≤ y.clock.clock
  pub session : y ≡ record x { clock = record x.clock { clock = y.clock.clock }; free = y.free; unflushed = y.unflushed }

-- so it is of each
abbrev pub AreKept : {D : Type 0} → Machine D → Machine D → Type 0
AreKept m n = (w : ℕ) → 0 < w → w ≤ m.work.session.workers → IsKept (desk_of (here m) m.desks.items w).session (desk_of (here n) n.desks.items w).session

-- ## A page that finds no frame

-- what is wanted stands in no frame, and none can be given to it
abbrev pub IsTightFor : Wanted → (key : ℕ) → Opening → State → Type 0
IsTightFor want.Way key g s = IsTight g s key
IsTightFor (want.Free page) key g s = IsTight g s key
IsTightFor (want.Beside page) key g s = IsTightBeside key page g s

-- ## What was done

-- how many pages of the machine are hot
abbrev pub hot_in : {D : Type 0} → PagedMachine D → ℕ
hot_in m = hot_pages (opening (view_of m).given) (state (view_of m)).core

-- so many events at most has the coming of one page of a way, beside those by which pages cool: it may be asked for twice, with a sync of so many logs in between
abbrev pub most_a_level : (logs : ℕ) → ℕ
most_a_level logs = 6 * most_a_page + suc logs

-- Pages were moved and whole syncs made, by so many events beside those by which pages cool. The turn is with whoever had it, each session is as it was but for its clock, its free
-- pages and its waiting commits, and its log has the flushes and the syncs. The master is another one only behind a sync, and a sync begins where P is so.
pub record HasPagedWhere {D : Type 0} (P : Opening → State → Type 0) (most : ℕ) (m n : PagedMachine D) : Type 0 where
  pub events : List Event
  pub given : (view_of n).given ≡ (view_of m).given
  pub seen : (view_of n).seen ≡ (view_of m).seen ++ events
  pub paging : ArePaging events
  pub few : length events + 2 * hot_in n ≤ 2 * hot_in m + most
  pub same : AreAsMany m.machine n.machine
  pub turn : n.machine.work.session.own ≡ m.machine.work.session.own
  pub sessions : AreKept m.machine n.machine
  pub logged : (w : ℕ) → 0 < w → w ≤ m.machine.work.session.workers → (g : Opening) (s : State) → Logs w g s (events_of events) (logs m.machine w) (logs n.machine w)
  pub master : any is_sync (events_of events) ≡ false → n.machine.master ≡ m.machine.master
  -- in each run the needs of the events are met, and a sync stands only where P is so
  pub behind : (g : Opening) (xs : List Done) (first : List happening.Event) → Behind g xs first (view_of m) → Behind g xs (first ++ events_of events) (view_of n)
  pub tight : (g : Opening) (xs : List Done) (first : List happening.Event) → Behind g xs first (view_of m) → SyncsWhere (P g) g (behind_first g xs first) false (events_of events)

-- so it was for the pages of a key's way, or a free one: a sync stands only where such a page finds no frame
abbrev pub HasPaged : {D : Type 0} → (key most : ℕ) → PagedMachine D → PagedMachine D → Type 0
HasPaged key most m n = HasPagedWhere (λ g s. IsTight g s key) most m n

-- ## A free page

-- A page that was free stands hot in the frame, with the number and the node that it had, and the session's free pages are those that they were: so it is
-- free still. The pages of the key's way are hot.
pub record IsHome {D : Type 0} (key page frame : ℕ) (m n : PagedMachine D) : Type 0 where
  pub hot : (state (view_of n)).core.place page ≡ Place.Hot frame
  pub same : (state (view_of n)).core.page page ≡ (state (view_of m)).core.page page
  pub free : n.machine.work.session.free ≡ m.machine.work.session.free
  pub warm : IsWarm (pages n) key 0

-- ## A page beside the way

-- A page that a page of the key's way names stands hot in the frame, and is named still. It is as it was, but for the entries of a leaf, and where rows began
-- faithful these too. Each other page is as it was. The session's free pages are those that they were, and the pages of the key's way are hot.
pub record IsNear {D : Type 0} (key page frame : ℕ) (m n : PagedMachine D) : Type 0 where
  pub hot : (state (view_of n)).core.place page ≡ Place.Hot frame
  pub named : IsNamed (pages n) key page
  pub like : IsButEntries ((state (view_of m)).core.page page) ((state (view_of n)).core.page page)
  pub same : (view_of m).given.faithful ≡ true → (state (view_of n)).core.page page ≡ (state (view_of m)).core.page page
  pub others : (p : ℕ) → p ≢ page → (state (view_of n)).core.page p ≡ (state (view_of m)).core.page p
  pub free : n.machine.work.session.free ≡ m.machine.work.session.free
  pub warm : IsWarm (pages n) key 0

-- ## Answers

-- whether the machine works on
abbrev pub goes_on : {A : Type 0} → Result A Unwarmed → Bool
goes_on (Ok a) = true
goes_on (Err unwarmed.RowSpent) = true
goes_on (Err why) = false
