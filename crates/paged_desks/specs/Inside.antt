-- Words of private functions.
use Rattle.std.specs.Prelude.{◌≡◌, ◌≢◌, ◌≤◌, ◌<◌, ◌+◌, ◌*◌, ◌-◌, ℕ, Bool, true, false, List, length, Option, Some, None}
use Rattle.cold_pages.specs.Laws.{IsButEntries}
use Rattle.desk_parts.specs.call_parts.Parts.{Failed, Part}
use Rattle.desk_parts.specs.call_parts.Rooms as rooms
use Rattle.desk_parts.specs.core_state.Events as happening
use Rattle.desk_parts.specs.core_state.Openings.{Opening}
use Rattle.desk_parts.specs.core_state.States.{Place, State}
use Rattle.desk_parts.specs.Pages.{StaysWithin}
use Rattle.lean_disk.specs.Story.{Story}
use Rattle.desk_parts.specs.page_provider.Disks.{Disked}
use Rattle.desk_parts.specs.page_provider.declared.refusal.Refusal.{Refusal}
use Rattle.desk_parts.specs.page_provider.declared.refusal.Refusal.TheVariants as refusal
use Rattle.paged_rows.specs.Paged.{IsNamed, IsWarm}
use Rattle.paged_rows.specs.Warms.{IsCrowded, ReadsUnlessSaved}
use Rattle.paged_rows.specs.declared.wanted.Wanted.{Wanted}
use Rattle.paged_rows.specs.declared.wanted.Wanted.TheVariants as want
use Rattle.desk_parts.specs.rows_trait.declared.view.View.{View}
use Rattle.desk_parts.specs.rows_trait.Views.{state}
use Rattle.desk_parts.specs.session_desks.Parts.{AreAsMany, SeatFits, shape}
use Rattle.paged_desks.specs.Machines.{memory, pages, view_of}
use Rattle.paged_desks.specs.Pages.{HasPagedWhere, hot_in}
use Rattle.paged_desks.specs.Parts.{IsLate, StandsNowhere}
use Rattle.paged_desks.specs.declared.machine.PagedMachine.{PagedMachine}
use Rattle.paged_desks.specs.declared.warming.Unwarmed.{Unwarmed}
use Rattle.paged_desks.specs.declared.warming.Unwarmed.TheVariants as unwarmed

-- ## Refusals

-- a row, the device or the page is why
abbrev pub IsOfPage : Refusal → Type 0
IsOfPage (refusal.RowSpent row) = Unit {0}
IsOfPage refusal.DiskFault = Unit {0}
IsOfPage (refusal.Damaged page counts other) = Unit {0}
IsOfPage (refusal.Altered page) = Unit {0}
IsOfPage _ = ⊥

-- no frame could be given
abbrev pub is_full : Refusal → Bool
is_full (refusal.PoolFull on latched above held) = true
is_full _ = false

-- as the machine says it
abbrev pub stopped_by : Refusal → Unwarmed
stopped_by (refusal.RowSpent row) = unwarmed.RowSpent
stopped_by (refusal.Damaged page counts other) = unwarmed.Damaged page
stopped_by (refusal.Altered page) = unwarmed.Altered page
stopped_by _ = unwarmed.DiskFault

-- it is late where a row is why
abbrev pub LateCause : View → Refusal → Type 0
LateCause v (refusal.RowSpent row) = IsLate v
LateCause v _ = Unit {0}

-- over a run no page is kept from it
abbrev pub AwayCause : {D : Type 0} → (story : D → Story) → PagedMachine D → Refusal → Type 0
AwayCause story m (refusal.Damaged page counts other) = StandsNowhere story m
AwayCause story m (refusal.Altered page) = StandsNowhere story m
AwayCause story m _ = Unit {0}

-- as the machine says it
abbrev pub UnreadCause : {D : Type 0} → (story : D → Story) → PagedMachine D → Unwarmed → Type 0
UnreadCause story m (unwarmed.Damaged page) = StandsNowhere story m
UnreadCause story m (unwarmed.Altered page) = StandsNowhere story m
UnreadCause story m _ = Unit {0}

-- ## One page

-- but for rows, seat, pager and disk all is as it was
pub record IsBeside {D : Type 0} (m n : PagedMachine D) : Type 0 where
  pub shape : shape n.machine ≡ shape m.machine
  pub session : n.machine.work.session ≡ m.machine.work.session
  pub log : n.machine.work.log ≡ m.machine.work.log
  pub desks : n.machine.desks ≡ m.machine.desks
  pub latches : n.machine.latches ≡ m.machine.latches
  pub master : n.machine.master ≡ m.machine.master

-- no frame could be given to a page of the key's way, or to the one that was wanted
pub record IsTooFull {D : Type 0} (key : ℕ) (wanted : Wanted) (m : PagedMachine D) : Type 0 where
  pub on : ℕ
  pub above : ℕ
  pub held : ℕ
  pub crowded : IsCrowded key wanted on above held (pages m)

-- what a call of the pager has made of the device
pub record HasServed {D : Type 0} (story : D → Story) (m n : PagedMachine D) : Type 0 where
  pub disk : Disked true m.pager (view_of m) n.pager (view_of n) (story m.machine.work.disk) (story n.machine.work.disk)
  pub stays : StaysWithin (story m.machine.work.disk) (story n.machine.work.disk)
  pub reads : ReadsUnlessSaved (pages m) (pages n) (story m.machine.work.disk) (story n.machine.work.disk)

-- Pages were moved and whole syncs made, each where P is so, as a part of a call.
pub record HasDone {D : Type 0} (story : D → Story) (P : Opening → State → Type 0) (most : ℕ) (m n : PagedMachine D) : Type 0 where
  pub paged : HasPagedWhere P most m n
  pub part : Part m.machine.work.session.workers paged.events (view_of m) (view_of n) (memory m) (memory n) (story m.machine.work.disk) (story n.machine.work.disk)

-- A device failed, or a page was not to be had: these events were moves of pages and of logs, at most so many beside those by which pages cooled.
pub record HasBroken {D : Type 0} (story : D → Story) (most : ℕ) (m n : PagedMachine D) : Type 0 where
  pub events : List happening.Event
  pub paging : rooms.ArePaging events
  pub few : length events ≤ 2 * hot_in m + most
  pub failed : Failed m.machine.work.session.workers true true events (view_of m) (memory m) (story m.machine.work.disk) (story n.machine.work.disk)
  pub same : AreAsMany m.machine n.machine
  pub fits : SeatFits n.machine

-- it works no longer, and is as it was else
pub record IsStopped {D : Type 0} (m n : PagedMachine D) : Type 0 where
  pub works : n.machine.work.session.works ≡ false
  pub disk : n.machine.work.disk ≡ m.machine.work.disk
  pub same : AreAsMany m.machine n.machine
  pub fits : SeatFits m.machine → SeatFits n.machine

-- the way is hot from one level further down
abbrev pub IsWarmer : {D : Type 0} → (key : ℕ) → PagedMachine D → PagedMachine D → Type 0
IsWarmer key m n = (level : ℕ) → IsWarm (pages m) key level → (0 < level) × IsWarm (pages n) key (level - 1)

-- The free page stands hot in the frame, as it was; the way is hot, and the same pages are free.
pub record IsHoused {D : Type 0} (key page frame : ℕ) (m n : PagedMachine D) : Type 0 where
  pub hot : (state (view_of n)).core.place page ≡ Place.Hot frame
  pub same : (state (view_of n)).core.page page ≡ (state (view_of m)).core.page page
  pub warm : IsWarm (pages n) key 0
  pub frees : (p : ℕ) → ((state (view_of n)).core.page p).node.live ≡ ((state (view_of m)).core.page p).node.live

-- The page that a page of the way names stands hot in the frame, as it was, and is named still; each other page is as it was, the way is hot, and the same pages are free.
pub record IsDrawn {D : Type 0} (key page frame : ℕ) (m n : PagedMachine D) : Type 0 where
  pub hot : (state (view_of n)).core.place page ≡ Place.Hot frame
  pub named : IsNamed (pages n) key page
  pub like : IsButEntries ((state (view_of m)).core.page page) ((state (view_of n)).core.page page)
  pub same : (view_of m).given.faithful ≡ true → (state (view_of n)).core.page page ≡ (state (view_of m)).core.page page
  pub others : (p : ℕ) → p ≢ page → (state (view_of n)).core.page p ≡ (state (view_of m)).core.page p
  pub warm : IsWarm (pages n) key 0
  pub frees : (p : ℕ) → ((state (view_of n)).core.page p).node.live ≡ ((state (view_of m)).core.page p).node.live

-- what has come: all of the way is hot, or one page more of it; or the free page, or the one that a page of the way names
abbrev pub Comes : {D : Type 0} → (key : ℕ) → Wanted → Option ℕ → PagedMachine D → PagedMachine D → Type 0
Comes key want.Way None m n = IsWarm (pages n) key 0
Comes key want.Way (Some frame) m n = IsWarmer key m n
Comes key (want.Free page) None m n = ⊥
Comes key (want.Free page) (Some frame) m n = IsHoused key page frame m n
Comes key (want.Beside page) None m n = ⊥
Comes key (want.Beside page) (Some frame) m n = IsDrawn key page frame m n
