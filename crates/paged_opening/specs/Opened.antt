-- What an opening gives to an engine larger than memory: rows of which page 0 alone is in a frame, their one seat, and the
-- pager that brings the other pages in.
use Rattle.std.specs.Prelude.{◌≡◌, ◌<◌, ◌≤◌, ◌+◌, ◌^◌, ℕ, zero, suc, Bool, true, false, not, List, length, map, replicate, Some}
use Rattle.page_model.specs.Page.{Page}
use Rattle.session_state.specs.core_calls.Room.{frees_from}
use Rattle.lean_disk.specs.Story.{Story, Tells, areas_of}
use Rattle.session_state.specs.disk_slots.declared.master.Master.{Master}
use Rattle.session_state.specs.disk_image.MasterSlots.{master_on}
use Rattle.session_state.specs.disk_image.Shown.{IsCleanDisk}
use Rattle.session_state.specs.row_words.declared.given.Given.{Given}
use Rattle.session_state.specs.rows_trait.Plain.{sizes}
use Rattle.session_state.specs.rows_trait.Rule.{IsPicture, plan}
use Rattle.session_state.specs.rows_trait.Views.{Shape, first_plain, no_place}
use Rattle.session_state.specs.rows_trait.declared.plain.PlainRows.{PlainRows}
use Rattle.session_state.specs.row_opening.Rooted.{IsRooted, rooted_of}
use Rattle.cold_pages.specs.declared.kept.Kept.{Kept}
use Rattle.cold_pages.specs.Kept.{left, nothing}
use Rattle.session_state.specs.row_opening.Opened.{page_at}
use Rattle.page_calls.specs.Slots.{opened_slot}
use Rattle.page_provider.specs.Fresh.{fresh}
use Rattle.page_provider.specs.Providers.{Keeps}
use Rattle.session_state.specs.Free.{nodes_in}
use Rattle.recovery.specs.Installed.{HasInstalled}
use Rattle.recovery.specs.Masters.{IsOpenable}
use Rattle.recovery.specs.Opened.{HasSlots, IsOpened, IsRecovered, IsWhole}
use Rattle.recovery.specs.Telling.{TellsAll}
use Rattle.recovery.specs.declared.opening.Recovered.{Recovered}
use Rattle.paged_opening.specs.declared.opening.Opened as code

-- ## What recovery gave

-- A disk that told s0 was recovered, with at most so many logs, and tells s1.
pub record HasRecovered (most : ℕ) (s0 s1 : Story) (r : Recovered) : Type 0 where
  pub answer : TellsAll most s0 → (m : Master) × IsOpenable most m × IsRecovered m (areas_of s0) r
  pub opened : TellsAll most s0 → (m : Master) → IsCleanDisk m (areas_of s0) → IsOpened m (areas_of s0) r s1
  pub installed : TellsAll most s0 → (m : Master) → master_on (areas_of s0 0) ≡ Some m → HasInstalled m r s0 s1
  pub slots : Tells s0 1 → HasSlots r s1
  pub whole : IsWhole r
  pub few : length r.master.heads ≤ most
  pub sequence : r.master.sequence < 2 ^ 61
  pub beyond : (a : ℕ) → 1 + length r.master.heads < a → s1.area a ≡ s0.area a

-- ## Rows and their pager

-- so many rows; nobody but their seat steps
abbrev pub lone_shape : (frames locks workers : ℕ) → Shape
lone_shape frames locks workers = record { sizes = sizes frames locks workers; alone = true; place = no_place }

-- that of these rows
abbrev pub shape_of : PlainRows → Shape
shape_of rows = lone_shape rows.frames rows.locks rows.workers

-- a page is marked where it is not live
abbrev pub free_of : List Page → List Bool
free_of pages = map (λ x. not x.node.live) pages

-- those pages, the least first
abbrev pub frees_of : List Page → List ℕ
frees_of pages = frees_from (nodes_in pages) (length pages) 0

-- what is kept of the pages below page n: nothing of page 0, which stands in a frame, and of each other page as it left
abbrev pub cold_to : List Page → ℕ → List Kept
cold_to pages zero = replicate (length pages) nothing
cold_to pages (suc zero) = replicate (length pages) nothing
cold_to pages (suc (suc n)) = left (cold_to pages (suc n)) (suc n) (page_at pages (suc n))

abbrev pub cold_of : List Page → List Kept
cold_of pages = cold_to pages (length pages)

-- what the rows begin with: the recovered pages, page 0 alone in a frame, a worker for each log, and the base number; and whether
-- a page that is read again is as it was saved
abbrev pub given_by : Bool → (frames locks : ℕ) → Recovered → Given
given_by faithful frames locks r = rooted_of faithful frames locks (length r.master.heads) r.master.floor r.pages.items

-- The rows are so many and at their beginning, the seat is theirs, and the pager is a new one of theirs: it knows the pages
-- that are free, the slot that recovery gives for each page, and what each page but page 0 is, and saves by the new
-- generation. The free pages are told beside it too. The master and the counts are recovery's.
pub record IsPaged (faithful : Bool) (frames locks : ℕ) (r : Recovered) (o : code.Opened) : Type 0 where
  pub frames_are : o.rows.frames ≡ frames
  pub locks_are : o.rows.locks ≡ locks
  pub workers_are : o.rows.workers ≡ length r.master.heads
  pub fits : IsPicture (plan (sizes o.rows.frames o.rows.locks o.rows.workers) o.seat.view.given) o.rows.words.items o.seat.view
  pub view : o.seat.view ≡ first_plain (given_by faithful frames locks r)
  pub rooted : IsRooted r.pages.items (given_by faithful frames locks r)
  pub pager : o.pager ≡ fresh frames (length r.master.heads) r.master.generation (free_of r.pages.items) (map opened_slot r.slots.items) (cold_of r.pages.items)
  pub keeps : Keeps (shape_of o.rows) o.seat.view o.pager
  pub works : o.pager.broken ≡ false
  pub free : o.free ≡ frees_of r.pages.items
  pub master : o.master ≡ r.master
  pub won : o.winners ≡ r.winners
  pub lost : o.undone ≡ r.undone

-- ## Both

-- A disk that told s0 was opened and tells s1: recovery gave something, of which these are the rows and their pager. The rows
-- begin faithful where the disk tells of its pages.
pub record HasOpened (frames locks most : ℕ) (s0 s1 : Story) (o : code.Opened) : Type 0 where
  pub recovered : Recovered
  pub is : HasRecovered most s0 s1 recovered
  pub paged : IsPaged (s1.tells 1) frames locks recovered o
