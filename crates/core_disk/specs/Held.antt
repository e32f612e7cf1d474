-- What the bytes of a disk hold where a crash of a run of the core left them. A run is a list of events from an opening; the disk
-- is read by one master.
use Rattle.std.specs.Prelude.{◌≡◌, ◌<◌, ◌≤◌, ℕ, suc, true, List, length, Option, Some}
use Rattle.map_model.specs.Lists.{Has}
use Rattle.core_crash.specs.image_model.Entries.{Entry, Contents, touches}
use Rattle.core_crash.specs.image_model.Slots.{Slot, newer_page, valid}
use Rattle.core_crash.specs.core_state.Openings.{Opening}
use Rattle.core_crash.specs.core_state.States.{State, start, flushed_by_all}
use Rattle.core_crash.specs.core_state.Events.{Event}
use Rattle.core_crash.specs.core_state.Steps.{HasBeen, state_after}
use Rattle.core_crash.specs.Crashes.{log_of, from_head, IsPrefix}
use Rattle.disk_image.specs.disk_slots.declared.master.Master.{Master}
use Rattle.disk_image.specs.Formats.{format_of}
use Rattle.disk_image.specs.MasterSlots.{master_on}
use Rattle.disk_image.specs.Runs.{AreReadable, entries_in, sealed_in}
use Rattle.disk_image.specs.Shown.{Areas, logged_in, page_slot_in, run_of, slot_of}
use Rattle.core_disk.specs.MasterFloors.{IsFloorOf}

-- ## Logs

-- The run of log w is whole blocks with these records, from the head on: a prefix of the log, which has each record that is flushed.
-- No block is of a later generation.
pub record HoldsPrefix (g : Opening) (s : State) (n : Master) (w : ℕ) (bytes : List ℕ) (left : List Entry) : Type 0 where
  pub readable : AreReadable n.generation w (run_of n w bytes)
  pub entries : entries_in (logged_in n w bytes) ≡ from_head (s.head w) left
  pub prefix : IsPrefix left (log_of w s.entries)
  pub flushed : (r : Entry) → Has r (log_of w s.entries) → r.number ≤ s.flushed w → Has r left
  pub sealed : (x : ℕ) → Has x (sealed_in n.blocks bytes) → x ≤ n.generation

-- so for some prefix
pub record HoldsLog (g : Opening) (s : State) (n : Master) (w : ℕ) (bytes : List ℕ) : Type 0 where
  pub left : List Entry
  pub holds : HoldsPrefix g s n w bytes left

-- ## Pages

-- What a crash may leave of page p: it has been so, with a number up to the least flushed one, and has its changes up to the
-- greatest number of a cut.
pub record IsVersion (g : Opening) (es : List Event) (p : ℕ) (v : Contents) : Type 0 where
  pub been : HasBeen g (start g) es p v
  pub number : v.gsn ≤ flushed_by_all g (state_after g es)
  pub changes : (r : Entry) → Has r (state_after g es).entries → touches p r ≡ true → r.number ≤ (state_after g es).cut → r.number ≤ v.gsn

-- slot i of page p
abbrev pub slot_in : Master → (p i : ℕ) → List ℕ → Option Slot
slot_in n p i bytes = slot_of (page_slot_in n.pages p i bytes)

-- its base
abbrev pub base_in : Master → ℕ → List ℕ → Option Contents
base_in n p bytes = newer_page (valid n.generation (slot_in n p 0 bytes)) (valid n.generation (slot_in n p 1 bytes))

-- The base of page p is such a version, and none of its slots is of a later generation.
pub record HoldsPage (g : Opening) (es : List Event) (n : Master) (p : ℕ) (bytes : List ℕ) : Type 0 where
  pub page : Contents
  pub version : IsVersion g es p page
  pub base : base_in n p bytes ≡ Some page
  pub slots : (i : ℕ) (x : Slot) → i < 2 → slot_in n p i bytes ≡ Some x → x.generation ≤ n.generation

-- ## Disks

-- The master is one of the state: as many pages and logs, and a floor by which recovery finds the same. That its heads are those of the state is said by the logs.
-- What is read of a disk's pages is what was saved, so the run is from a faithful opening.
pub record IsMasterOf (g : Opening) (s : State) (n : Master) : Type 0 where
  pub faithful : g.faithful ≡ true
  pub format : g.format ≡ format_of n.pages
  pub logs : length n.heads ≡ g.workers
  pub floor : IsFloorOf g s n.floor

-- The bytes hold, by the master n, what a crash after the events es leaves: n counts and is the state's, and so is each log and each page.
pub record HoldsRun (g : Opening) (es : List Event) (n : Master) (area : Areas) : Type 0 where
  pub master : master_on (area 0) ≡ Some n
  pub is : IsMasterOf g (state_after g es) n
  pub logs : (w : ℕ) → 0 < w → w ≤ g.workers → HoldsLog g (state_after g es) n w (area (suc w))
  pub pages : (p : ℕ) → p < n.pages → HoldsPage g es n p (area 1)
