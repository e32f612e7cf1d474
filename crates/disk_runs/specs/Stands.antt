-- What a disk is while a run of the core goes on over it.
use Rattle.std.specs.Prelude.{◌≡◌, ◌<◌, ◌≤◌, ℕ, suc, List, Option}
use Rattle.page_model.specs.Page.{Page}
use Rattle.core_disk.specs.core_state.Openings.{Opening}
use Rattle.core_disk.specs.core_state.Events.{Event}
use Rattle.lean_disk.specs.Story.{Crash, Story}
use Rattle.master_store.specs.disk_slots.declared.master.Master.{Master}
use Rattle.worker_log.specs.Accounts.{Account}
use Rattle.worker_log.specs.Logs.{Log}
use Rattle.master_store.specs.page_store.Bases.{image_page}
use Rattle.core_disk.specs.core_state.Steps.{state_after}
use Rattle.core_disk.specs.Held.{HoldsRun, IsMasterOf}
use Rattle.disk_runs.specs.Fair.{IsFairFrom, TellsAll}
use Rattle.disk_runs.specs.Logs.{LogStands}
use Rattle.disk_runs.specs.Masters.{MasterStands}
use Rattle.disk_runs.specs.Pages.{Firm, PagesStand, last_saved}

-- What is known of the disk: the master that counts, each log with its account, the firm slot of each page, and what was saved of it
-- since the last sync of the pages.
pub record Known : Type 0 where
  pub master : Master
  pub log : ℕ → Log
  pub account : ℕ → Account
  pub firm : ℕ → Firm
  pub late : ℕ → Option Page

-- After the run es the disk tells s. As the run began it was s0, as a read gave it.
pub record Stands (g : Opening) (es : List Event) (s0 : Crash) (x : Known) (s : Story) : Type 0 where
  pub tells : TellsAll g.workers s
  pub is : IsMasterOf g (state_after g es) x.master
  pub master : MasterStands x.master (s0.image 0) (s0.writes 0) (s.area 0)
  pub pages : PagesStand g es x.master.pages x.master.generation (s0.image 1) (s0.writes 1) x.firm x.late (s.area 1)
  -- the last save of a page is what the state has saved
  pub saved : (p : ℕ) → p < x.master.pages → image_page (last_saved (x.firm p) (x.late p)) ≡ (state_after g es).saved p
  pub logs : (w : ℕ) → 0 < w → w ≤ g.workers → LogStands (state_after g es) x.master (s0.image (suc w)) (s0.writes (suc w)) w (x.account w) (x.log w) (s.area (suc w))

-- A crash in a run that began so: if its image is fair, the disk holds by the master n what a crash after es leaves.
abbrev pub LeavesRun : Opening → List Event → Crash → Master → Crash → Type 0
LeavesRun g es s0 n c = IsFairFrom g.workers s0 c → HoldsRun g es n c.image
