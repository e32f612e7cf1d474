-- How a run begins on the disk that recovery leaves.
use Rattle.std.specs.Prelude.{◌≡◌, ◌⊎◌, ◌<◌, ◌≤◌, ◌-◌, ◌++◌, ℕ, suc, true, List, [], length, Some, None}
use Rattle.map_model.specs.Lists.{Has}
use Rattle.page_model.specs.Page.{Page}
use Rattle.core_disk.specs.core_state.Openings.{Opening, start_page}
use Rattle.lean_disk.specs.Area.{Area, Write}
use Rattle.lean_disk.specs.Story.{Crash, Story}
use Rattle.master_store.specs.disk_slots.declared.master.Master.{Master}
use Rattle.master_store.specs.disk_image.Formats.{format_of}
use Rattle.master_store.specs.disk_image.PageSlots.{page_in}
use Rattle.master_store.specs.disk_image.Runs.{sealed_in}
use Rattle.master_store.specs.disk_image.Shown.{head_of, page_slot_in}
use Rattle.master_store.specs.page_store.Bases.{image_page}
use Rattle.master_store.specs.page_store.Saved.{IsSynced, place_of}
use Rattle.worker_log.specs.Kept.{IsInRange, IsKept, fresh_account}
use Rattle.worker_log.specs.Logs.{Log}
use Rattle.disk_runs.specs.Fair.{IsSlotWrite, TellsAll}
use Rattle.disk_runs.specs.Logs.{IsLogOf}
use Rattle.disk_runs.specs.Masters.{MasterStands}
use Rattle.disk_runs.specs.Pages.{Firm, IsNoOlder, Yields}
use Rattle.disk_runs.specs.Stands.{Known, Stands}

-- in the slot of a page there may be one that does not count beside the firm one, or the recovered one
pub record MayBe (g : Opening) (generation p : ℕ) (firm : Firm) (y : Page) : Type 0 where
  pub generation_is : y.generation ≤ generation
  pub is : Yields firm y ⊎ (IsNoOlder y firm.page × (image_page y ≡ start_page g p))

-- The recovered page stands in one of its slots; the other one holds a page that does not count, or none.
pub record OpensPage (g : Opening) (pages generation p : ℕ) (firm : Firm) (area : Area) : Type 0 where
  pub half : firm.slot < 2
  pub there : page_slot_in pages p firm.slot area.bytes ≡ Some firm.page
  pub generation_is : firm.page.generation ≤ generation
  pub is : image_page firm.page ≡ start_page g p
  pub spare : (y : Page) → page_slot_in pages p (1 - firm.slot) area.bytes ≡ Some y → Yields firm y

-- So it is of each page. What stood in a slot when the run began, and what recovery wrote there, is one that does not count or the recovered one.
pub record OpensPages (g : Opening) (pages generation : ℕ) (first : List ℕ) (older : List Write) (firm : ℕ → Firm) (area : Area) : Type 0 where
  pub synced : IsSynced area
  pub since : List Write
  pub writes : area.writes ≡ since ++ older
  pub own : (w : Write) → Has w since → IsSlotWrite w
  pub page : (p : ℕ) → p < pages → OpensPage g pages generation p (firm p) area
  pub old : (p i : ℕ) (y : Page) → p < pages → i < 2 → page_slot_in pages p i first ≡ Some y → MayBe g generation p (firm p) y
  pub new : (p i : ℕ) (bytes : List ℕ) (y : Page) → p < pages → i < 2 → Has (place_of p i, bytes) since → page_in p pages bytes ≡ Some y → MayBe g generation p (firm p) y

-- Each log is empty, and recovery left its area as it was.
pub record OpensLog (n : Master) (w : ℕ) (log : Log) (first : List ℕ) (older : List Write) (area : Area) : Type 0 where
  pub is : IsLogOf n w log
  pub head : head_of n w ≡ 0
  pub ranges : IsInRange log
  pub numbers : (log.last ≡ n.floor) × (log.flushed ≡ n.floor)
  pub fresh : IsKept (fresh_account area) log area
  pub bytes : area.bytes ≡ first
  pub writes : area.writes ≡ older
  pub sealed : (q : ℕ) → Has q (sealed_in n.blocks first) → q ≤ n.generation

-- The disk was opened: it was s0 as a read gave it before, and it tells s now.
pub record Opens (g : Opening) (s0 : Crash) (n : Master) (log : ℕ → Log) (firm : ℕ → Firm) (s : Story) : Type 0 where
  pub tells : TellsAll g.workers s
  pub faithful : g.faithful ≡ true
  pub format : g.format ≡ format_of n.pages
  pub logs : length n.heads ≡ g.workers
  pub floor : n.floor ≡ g.base
  pub master : MasterStands n (s0.image 0) (s0.writes 0) (s.area 0)
  pub pages : OpensPages g n.pages n.generation (s0.image 1) (s0.writes 1) firm (s.area 1)
  pub each : (w : ℕ) → 0 < w → w ≤ g.workers → OpensLog n w (log w) (s0.image (suc w)) (s0.writes (suc w)) (s.area (suc w))

-- what is known of a disk that was opened: fresh accounts, and nothing saved since
abbrev pub opened : Master → (ℕ → Log) → (ℕ → Firm) → Story → Known
opened n log firm s = record { master = n; log = log; account = λ w. fresh_account (s.area (suc w)); firm = firm; late = λ _. None }

-- A run of no event stands there.
abbrev pub EveryOpened : (s : Story) → Type 0
EveryOpened s = (s0 : Crash) (g : Opening) (n : Master) (log : ℕ → Log) (firm : ℕ → Firm) → Opens g s0 n log firm s → Stands g [] s0 (opened n log firm s) s
