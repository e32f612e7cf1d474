-- A run begins on a disk that recovery has opened: what recovery's clauses give, and the logs as they are made.
use Rattle.std.specs.Prelude.{◌≡◌, ◌<◌, ◌≤◌, ℕ, suc, true, [], length, slice_index}
use Rattle.disk_runs.specs.core_state.Openings.{Opening}
use Rattle.lean_disk.specs.Area.{Area}
use Rattle.lean_disk.specs.Story.{Crash, Story, areas_of}
use Rattle.disk_runs.specs.disk_slots.declared.master.Master.{Master}
use Rattle.disk_runs.specs.disk_image.Shown.{IsCleanDisk}
use Rattle.disk_runs.specs.worker_log.Logs.{Log}
use Rattle.disk_runs.specs.worker_log.Kept.{IsFresh, IsInRange, IsKept, fresh_account}
use Rattle.recovery.specs.Installed.{HasInstalled}
use Rattle.recovery.specs.Opened.{IsOpened, IsRecovered, IsUntouched, IsWhole}
use Rattle.recovery.specs.Starts.{IsStartOf}
use Rattle.recovery.specs.declared.opening.Recovered.{Recovered}
use Rattle.disk_runs.specs.Fair.{IsAsRead, TellsAll}
use Rattle.disk_runs.specs.Openings.{Opens, opened}
use Rattle.disk_runs.specs.Pages.{Firm}
use Rattle.disk_runs.specs.Stands.{Stands}

-- log w of the generation, without a block or a record, flushed up to the master's floor
abbrev pub empty_log : Master → ℕ → Log
empty_log n w = record { generation = n.generation; log = w; blocks = n.blocks; head = 0; next = 0; payload = []; count = 0; last = n.floor; flushed = n.floor; ends = [] }

-- the log is made so for its area: an account of it begins where the area holds nothing of its generation
pub record IsMade (n : Master) (w : ℕ) (log : Log) (area : Area) : Type 0 where
  pub is : log ≡ empty_log n w
  pub ranges : IsInRange log
  pub starts : IsFresh log area → IsKept (fresh_account area) log area

-- A clean disk, which told s0, was opened and tells s; the opening is the start that it gave, and faithful, since the disk tells; and its
-- logs are made.
pub record IsStart (m : Master) (r : Recovered) (g : Opening) (log : ℕ → Log) (s0 s : Story) : Type 0 where
  pub tells : TellsAll g.workers s
  pub faithful : g.faithful ≡ true
  pub clean : IsCleanDisk m (areas_of s0)
  -- what recovery says
  pub recovered : IsRecovered m (areas_of s0) r
  pub whole : IsWhole r
  pub opened : IsOpened m (areas_of s0) r s
  pub installed : HasInstalled m r s0 s
  pub untouched : (w : ℕ) → 0 < w → w ≤ length m.heads → IsUntouched (s0.area (suc w)) (s.area (suc w))
  -- the start of the run
  pub opening : IsStartOf m (areas_of s0) g
  pub made : (w : ℕ) → 0 < w → w ≤ g.workers → IsMade r.master w (log w) (s.area (suc w))

-- The run stands there before its first event: by the new master, with the empty logs, each page firm in one of its slots. The disk was c as a
-- read gave it before recovery.
pub record Starts (g : Opening) (r : Recovered) (log : ℕ → Log) (c : Crash) (s : Story) : Type 0 where
  pub firm : ℕ → Firm
  pub opens : Opens g c r.master log firm s
  pub stands : Stands g [] c (opened r.master log firm s) s
  -- the firm slot of each page is the one that recovery gives
  pub slots : (p : ℕ) → p < r.master.pages → (firm p).slot ≡ slice_index r.slots.items p

abbrev pub EveryStart : (s0 s : Story) → Type 0
EveryStart s0 s = (m : Master) (r : Recovered) (g : Opening) (log : ℕ → Log) (c : Crash) → IsAsRead s0 c → IsStart m r g log s0 s → Starts g r log c s
