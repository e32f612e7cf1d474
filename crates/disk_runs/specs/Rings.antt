-- A cut of all logs at a number: the head of each passes the blocks that have no record above it, and their places may be written again.
use Rattle.std.specs.Prelude.{◌≡◌, ◌<◌, ◌≤◌, ◌+◌, ℕ, true, List}
use Rattle.core_disk.specs.core_state.Openings.{Opening}
use Rattle.core_disk.specs.core_state.Events.{Event}
use Rattle.core_disk.specs.core_state.Needs.{may}
use Rattle.core_disk.specs.core_state.States.{flushed_by_all}
use Rattle.core_disk.specs.core_state.Steps.{state_after}
use Rattle.core_disk.specs.Versions.{HasUpTo, then}
use Rattle.master_store.specs.disk_image.Shown.{head_of}
use Rattle.master_store.specs.disk_slots.Masters.{IsMaster}
use Rattle.master_store.specs.disk_slots.declared.master.Master.{Master}
use Rattle.lean_disk.specs.Story.{Crash, Story}
use Rattle.master_store.specs.page_store.Bases.{image_page}
use Rattle.worker_log.specs.Logs.{passed_by, passed_end}
use Rattle.disk_runs.specs.MasterLaws.{IsCut}
use Rattle.disk_runs.specs.Masters.{IsNextOf, slot_of}
use Rattle.disk_runs.specs.Stands.{Known, Stands}

-- how many blocks the head of log w passes
abbrev pub passed_of : Known → (x w : ℕ) → ℕ
passed_of k x w = passed_by x (k.log w).ends

-- the greatest number in these
abbrev pub heads_of : Known → (x w : ℕ) → ℕ
heads_of k x w = passed_end x (k.log w).ends

-- The need of a cut at x is met, whatever the heads, and what is firm of each page has the changes up to x.
pub record MayCut (g : Opening) (es : List Event) (k : Known) (x : ℕ) : Type 0 where
  pub met : (heads : ℕ → ℕ) → may g (state_after g es) (Event.Cut x heads) ≡ true
  pub firm : (p : ℕ) → p < k.master.pages → HasUpTo g es p x (image_page (k.firm p).page)

-- The next master of the run, with the heads of the cut and what is flushed everywhere as its floor.
pub record IsNextCut (g : Opening) (es : List Event) (k : Known) (m : Master) (x : ℕ) : Type 0 where
  pub next : IsNextOf k.master m
  pub valid : IsMaster (slot_of m) m
  pub floor : m.floor ≡ flushed_by_all g (state_after g es)
  pub heads : (w : ℕ) → 0 < w → w ≤ g.workers → head_of m w ≡ (k.log w).head + passed_of k x w

-- Such a master is that of a cut.
abbrev pub EveryRing : Story → Type 0
EveryRing s = (s0 : Crash) (g : Opening) (es : List Event) (k : Known) (m : Master) (x : ℕ) → Stands g es s0 k s → MayCut g es k x → IsNextCut g es k m x → IsCut g es k m x (heads_of k x) (passed_of k x)

-- No head moves.
abbrev pub PassesNone : Opening → Known → (x : ℕ) → Type 0
PassesNone g k x = (w : ℕ) → 0 < w → w ≤ g.workers → passed_of k x w ≡ 0

-- Then no master is written, and the disk stands after the event of the cut as it is.
abbrev pub EveryStillCut : Story → Type 0
EveryStillCut s = (s0 : Crash) (g : Opening) (es : List Event) (k : Known) (x : ℕ) → Stands g es s0 k s → MayCut g es k x → PassesNone g k x → Stands g (then es (Event.Cut x (heads_of k x))) s0 k s
