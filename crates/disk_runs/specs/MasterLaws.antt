-- How a run goes on over a disk by the next master: one of a sync, or of a cut. Of each law s0 is the disk as a read gave it when the run began, old
-- and new what it tells before the calls and after them.
use Rattle.std.specs.Prelude.{◌≡◌, ◌⊎◌, ◌<◌, ◌≤◌, ◌+◌, ◌*◌, ◌^◌, ℕ, suc, true, List, [], length, take}
use Rattle.map_model.specs.Lists.{Has}
use Rattle.core_disk.specs.core_state.Openings.{Opening}
use Rattle.core_disk.specs.core_state.Events.{Event}
use Rattle.core_disk.specs.core_state.Needs.{may}
use Rattle.core_disk.specs.core_state.States.{flushed_by_all}
use Rattle.lean_disk.specs.Calls.{Synced, Wrote}
use Rattle.lean_disk.specs.Area.{synced, written}
use Rattle.lean_disk.specs.Moments.{CrashIn, Framed, LeavesOnly}
use Rattle.lean_disk.specs.Story.{Crash, IsLawful, Story, Tells}
use Rattle.lean_disk.specs.declared.disk.Did.{Did}
use Rattle.lean_disk.specs.declared.disk.Did.TheVariants as did
use Rattle.master_store.specs.disk_slots.Masters.{IsMaster, master_slot}
use Rattle.master_store.specs.disk_slots.declared.master.Master.{Master}
use Rattle.master_store.specs.Masters.{WritesOnce}
use Rattle.master_store.specs.page_store.Bases.{image_page}
use Rattle.master_store.specs.log_record.declared.record.Record.{Record}
use Rattle.master_store.specs.disk_image.Shown.{head_of}
use Rattle.worker_log.specs.Accounts.{Account, joined, records_of}
use Rattle.worker_log.specs.Logs.{Log}
use Rattle.worker_log.specs.Kept.{cut}
use Rattle.worker_log.specs.Calls.{cut_log}
use Rattle.core_disk.specs.core_state.Steps.{state_after}
use Rattle.core_disk.specs.Held.{HoldsRun, IsMasterOf}
use Rattle.core_disk.specs.Versions.{HasUpTo, then}
use Rattle.disk_runs.specs.Fair.{IsFairFrom}
use Rattle.disk_runs.specs.Logs.{LogStands}
use Rattle.disk_runs.specs.Masters.{IsNextOf, slot_of}
use Rattle.disk_runs.specs.Pages.{PagesStand, last_saved}
use Rattle.disk_runs.specs.Stands.{Known, Stands}

-- A crash while the next master is written: the disk holds what a crash before the event leaves, by the master that counted, or what
-- one after it leaves, by the next one.
abbrev pub LeavesEither : Opening → List Event → Event → Crash → Master → Master → Crash → Type 0
LeavesEither g es e s0 n m c = IsFairFrom g.workers s0 c → HoldsRun g es n c.image ⊎ HoldsRun g (then es e) m c.image

-- What stands over the same areas once the event has happened and the next master counts: all but the master.
pub record StandsNext (g : Opening) (es : List Event) (e : Event) (s0 : Crash) (x y : Known) (s : Story) : Type 0 where
  pub next : IsNextOf x.master y.master
  pub valid : IsMaster (slot_of y.master) y.master
  pub is : IsMasterOf g (state_after g (then es e)) y.master
  pub pages : PagesStand g (then es e) y.master.pages y.master.generation (s0.image 1) (s0.writes 1) y.firm y.late (s.area 1)
  pub saved : (p : ℕ) → p < y.master.pages → image_page (last_saved (y.firm p) (y.late p)) ≡ (state_after g (then es e)).saved p
  pub logs : (w : ℕ) → 0 < w → w ≤ g.workers → LogStands (state_after g (then es e)) y.master (s0.image (suc w)) (s0.writes (suc w)) w (y.account w) (y.log w) (s.area (suc w))

-- The next master is written and synced. At every moment a crash leaves the one or the other; and when both are done, the next one counts.
pub record Installs (g : Opening) (es : List Event) (e : Event) (s0 : Crash) (x y : Known) (written synced : Did) (old new : Story) : Type 0 where
  pub any_moment : LeavesOnly old new (LeavesEither g es e s0 x.master y.master)
  pub after : written ≡ did.Done → synced ≡ did.Done → Stands g (then es e) s0 y new

-- Written and synced by two calls of the device, the next master is installed.
abbrev pub EveryMaster : (old mid new : Story) → Type 0
EveryMaster old mid new = (s0 : Crash) (g : Opening) (es : List Event) (e : Event) (x y : Known) (r1 r2 : Did) → Stands g es s0 x old → IsLawful old → StandsNext g es e s0 x y old
    → Wrote 0 (1024 * slot_of y.master) (master_slot y.master) r1 old mid → Synced 0 r2 mid new → Installs g es e s0 x y r1 r2 old new

-- a write that failed is followed by no sync
abbrev pub EveryMasterWrite : (old new : Story) → Type 0
EveryMasterWrite old new = (s0 : Crash) (g : Opening) (es : List Event) (e : Event) (x y : Known) (r : Did) → Stands g es s0 x old → IsLawful old → StandsNext g es e s0 x y old
    → Wrote 0 (1024 * slot_of y.master) (master_slot y.master) r old new → LeavesOnly old new (LeavesEither g es e s0 x.master y.master)

-- What master_store's `write_next` tells of the master m.
pub record WritesNext (m : Master) (result : Did) (old new : Story) : Type 0 where
  pub done : result ≡ did.Done → Tells old 0 → new.area 0 ≡ synced (written (1024 * slot_of m) (master_slot m) (old.area 0))
  pub frame : Framed 0 old new
  pub any_moment : LeavesOnly old new (CrashIn old 0 (WritesOnce (1024 * slot_of m) (master_slot m) (old.area 0)))

-- one call that writes the next master and syncs it
pub record InstallsNext (g : Opening) (es : List Event) (e : Event) (s0 : Crash) (x y : Known) (result : Did) (old new : Story) : Type 0 where
  pub any_moment : LeavesOnly old new (LeavesEither g es e s0 x.master y.master)
  pub after : result ≡ did.Done → Stands g (then es e) s0 y new

-- So it is by one call of master_store, of which its own clauses are all that is asked.
abbrev pub EveryNextMaster : (old new : Story) → Type 0
EveryNextMaster old new = (s0 : Crash) (g : Opening) (es : List Event) (e : Event) (x y : Known) (r : Did) → Stands g es s0 x old → StandsNext g es e s0 x y old
    → WritesNext y.master r old new → InstallsNext g es e s0 x y r old new

-- ## A sync

-- all blocks of the log are synced, and the one in hand holds no record
pub record IsAllSynced (x : Account) : Type 0 where
  pub synced : x.synced ≡ length x.written
  pub current : x.current ≡ []

-- the log's clock and what it has flushed are raised to the number of a sync
abbrev pub raised : Log → ℕ → Log
raised log n = record log { last = n; flushed = n }

-- the same, with the next master and with each log raised to the number of the sync
abbrev pub with_sync : Known → Master → ℕ → Known
with_sync x m n = record x { master = m; log = λ w. raised (x.log w) n }

-- Each log is flushed; the number is the greatest clock; the next master has it as its floor, and the same heads.
pub record IsSync (g : Opening) (es : List Event) (x : Known) (m : Master) (n : ℕ) : Type 0 where
  pub met : may g (state_after g es) (Event.Sync n) ≡ true
  pub flushed : (w : ℕ) → 0 < w → w ≤ g.workers → IsAllSynced (x.account w)
  pub within : (w : ℕ) → 0 < w → w ≤ g.workers → (x.log w).last ≤ n
  pub next : IsNextOf x.master m
  pub valid : IsMaster (slot_of m) m
  pub floor : m.floor ≡ n
  pub heads : m.heads ≡ x.master.heads

-- All but the master stands after the event of the sync.
abbrev pub EverySync : (s : Story) → Type 0
EverySync s = (s0 : Crash) (g : Opening) (es : List Event) (x : Known) (m : Master) (n : ℕ) → Stands g es s0 x s → IsSync g es x m n → StandsNext g es (Event.Sync n) s0 x (with_sync x m n) s

-- Each log is flushed, and that was up to the number already: it is nowhere further than the logs reach.
pub record IsStillSync (g : Opening) (es : List Event) (x : Known) (n : ℕ) : Type 0 where
  pub met : may g (state_after g es) (Event.Sync n) ≡ true
  pub flushed : (w : ℕ) → 0 < w → w ≤ g.workers → IsAllSynced (x.account w)
  pub within : (w : ℕ) → 0 < w → w ≤ g.workers → (x.log w).last ≤ n
  pub reached : n ≤ flushed_by_all g (state_after g es)

-- Then no master is written, and the disk stands after the event of the sync as it is.
abbrev pub EveryStillSync : (s : Story) → Type 0
EveryStillSync s = (s0 : Crash) (g : Opening) (es : List Event) (x : Known) (n : ℕ) → Stands g es s0 x s → IsStillSync g es x n → Stands g (then es (Event.Sync n)) s0 (with_sync x x.master n) s

-- ## A cut

-- what the log's account and the log are once its head has passed so many blocks
abbrev pub with_cut : Known → Master → (ℕ → ℕ) → Known
with_cut x m passed = record x { master = m; log = λ w. cut_log (passed w) (x.log w); account = λ w. cut (passed w) (x.account w) }

-- The head of log w passes blocks that are synced; the records of these are up to the state's new head, and the others are beyond it.
pub record IsCutLog (g : Opening) (es : List Event) (e : Event) (x : Known) (m : Master) (passed w : ℕ) : Type 0 where
  pub synced : passed ≤ (x.account w).synced
  pub head : head_of m w ≡ head_of x.master w + passed
  pub short : head_of m w < 2 ^ 63
  pub before : (r : Record) → Has r (joined (take passed (x.account w).written)) → r.gsn ≤ (state_after g (then es e)).head w
  pub behind : (r : Record) → Has r (records_of (cut passed (x.account w))) → (state_after g (then es e)).head w < r.gsn

-- The need of a cut is met; each page has its changes up to the cut's number where it is firm; and the next master has the new heads and floor.
pub record IsCut (g : Opening) (es : List Event) (x : Known) (m : Master) (number : ℕ) (heads : ℕ → ℕ) (passed : ℕ → ℕ) : Type 0 where
  pub met : may g (state_after g es) (Event.Cut number heads) ≡ true
  pub firm : (p : ℕ) → p < x.master.pages → HasUpTo g es p number (image_page (x.firm p).page)
  pub next : IsNextOf x.master m
  pub valid : IsMaster (slot_of m) m
  pub floor : m.floor ≡ (state_after g (then es (Event.Cut number heads))).floor
  pub log : (w : ℕ) → 0 < w → w ≤ g.workers → IsCutLog g es (Event.Cut number heads) x m (passed w) w

-- All but the master stands after the event of the cut.
abbrev pub EveryCut : (s : Story) → Type 0
EveryCut s = (s0 : Crash) (g : Opening) (es : List Event) (x : Known) (m : Master) (number : ℕ) (heads passed : ℕ → ℕ) → Stands g es s0 x s → IsCut g es x m number heads passed
    → StandsNext g es (Event.Cut number heads) s0 x (with_cut x m passed) s
