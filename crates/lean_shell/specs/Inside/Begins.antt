-- Words of private functions: a run of the core begins on a disk that was opened.
use Rattle.std.specs.Prelude.{◌≡◌, ◌<◌, ◌≤◌, ◌+◌, ℕ, suc, [], Some}
use Rattle.lean_disk.specs.Story.{Crash, Story, areas_of}
use Rattle.buffered_engine.specs.disk_slots.declared.master.Master.{Master}
use Rattle.buffered_engine.specs.disk_image.Masters.{IsOfRun}
use Rattle.buffered_engine.specs.disk_image.MasterSlots.{master_on}
use Rattle.buffered_engine.specs.disk_image.Shown.{image_by, IsCleanDisk}
use Rattle.buffered_engine.specs.image_model.Images.{map_of}
use Rattle.buffered_engine.specs.recovery.Crashes.{IsNextOf}
use Rattle.buffered_engine.specs.recovery.Masters.{next_master}
use Rattle.buffered_engine.specs.recovery.Starts.{IsStartOf}
use Rattle.buffered_engine.specs.recovery.Telling.{TellsAll}
use Rattle.buffered_engine.specs.core_state.Openings.{Opening, first_map}
use Rattle.buffered_engine.specs.disk_runs.Stands.{Known, Stands}
use Rattle.buffered_engine.specs.call_parts.Memory.{IsOf, Memory}
use Rattle.buffered_engine.specs.paged_engine.declared.opening.Size.{Size}
use Rattle.lean_shell.specs.Runs.{Counts, IsFrom, first_log}
use Rattle.lean_shell.specs.Starts.{IsOfSize}

-- the disk on entry as a read gives it, with the first line out
abbrev pub began : Story → Crash
began s = record { notes = s.notes + 1; writes = λ a. (s.area a).writes; image = areas_of s }

-- A clean disk that told s0 was opened and tells sa: a run stands there before its first event, with this in memory. The opening is the start that the disk gave,
-- with the map for which it stood.
pub record Begins (m : Master) (s0 sa : Story) (g : Opening) (first : Memory) : Type 0 where
  pub next : IsNextOf m (areas_of s0) first.master
  pub of_run : IsOfRun m first.master
  pub starts : IsStartOf m (areas_of s0) g
  pub map : (k : ℕ) → first_map g k ≡ map_of (image_by m (areas_of s0)) k
  pub known : Known
  pub memory_is : IsOf g first known
  pub stands : Stands g [] (began s0) known sa

-- A disk was opened: an engine so large stands on the start that it gave, with an empty log for each session.
pub record HasStarted (size : Size) (s0 sa : Story) (g : Opening) (first : Memory) (n : Counts) : Type 0 where
  pub of_size : IsOfSize size g
  pub from : TellsAll size.sessions s0 → IsFrom size.sessions g s0 n
  pub log : TellsAll size.sessions s0 → (m : Master) → master_on (areas_of s0 0) ≡ Some m → (w : ℕ) → 0 < w → w ≤ g.workers → first.log w ≡ first_log m g.base w
  pub master : TellsAll size.sessions s0 → (m : Master) → master_on (areas_of s0 0) ≡ Some m → first.master ≡ next_master m g.base
  pub untouched : (a : ℕ) → suc g.workers < a → sa.area a ≡ s0.area a
  pub begins : (m : Master) → TellsAll size.sessions s0 → IsCleanDisk m (areas_of s0) → Begins m s0 sa g first
