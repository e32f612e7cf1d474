-- What the opening of a disk gives to a machine whose pages need not all be in memory.
use Rattle.std.specs.Prelude.{◌≡◌, ◌≤◌, ◌<◌, ◌%◌, ◌+◌, ℕ, suc, true, false, List, [], length, slice_get, Some}
use Rattle.page_model.specs.Limits.{most_sessions}
use Rattle.paged_desks.specs.image_model.Images.{lost_by, map_of, won_by}
use Rattle.paged_desks.specs.call_parts.Memory.{IsOf, Memory}
use Rattle.paged_desks.specs.core_state.Openings.{Opening, first_map}
use Rattle.paged_desks.specs.core_state.States.{start}
use Rattle.paged_desks.specs.disk_image.Breaks.{IsDamaged}
use Rattle.paged_desks.specs.disk_image.Shown.{IsCleanDisk, IsSoundDisk, image_by}
use Rattle.paged_desks.specs.disk_runs.Fair.{IsAsRead}
use Rattle.paged_desks.specs.disk_runs.Stands.{Known, Stands}
use Rattle.paged_desks.specs.disk_slots.declared.master.Master.{Master}
use Rattle.lean_disk.specs.Area.{Area}
use Rattle.lean_disk.specs.Moments.{LeavesOnly}
use Rattle.lean_disk.specs.Story.{Crash, Story, areas_of}
use Rattle.paged_desks.specs.Machines.{memory, view_of}
use Rattle.paged_desks.specs.declared.machine.PagedMachine.{PagedMachine}
use Rattle.paged_opening.specs.Opened.{HasRecovered}
use Rattle.recovery.specs.Crashes.{IsNextOf, RecoveryLeaves}
use Rattle.recovery.specs.Masters.{HasOpenable, IsOpenable}
use Rattle.recovery.specs.Opened.{Keeps}
use Rattle.recovery.specs.Starts.{IsStartOf}
use Rattle.recovery.specs.Telling.{TellsAll}
use Rattle.recovery.specs.declared.opening.Recovered.{Recovered}
use Rattle.recovery.specs.declared.opening.Unrecovered.{Unrecovered}
use Rattle.recovery.specs.declared.opening.Unrecovered.TheVariants as why
use Rattle.run_opening.specs.Starts.{empty_log}
use Rattle.paged_desks.specs.session_desks.Desks.{desk_of}
use Rattle.paged_desks.specs.session_desks.Machines.{IsLogged}
use Rattle.paged_desks.specs.session_desks.Parts.{here}
use Rattle.paged_desks.specs.session_desks.declared.desk.Desk.{Desk}
use Rattle.paged_desks.specs.session_state.Opened.{IsFirst}
use Rattle.paged_desks.specs.session_state.Ties.{Behind, Ties}
use Rattle.paged_desks.specs.session_state.declared.session.Session.{Session}
use Rattle.paged_desks.specs.worker_log.Kept.{IsFresh, IsInRange, IsKept, fresh_account}
use Rattle.paged_desks.specs.worker_log.Logs.{Log}
use Rattle.paged_engine.specs.declared.opening.Size.{Size}

-- ## Sessions and logs

-- log w is made for this master
pub record IsMadeBy (n : Master) (w : ℕ) (log : Log) : Type 0 where
  pub is : log ≡ empty_log n w
  pub ranges : IsInRange log
  pub starts : (area : Area) → IsFresh log area → IsKept (fresh_account area) log area

-- A desk for each session but the first: it is as that one, with the empty log of its number.
pub record IsFurther (master : Master) (first : Session) (session : ℕ) (desk : Desk) : Type 0 where
  pub few : session ≤ most_sessions
  pub session_is : desk.session ≡ record first { own = session; free = []; few = few }
  pub made : IsMadeBy master session desk.log

pub record AreFurther (master : Master) (first : Session) (desks : List Desk) : Type 0 where
  pub count : suc (length desks) ≡ first.workers
  pub each : (at : ℕ) (desk : Desk) → slice_get desks at ≡ Some desk → IsFurther master first (at + 2) desk

-- ## Where a run begins

-- The opening is the start that the disk gives, faithful, with the map for which it stands; and the counts are those of its image.
pub record IsFrom (most : ℕ) (g : Opening) (s : Story) (generation won lost : ℕ) : Type 0 where
  pub faithful : g.faithful ≡ true
  pub m : Master
  pub openable : IsOpenable most m
  pub sound : IsSoundDisk m (areas_of s)
  pub starts : IsStartOf m (areas_of s) g
  pub map : (k : ℕ) → first_map g k ≡ map_of (image_by m (areas_of s)) k
  pub generation_is : generation ≡ suc m.generation
  pub won_is : won ≡ length (won_by (image_by m (areas_of s)))
  pub lost_is : lost ≡ length (lost_by (image_by m (areas_of s)))

-- The run stands there before its first event, of which this is in memory. As the disk was opened it was s0.
pub record Begins (g : Opening) (memory : Memory) (s0 : Crash) (s : Story) : Type 0 where
  pub known : Known
  pub is : IsOf g memory known
  pub stands : Stands g [] s0 known s

-- so it is of a clean disk, by the next master
pub record BeginsOn (g : Opening) (memory : Memory) (s0 s1 : Story) (m : Master) : Type 0 where
  pub next : IsNextOf m (areas_of s0) memory.master
  pub start : IsStartOf m (areas_of s0) g
  pub map : (k : ℕ) → first_map g k ≡ map_of (image_by m (areas_of s0)) k
  pub begins : (c : Crash) → IsAsRead s0 c → Begins g memory c s1

-- both, where the disk tells of all
pub record OpeningLaws (most : ℕ) (g : Opening) (r : Recovered) (memory : Memory) (s0 s1 : Story) : Type 0 where
  pub from : TellsAll most s0 → IsFrom most g s0 r.master.generation r.winners r.undone
  pub clean : TellsAll most s0 → (m : Master) → IsCleanDisk m (areas_of s0) → BeginsOn g memory s0 s1 m

-- ## A machine

-- The machine stands in a run that has no outcome yet, and its seat has seen nothing, no load either: none of its sessions has done anything, and each log has what was logged.
pub record IsAtStart {D : Type 0} (g : Opening) (m : PagedMachine D) : Type 0 where
  pub workers : g.workers ≡ m.machine.work.session.workers
  pub behind : Behind g [] [] (view_of m)
  pub ties : (w : ℕ) → Ties g m.machine.work.session.group [] w false (view_of m)
  pub logged : (w : ℕ) → 0 < w → w ≤ g.workers → IsLogged (start g) w ((memory m).log w)
  pub sessions : (w : ℕ) → 0 < w → w ≤ g.workers → IsFirst g.base (desk_of (here m.machine) m.machine.desks.items w).session

-- A machine so large stands on a disk that told s0, at the start of a run, which is so.
pub record HasOpened {D : Type 0} (story : D → Story) (size : Size) (s0 : Story) (m : PagedMachine D) (won lost : ℕ) : Type 0 where
  pub group : m.machine.work.session.group ≡ size.group
  pub turn : m.machine.work.session.own ≡ 1
  pub opening : Opening
  pub at_start : IsAtStart opening m
  -- the row of a key, and how many frames there are
  pub rows : (k : ℕ) → opening.row_of k ≡ k % size.rows
  pub frames : opening.frames ≡ size.frames
  -- it is faithful where the disk tells of its pages
  pub faithful : opening.faithful ≡ s0.tells 1
  -- what recovery gave
  pub recovered : Recovered
  pub is : HasRecovered size.sessions s0 (story m.machine.work.disk) recovered
  -- a session for each log, which is empty
  pub sessions : m.machine.work.session.workers ≡ length recovered.master.heads
  pub master : (memory m).master ≡ recovered.master
  pub made : (w : ℕ) → 0 < w → w ≤ m.machine.work.session.workers → IsMadeBy recovered.master w ((memory m).log w)
  pub won_is : won ≡ recovered.winners
  pub lost_is : lost ≡ recovered.undone
  pub from : TellsAll size.sessions s0 → IsFrom size.sessions opening s0 m.machine.master.generation won lost
  pub clean : TellsAll size.sessions s0 → (n : Master) → IsCleanDisk n (areas_of s0) → BeginsOn opening (memory m) s0 (story m.machine.work.disk) n

-- what the disk shows of the reason for which it was not opened
abbrev pub Shows : (most : ℕ) → Story → Unrecovered → Type 0
Shows most s why.NotFormatted = TellsAll most s → HasOpenable most (areas_of s) → ⊥
Shows most s (why.Damaged area place) = TellsAll most s → HasOpenable most (areas_of s) × IsDamaged (areas_of s) area place
Shows most s why.DiskFault = Unit {0}
Shows most s why.Memory = Unit {0}

-- Whether it was opened or not: of the disk at most the master and the pages have changed, nothing was noted, and a crash leaves of a clean one a disk
-- that stands for the same map.
pub record OpenKeeps (most : ℕ) (s0 s1 : Story) : Type 0 where
  pub others : (a : ℕ) → 1 + most < a → s1.area a ≡ s0.area a
  pub keeps : Keeps s0 s1
  pub any_moment : (m : Master) → TellsAll most s0 → IsCleanDisk m (areas_of s0) → LeavesOnly s0 s1 (RecoveryLeaves m s0)
