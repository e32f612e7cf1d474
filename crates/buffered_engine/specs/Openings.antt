-- What the opening of a disk gives to an engine's run.
use Rattle.std.specs.Prelude.{◌≡◌, ◌≤◌, ◌<◌, ◌%◌, ℕ, true, [], length}
use Rattle.paged_scans.specs.core_state.Openings.{Opening}
use Rattle.paged_scans.specs.disk_image.Shown.{IsCleanDisk}
use Rattle.paged_scans.specs.disk_slots.declared.master.Master.{Master}
use Rattle.lean_disk.specs.Story.{Story, areas_of}
use Rattle.recovery.specs.Telling.{TellsAll}
use Rattle.recovery.specs.declared.opening.Recovered.{Recovered}
use Rattle.engine_front.specs.declared.calls.Next.TheVariants.{Line}
use Rattle.paged_engine.specs.paged_opening.Opened.{HasRecovered}
use Rattle.paged_engine.specs.Openings.{BeginsOn, IsFrom, IsMadeBy}
use Rattle.paged_engine.specs.declared.opening.Size.{Size}
use Rattle.buffered_engine.specs.States.{InRun, State, memory_in}

-- An engine so large stands on a disk that told s0 and tells s1, at the start of a run of no outcome, which is so.
pub record HasOpened {D : Type 0} (size : Size) (s0 s1 : Story) (e : State D) (generation won lost : ℕ) : Type 0 where
  pub works : e.works ≡ true
  pub next : e.next ≡ Line
  pub group : e.group ≡ size.group
  pub opening : Opening
  pub in_run : InRun e opening [] []
  -- the row of a key, and how many frames there are
  pub rows : (k : ℕ) → opening.row_of k ≡ k % size.rows
  pub frames : opening.frames ≡ size.frames
  -- it is faithful where the disk tells of its pages
  pub faithful : opening.faithful ≡ s0.tells 1
  -- what recovery gave
  pub recovered : Recovered
  pub is : HasRecovered size.sessions s0 s1 recovered
  -- a session for each log, which is empty
  pub sessions : e.sessions ≡ length recovered.master.heads
  pub master : e.master ≡ recovered.master
  pub made : (w : ℕ) → 0 < w → w ≤ e.sessions → IsMadeBy recovered.master w ((memory_in e).log w)
  pub generation_is : generation ≡ recovered.master.generation
  pub won_is : won ≡ recovered.winners
  pub lost_is : lost ≡ recovered.undone
  pub from : TellsAll size.sessions s0 → IsFrom size.sessions opening s0 generation won lost
  pub clean : TellsAll size.sessions s0 → (m : Master) → IsCleanDisk m (areas_of s0) → BeginsOn opening (memory_in e) s0 s1 m
