-- What the next run may rest on, where a crash cut off a run on a disk in memory.
use Rattle.std.specs.Prelude.{◌≡◌, ◌⊎◌, ◌≤◌, ◌<◌, ◌+◌, ◌^◌, ℕ, suc, List, length, IsTrue}
use Rattle.lean_disk.specs.MemDisk.{disk_story}
use Rattle.lean_disk.specs.Story.{Crash, Story, areas_of}
use Rattle.lean_disk.specs.Told.{Begins, BeginsAfter}
use Rattle.lean_disk.specs.declared.mem_disk.MemDisk.{MemDisk}
use Rattle.lean_shell.specs.core_state.Events.{Event}
use Rattle.lean_shell.specs.lean_edge.Outside.{Feed, Held}
use Rattle.lean_shell.specs.disk_slots.declared.master.Master.{Master}
use Rattle.lean_shell.specs.disk_image.Fair.{IsFairCrash}
use Rattle.lean_shell.specs.disk_image.Shown.{Areas, IsCleanDisk}
use Rattle.lean_shell.specs.paged_engine.declared.opening.Size.{Size}
use Rattle.lean_shell.specs.recovery.Masters.{IsOpenable}
use Rattle.lean_shell.specs.Crashes.{IsYoung, TellsCrashes}
use Rattle.lean_shell.specs.Ends.{RunEnds}
use Rattle.lean_shell.specs.Headline.{Headline, Survives}
use Rattle.lean_shell.specs.Starts.{IsOfOpening}

-- A run on a clean disk on which no call was made yet, and the disk that a crash at some moment of it left, an image that is fair.
pub record IsCutOff (m : Master) (first last left : MemDisk) : Type 0 where
  pub areas : ℕ
  pub bytes : Areas
  pub begins : Begins areas bytes (disk_story first)
  pub clean : IsCleanDisk m (areas_of (disk_story first))
  pub sequence : m.sequence + 2 ^ 60 < 2 ^ 62
  pub generation : m.generation + 1 < 2 ^ 62
  -- the run
  pub size : Size
  pub status : ℕ
  pub events : List Event
  pub feed : Feed
  pub feed_after : Feed
  pub held : Held
  pub held_after : Held
  pub sink : ℕ
  pub sink_after : ℕ
  pub ends : RunEnds size status events (disk_story first) (disk_story last) feed feed_after held held_after sink sink_after
  pub script : IsTrue feed.tells
  pub headline : Headline (disk_story first) (disk_story last) feed.left ends.put
  -- the crash
  pub moment : ℕ
  pub by_now : moment ≤ (disk_story last).moment
  pub after : BeginsAfter moment (disk_story last) (disk_story left)
  pub fair : (c : Crash) → (disk_story last).left_at moment c → c.image ≡ areas_of (disk_story left) → IsFairCrash (length m.heads) (disk_story first) c

-- The disk stands for what it stood for, or for what the headline says of a crash.
abbrev pub IsOfMap : (m : Master) (first : Story) (input output : List ℕ) (area : Areas) → Type 0
IsOfMap m first input output area = (area ≡ areas_of first) ⊎ ((c : Crash) × (c.image ≡ area) × Survives m first input output c)

-- What a run of any size asks of its disk holds, by the same master or one that the run before wrote.
pub record IsReadyAgain (m : Master) (first left : Story) (input output : List ℕ) : Type 0 where
  pub n : Master
  pub is : (n ≡ m) ⊎ IsOfOpening m (areas_of first) n
  pub tells : (most : ℕ) → TellsCrashes most left
  pub clean : IsCleanDisk n (areas_of left)
  pub young : IsYoung n left
  -- and so the run behind it finds numbers, while there are so many left
  pub raised : n.sequence < m.sequence + 2 ^ 60
  pub next_generation : n.generation ≤ suc m.generation
  -- and it is opened, if the disk before could be and its sequence number was so small
  pub openable : (most : ℕ) → IsOpenable most m → m.sequence < 2 ^ 60 → IsOpenable most n
  pub map : IsOfMap m first input output (areas_of left)

-- After a crash of a run the next run's premises hold.
abbrev pub EveryNextRun : Type 0
EveryNextRun = (m : Master) (first last left : MemDisk) (x : IsCutOff m first last left) → IsReadyAgain m (disk_story first) (disk_story left) x.feed.left x.ends.put
