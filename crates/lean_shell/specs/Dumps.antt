-- How a dump ended: the line of the opening and the pairs that it put, and the disk that it leaves.
use Rattle.std.specs.Prelude.{◌≡◌, ◌⊎◌, ◌++◌, ◌<◌, ◌+◌, ℕ, suc, List, [], ◌∷◌, length, take, IsTrue, Some}
use Rattle.map_model.specs.Maps.{key_end}
use Rattle.page_model.specs.Pairs.{Pair, Rising}
use Rattle.buffered_engine.specs.image_model.Images.{won_by, lost_by, map_of}
use Rattle.pair_walk.specs.Listings.{ArePairsOf}
use Rattle.lean_disk.specs.Faults.{Rose}
use Rattle.lean_disk.specs.Moments.{LeavesOnly}
use Rattle.lean_disk.specs.Story.{Crash, Story, areas_of}
use Rattle.lean_disk.specs.Told.{TellsOn}
use Rattle.buffered_engine.specs.lean_edge.Outside.{Held}
use Rattle.script_lang.specs.Notices.{Notice}
use Rattle.buffered_engine.specs.disk_slots.declared.master.Master.{Master}
use Rattle.buffered_engine.specs.disk_image.MasterSlots.{master_on}
use Rattle.buffered_engine.specs.disk_image.Shown.{image_by, IsCleanDisk, IsSoundDisk}
use Rattle.buffered_engine.specs.recovery.Crashes.{RecoveryLeaves}
use Rattle.buffered_engine.specs.recovery.Installed.{HasInstalled}
use Rattle.buffered_engine.specs.recovery.Masters.{IsOpenable}
use Rattle.buffered_engine.specs.recovery.Opened.{IsOpened, IsRecovered, IsUntouched}
use Rattle.buffered_engine.specs.recovery.Telling.{TellsAll}
use Rattle.buffered_engine.specs.recovery.declared.opening.Recovered.{Recovered}
use Rattle.lean_shell.specs.Lines.{line_of}
use Rattle.lean_shell.specs.Runs.{Counts, NotOpened, first_line}

-- ## What is put

-- a line for each pair
abbrev pub pair_lines : List Pair → List ℕ
pair_lines [] = []
pair_lines (x ∷ xs) = line_of (Notice.Pair x.key x.word) ++ pair_lines xs

-- and `end` behind them
abbrev pub map_text : List Pair → List ℕ
map_text pairs = pair_lines pairs ++ line_of Notice.End

-- and before them the line that a run begins with
abbrev pub dump_text : Counts → List Pair → List ℕ
dump_text counts pairs = first_line counts ++ map_text pairs

-- By the master by which the disk is opened: the counts are the next generation and those of the disk's image, and these are all pairs of the map for which it
-- stands.
pub record AreOfDisk (s : Story) (counts : Counts) (pairs : List Pair) : Type 0 where
  pub m : Master
  pub openable : IsOpenable 16 m
  pub sound : IsSoundDisk m (areas_of s)
  pub generation : counts.generation ≡ suc m.generation
  pub won : counts.winners ≡ length (won_by (image_by m (areas_of s)))
  pub lost : counts.undone ≡ length (lost_by (image_by m (areas_of s)))
  pub are : ArePairsOf (map_of (image_by m (areas_of s))) pairs

-- the whole text was put, and the status is 0; or a prefix of it, since the sink failed, and the status is 5
abbrev pub PutOrCut : (status : ℕ) (text put : List ℕ) (sink0 sink1 : ℕ) → Type 0
PutOrCut status text put sink0 sink1 = ((status ≡ 0) × (put ≡ text) × (sink1 ≡ sink0)) ⊎ ((status ≡ 5) × ((prefix : ℕ) × (put ≡ take prefix text)) × Rose sink0 sink1)

-- ## The disk

-- It is as its opening leaves it, which saved pages that have changed and the next master, and touched no area behind the logs.
pub record IsAsOpened (s0 s1 : Story) : Type 0 where
  pub recovered : Recovered
  pub is : TellsAll 16 s0 → (m : Master) × IsOpenable 16 m × IsRecovered m (areas_of s0) recovered
  pub installed : TellsAll 16 s0 → (m : Master) → master_on (areas_of s0 0) ≡ Some m → HasInstalled m recovered s0 s1
  pub opened : TellsAll 16 s0 → (m : Master) → IsCleanDisk m (areas_of s0) → IsOpened m (areas_of s0) recovered s1
  pub beyond : (a : ℕ) → 1 + length recovered.master.heads < a → s1.area a ≡ s0.area a

-- a crash leaves what one in an opening may leave, however many lines were out
abbrev pub DumpLeaves : Master → Story → Crash → Type 0
DumpLeaves m s c = RecoveryLeaves m s (record c { notes = s.notes })

-- ## All of it

-- A generation and counts were put, then pairs with keys that rise strictly, and `end`; where the disk told of all, the generation and counts are those of its
-- opening, and the pairs are those of the map for which it stood on entry.
pub record Dumped (status : ℕ) (s0 s1 : Story) (put : List ℕ) (sink0 sink1 : ℕ) : Type 0 where
  pub counts : Counts
  pub pairs : List Pair
  pub rising : Rising 0 pairs key_end
  pub of_disk : TellsAll 16 s0 → AreOfDisk s0 counts pairs
  pub printed : PutOrCut status (dump_text counts pairs) put sink0 sink1
  pub left : IsAsOpened s0 s1

-- How a dump ended, on a disk that told s0 and tells s1, with a sink that held held0 and holds held1; and how often the sink had failed before and has now.
pub record DumpEnds (status : ℕ) (s0 s1 : Story) (held0 held1 : Held) (sink0 sink1 : ℕ) : Type 0 where
  pub put : List ℕ
  pub holds : IsTrue held0.tells → held1.bytes ≡ held0.bytes ++ put
  pub how : NotOpened 16 status s0 s1 put sink0 sink1 ⊎ Dumped status s0 s1 put sink0 sink1
  -- nothing is written to a log, no other area is touched, and the disk tells on
  pub logs : (a : ℕ) → 1 < a → IsUntouched (s0.area a) (s1.area a)
  pub others : (a : ℕ) → 17 < a → s1.area a ≡ s0.area a
  pub tells_on : TellsOn s0 s1
  -- wherever a crash falls, a clean disk stands for the same map
  pub any_moment : TellsAll 16 s0 → (m : Master) → IsCleanDisk m (areas_of s0) → LeavesOnly s0 s1 (DumpLeaves m s0)
