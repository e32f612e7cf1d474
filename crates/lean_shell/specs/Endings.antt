-- How a command ends, and what went out.
use Rattle.std.specs.Prelude.{◌≡◌, ◌⊎◌, ◌++◌, ◌<◌, ℕ, List, [], ◌∷◌}
use Rattle.script_lang.specs.Notices.{notice_text}
use Rattle.script_lang.specs.Notices.Notice.{Formatted, NoMemory, Usage as UsageNotice, DiskFault as DiskNotice, AlreadyFormatted as AlreadyNotice}
use Rattle.lean_disk.specs.Area.{Leaves}
use Rattle.lean_disk.specs.Faults.{HasCause, IsBlamed}
use Rattle.lean_disk.specs.Moments.{LeavesOnly}
use Rattle.lean_disk.specs.Story.{Crash, Story, Tells}
use Rattle.lean_disk.specs.Told.{TellsOn}
use Rattle.buffered_engine.specs.lean_edge.Outside.{Held, Puts}
use Rattle.buffered_engine.specs.lean_edge.declared.sink.Put.{Put}
use Rattle.buffered_engine.specs.lean_edge.declared.sink.Put.TheVariants as put
use Rattle.lean_shell.specs.declared.failure.Failure.{Failure}
use Rattle.lean_shell.specs.declared.failure.Failure.TheVariants.{Usage, DiskFault, Memory, AlreadyFormatted}
use Rattle.buffered_engine.specs.disk_format.Formatted.{FormatLeaves, HasMaster, IsNewDisk, IsUntouched}
use Rattle.buffered_engine.specs.disk_format.declared.shape.Shape.{Shape}

-- the status of each failure; 0 is none, and 5 is that of a sink that failed
abbrev pub number_of : Failure → ℕ
number_of Usage = 2
number_of DiskFault = 6
number_of Memory = 8
number_of AlreadyFormatted = 9

-- its line
abbrev pub last_line : Failure → List ℕ
last_line Usage = notice_text UsageNotice ++ 10 ∷ []
last_line DiskFault = notice_text DiskNotice ++ 10 ∷ []
last_line Memory = notice_text NoMemory ++ 10 ∷ []
last_line AlreadyFormatted = notice_text AlreadyNotice ++ 10 ∷ []

-- the line of a disk that was formatted
abbrev pub formatted_line : Shape → List ℕ
formatted_line shape = notice_text (Formatted shape.workers shape.pages shape.blocks) ++ 10 ∷ []

-- the statuses there are
abbrev pub IsStatus : ℕ → Type 0
IsStatus n = (n ≡ 0) ⊎ (n ≡ 2) ⊎ (n ≡ 3) ⊎ (n ≡ 4) ⊎ (n ≡ 5) ⊎ (n ≡ 6) ⊎ (n ≡ 7) ⊎ (n ≡ 8) ⊎ (n ≡ 9)

-- those that `format` ends with
abbrev pub IsFormatStatus : ℕ → Type 0
IsFormatStatus n = (n ≡ 0) ⊎ (n ≡ 5) ⊎ (n ≡ 6) ⊎ (n ≡ 8) ⊎ (n ≡ 9)

-- The line went out, or some prefix of it; then the sink's count rose.
pub record WentOut (line : List ℕ) (old new : Held) (before now : ℕ) : Type 0 where
  pub answer : Put
  pub puts : Puts line answer old new
  pub cause : HasCause before now (answer ≡ put.Failed)

-- The status of a new disk, by whether its line went out.
abbrev pub finished : Put → ℕ
finished put.Done = 0
finished put.Failed = 5

-- the line of a new disk was put, and the status tells how
pub record FinishedPut (shape : Shape) (status : ℕ) (old new : Held) (before now : ℕ) : Type 0 where
  pub answer : Put
  pub status_is : status ≡ finished answer
  pub puts : Puts (formatted_line shape) answer old new
  pub cause : HasCause before now (answer ≡ put.Failed)

-- How `format` of a shape ended, on a disk that told s0 and tells s1, with a sink that held held0 and holds held1; and how often
-- sink and disk had failed before and have now.
pub record FormatEnds (shape : Shape) (status : ℕ) (s0 s1 : Story) (held0 held1 : Held) (sink0 sink1 disk0 disk1 : ℕ) : Type 0 where
  pub known : IsFormatStatus status
  pub words : status ≡ 2 → ⊥
  pub cause_write_fault : IsBlamed sink0 sink1 (status ≡ 5)
  pub cause_disk_fault : HasCause disk0 disk1 (status ≡ 6)
  pub cause_already_formatted : status ≡ 9 → Tells s0 0 → HasMaster (s0.area 0).bytes
  pub no_master : (status ≡ 0) ⊎ (status ≡ 5) → Tells s0 0 → HasMaster (s0.area 0).bytes → ⊥
  pub printed : (status ≡ 0) ⊎ (status ≡ 5) → FinishedPut shape status held0 held1 sink0 sink1
  pub failed : (failure : Failure) → status ≡ number_of failure → WentOut (last_line failure) held0 held1 sink0 sink1
  pub after : (status ≡ 0) ⊎ (status ≡ 5) → IsNewDisk shape s0 s1
  pub same : (status ≡ 8) ⊎ (status ≡ 9) → IsUntouched s0 s1
  pub logs : (a : ℕ) → 1 < a → s1.area a ≡ s0.area a
  pub tells_on : TellsOn s0 s1
  pub any_moment : LeavesOnly s0 s1 (FormatLeaves shape s0)

-- a crash leaves what it might have left at s
abbrev pub Stays : Story → Crash → Type 0
Stays s c = (a : ℕ) → Tells s a → Leaves (s.area a) (c.image a)

-- How a command ended whose words ask for nothing: so it said, or that memory to read them was refused.
pub record UsageEnds (status : ℕ) (s0 s1 : Story) (held0 held1 : Held) (sink0 sink1 disk0 disk1 : ℕ) : Type 0 where
  pub failure : Failure
  pub is : (failure ≡ Usage) ⊎ (failure ≡ Memory)
  pub status_is : status ≡ number_of failure
  pub printed : WentOut (last_line failure) held0 held1 sink0 sink1
  pub same : IsUntouched s0 s1
  pub tells_on : TellsOn s0 s1
  pub faults : disk1 ≡ disk0
  pub any_moment : LeavesOnly s0 s1 (Stays s0)
