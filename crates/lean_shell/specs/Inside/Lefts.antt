-- Words of private functions: what a crash leaves in a run, from the opening of a clean disk on.
use Rattle.std.specs.Prelude.{◌≡◌, ◌⊎◌, ℕ, List, length, Option}
use Rattle.lean_disk.specs.Story.{Crash, Story}
use Rattle.buffered_engine.specs.disk_slots.declared.master.Master.{Master}
use Rattle.buffered_engine.specs.disk_image.Fair.{IsFairCrash}
use Rattle.buffered_engine.specs.core_calls.Fronts.{Done}
use Rattle.buffered_engine.specs.core_state.Openings.{Opening}
use Rattle.buffered_engine.specs.paged_engine.declared.opening.Size.{Size}
use Rattle.lean_shell.specs.Crashes.{HasMasterOf, IsUnwritten}
use Rattle.lean_shell.specs.Headline.{Survives}

-- A crash with the writes and the bytes of another.
pub record IsSameBut (c d : Crash) : Type 0 where
  pub writes : (a : ℕ) → d.writes a ≡ c.writes a
  pub image : (a : ℕ) → d.image a ≡ c.image a

-- the image survives, by a master of the disk on entry
pub record Lives (size : Size) (AreIts : Opening → List Done → Option Done → Type 0) (m : Master) (s : Story) (input put : List ℕ) (c : Crash) : Type 0 where
  pub survives : Survives m s input put c
  pub master : HasMasterOf size AreIts m s input put c

-- so it is once something is written
abbrev pub LivesOn : (size : Size) (AreIts : Opening → List Done → Option Done → Type 0) (m : Master) (s : Story) (input put : List ℕ) (c : Crash) → Type 0
LivesOn size AreIts m s input put c = IsUnwritten m s input put c ⊎ (IsFairCrash (length m.heads) s c → Lives size AreIts m s input put c)
