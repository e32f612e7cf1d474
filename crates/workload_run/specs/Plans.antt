-- Which lines are made of a number: those of its workload, a sync, and a last transaction, which walks the map.
use Rattle.std.specs.Prelude.{◌≡◌, ◌⊎◌, ◌<◌, ◌≤◌, ◌-◌, ◌^◌, ◌++◌, ℕ, false, List, [], ◌∷◌, length, Option, Some, None}
use Rattle.map_model.specs.declared.call.Call.{Call}
use Rattle.map_model.specs.declared.call.Call.TheVariants.{Begin, Scan, Sync}
use Rattle.map_model.specs.declared.call.Answered.{Answered}
use Rattle.map_model.specs.Maps.{key_end}
use Rattle.map_model.specs.Pairings.{is_open_line, script_of}
use Rattle.script_lang.specs.declared.line.Line.{Line}
use Rattle.workload.specs.Lines.{lines_of}
use Rattle.workload_run.specs.Counts.{goes_on_in}
use Rattle.workload_run.specs.declared.plan.Stage.{Stage}
use Rattle.workload_run.specs.declared.plan.Stage.TheVariants as stage

-- what lines ask
abbrev pub asked_of : List Line → List (ℕ × Call)
asked_of [] = []
asked_of (line ∷ lines) = (line.session, line.call) ∷ asked_of lines

-- ## All lines

abbrev pub last_key : ℕ
last_key = key_end - 1

-- steps of a walk of session 1: scans up to the last key
abbrev pub IsScanOn : Call → Type 0
IsScanOn (Scan from to) = to ≡ last_key
IsScanOn _ = ⊥

abbrev pub EachScansOn : List (ℕ × Call) → Type 0
EachScansOn [] = Unit {0}
EachScansOn (x ∷ xs) = (x.0 ≡ 1) × IsScanOn x.1 × EachScansOn xs

-- the lines of the workload, a sync, the begin of the last transaction, and its walk; it is not committed
pub record IsMade (number count sessions : ℕ) (script : List (ℕ × Call)) : Type 0 where
  pub walk : List (ℕ × Call)
  pub scans : EachScansOn walk
  pub is : script ≡ asked_of (lines_of number count sessions) ++ (0, Sync) ∷ (1, Begin) ∷ walk

-- Each scan goes on where the answer before it says. Answers have the newest first.
abbrev pub Follows : List Answered → Call → Type 0
Follows earlier (Scan from to) = goes_on_in earlier ≡ Some from
Follows earlier _ = Unit {0}

abbrev pub EachFollows : List Answered → Type 0
EachFollows [] = Unit {0}
EachFollows (x ∷ earlier) = EachFollows earlier × (is_open_line earlier ≡ false → Follows earlier x.call)

-- it does not go on: there is no key from there on
abbrev pub IsEnd : Option ℕ → Type 0
IsEnd None = Unit {0}
IsEnd (Some from) = key_end ≤ from

-- All these lines were executed, up to the end of the walk, or as many as a script may have.
pub record IsWalked (script : List (ℕ × Call)) (answered : List Answered) : Type 0 where
  pub all : script_of answered ≡ script
  pub follows : EachFollows answered
  pub over : IsEnd (goes_on_in answered) ⊎ (length script ≡ 2 ^ 40 - 1)

-- ## Line by line

-- the scan with which a walk goes on there
abbrev pub IsStepOf : Option ℕ → Line → Type 0
IsStepOf None line = ⊥
IsStepOf (Some from) line = (from < key_end) × (line ≡ record { session = 1; call = Scan from last_key })

-- behind the workload's lines
abbrev pub StageTakes : Stage → Option ℕ → Line → Stage → Type 0
StageTakes stage.Sync on line new = (line ≡ record { session = 0; call = Sync }) × (new ≡ stage.Begin)
StageTakes stage.Begin on line new = (line ≡ record { session = 1; call = Begin }) × (new ≡ stage.Walk)
StageTakes stage.Walk on line new = IsStepOf on line × (new ≡ stage.Walk)

-- the next line is taken, where a walk goes on there
pub data Takes (lines : List Line) (old : Stage) (on : Option ℕ) (line : Line) (left : List Line) (new : Stage) : Type 0 where
  OfWorkload : lines ≡ line ∷ left → new ≡ old → Takes lines old on line left new
  Behind : lines ≡ [] → left ≡ [] → StageTakes old on line new → Takes lines old on line left new

-- there is none
pub record IsOver (lines : List Line) (old : Stage) (on : Option ℕ) : Type 0 where
  pub none : lines ≡ []
  pub walking : old ≡ stage.Walk
  pub ends : IsEnd on
