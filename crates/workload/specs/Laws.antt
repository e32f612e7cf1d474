-- What is known of each line of a workload.
use Rattle.std.specs.Prelude.{◌≡◌, ◌≤◌, ◌<◌, ◌*◌, ◌++◌, ℕ, List, ◌∷◌, length}
use Rattle.map_model.specs.declared.call.Call.{Call}
use Rattle.map_model.specs.declared.call.Call.TheVariants as call
use Rattle.map_model.specs.Maps.{value_end}
use Rattle.script_lang.specs.declared.line.Line.{Line}
use Rattle.script_lang.specs.Lines.{CallFits, IsSessionOf}
use Rattle.workload.specs.Lines.{line_at, lines_of}

-- there are ten lines for each transaction
abbrev pub EveryLength : Type 0
EveryLength = (number count workers : ℕ) → length (lines_of number count workers) ≡ 10 * count

-- it is a call of a workload, by which one of the first thousand keys is read, written or deleted, or a transaction begins or is committed
abbrev pub IsOfWorkload : Call → Type 0
IsOfWorkload call.Begin = Unit {0}
IsOfWorkload (call.Get key) = key < 1000
IsOfWorkload (call.Put key value) = (key < 1000) × (value < value_end)
IsOfWorkload (call.Del key) = key < 1000
IsOfWorkload call.Commit = Unit {0}
IsOfWorkload _ = ⊥

-- it is the line of this number, and one that a script for so many workers may have
pub record IsLineAt (number workers n : ℕ) (line : Line) : Type 0 where
  pub is : line ≡ line_at number workers n
  pub session : IsSessionOf workers line.session line.call
  pub fits : CallFits line.call
  pub within : IsOfWorkload line.call

-- so it is of each line, by how many stand before it
abbrev pub EveryLine : Type 0
EveryLine = (number count workers : ℕ) (earlier : List Line) (line : Line) (later : List Line) → 1 ≤ workers → earlier ++ line ∷ later ≡ lines_of number count workers
    → IsLineAt number workers (length earlier) line
