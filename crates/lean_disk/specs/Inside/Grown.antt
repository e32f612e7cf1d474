-- What a call leaves of an area's list of calls.
use Rattle.std.specs.Prelude.{◌≡◌, ℕ, [], ◌∷◌, ◌++◌}
use Rattle.lean_disk.specs.Area.{Area}
use Rattle.lean_disk.specs.Replay.{step}
use Rattle.lean_disk.specs.Memory.{View}
use Rattle.lean_disk.specs.declared.area_log.Call.{Call}

abbrev pub grown : Call → View → View
grown call v = record v { line = v.line ++ call ∷ [] }

-- one call more, which does this to the area
pub record Grew (n i : ℕ) (does : Area → Area) (old new : View) : Type 0 where
  pub call : Call
  pub number : call.number ≡ n
  pub notes : call.notes ≡ i
  pub step : (x : Area) → step x call.what ≡ does x
  pub view : new ≡ grown call old
