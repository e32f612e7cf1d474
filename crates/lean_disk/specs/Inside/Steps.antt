-- Whether the calls of two areas can be calls of one disk.
use Rattle.std.specs.Prelude.{List, [], ◌∷◌, Bool, true, false, if◌then◌else◌, nat_le}
use Rattle.lean_disk.specs.Memory.{slot_view}
use Rattle.lean_disk.specs.declared.area_log.Call.{Call}
use Rattle.lean_disk.specs.declared.slot.Slot.{Slot}

-- where the first call's number is not the greater, nor are its notes
abbrev pub is_no_later : Call → Call → Bool
is_no_later x y = if nat_le x.number y.number then nat_le x.notes y.notes else true

abbrev pub step_together : Call → Call → Bool
step_together x y = if is_no_later x y then is_no_later y x else false

abbrev pub steps_with : Call → List Call → Bool
steps_with x [] = true
steps_with x (y ∷ ys) = if step_together x y then steps_with x ys else false

abbrev pub lines_step : List Call → List Call → Bool
lines_step [] ys = true
lines_step (x ∷ xs) ys = if steps_with x ys then lines_step xs ys else false

abbrev pub areas_step : List Call → List Slot → Bool
areas_step xs [] = true
areas_step xs (slot ∷ slots) = if lines_step xs (slot_view slot).line then areas_step xs slots else false

-- an area with these calls comes back
abbrev pub stays_own : Bool → List Call → List Slot → Bool
stays_own own calls areas = if own then (if lines_step calls calls then areas_step calls areas else false) else false
