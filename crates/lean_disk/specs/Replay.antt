-- The calls that a disk in memory keeps, and what an area is after them.
use Rattle.std.specs.Prelude.{ℕ, ◌≤◌, List, [], ◌∷◌, if◌then◌else◌, nat_le}
use Rattle.std.specs.List.{AllByRecursion}
use Rattle.lean_disk.specs.Area.{Area, written, torn, synced}
use Rattle.lean_disk.specs.declared.area_log.Call.{Call}
use Rattle.lean_disk.specs.declared.area_log.What.{What}
use Rattle.lean_disk.specs.declared.area_log.What.TheVariants.{Looked, Wrote, Synced}

-- an area after one call. A write or a sync that failed has the flag false.
abbrev pub step : Area → What → Area
step x Looked = x
step x (Wrote at bytes done) = if done then written at bytes.items x else torn at bytes.items x
step x (Synced done) = if done then synced x else x

-- and after several, the oldest first
abbrev pub replay : Area → List Call → Area
replay x [] = x
replay x (call ∷ calls) = replay (step x call.what) calls

-- the calls up to a number
abbrev pub upto : ℕ → List Call → List Call
upto k [] = []
upto k (call ∷ calls) = if nat_le call.number k then call ∷ upto k calls else upto k calls

-- the number of the last call
abbrev pub last_number : List Call → ℕ
last_number [] = 0
last_number (call ∷ []) = call.number
last_number (call ∷ next ∷ calls) = last_number (next ∷ calls)

-- the calls stand in the order of their numbers
abbrev pub AreOrdered : List Call → Type 0
AreOrdered calls = AllByRecursion (λ call. call.number ≤ last_number calls) calls
