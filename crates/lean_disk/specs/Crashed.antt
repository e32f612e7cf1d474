-- What each choice leaves of an area after a crash.
use Rattle.std.specs.Prelude.{ℕ, ◌+◌, ◌/◌, List, [], ◌∷◌, length, take, replicate, if◌then◌else◌, nat_le}
use Rattle.lean_disk.specs.Area.{put_over}
use Rattle.lean_disk.specs.Memory.{View}
use Rattle.lean_disk.specs.declared.area_log.Call.{Call}
use Rattle.lean_disk.specs.declared.area_log.What.{What}
use Rattle.lean_disk.specs.declared.area_log.What.TheVariants.{Looked, Wrote, Synced}
use Rattle.lean_disk.specs.declared.crash.Choice.{Choice}
use Rattle.lean_disk.specs.declared.crash.Choice.TheVariants.{NoBytes, AllBytes, FirstHalf, Zeros}

-- an area's bytes as a read gives them, and as a crash leaves them
pub record Held : Type 0 where
  pub read : List ℕ
  pub left : List ℕ

-- what reaches the disk of a write that is not synced
abbrev pub put_choice : Choice → ℕ → List ℕ → List ℕ → List ℕ
put_choice NoBytes at bytes left = left
put_choice AllBytes at bytes left = put_over at bytes left
put_choice FirstHalf at bytes left = put_over at (take (length bytes / 2) bytes) left
put_choice Zeros at bytes left = put_over at (replicate (length bytes) 0) left

-- after one call
abbrev pub held_step : Choice → Held → What → Held
held_step choice h Looked = h
held_step choice h (Wrote at bytes done) = record { read = if done then put_over at bytes.items h.read else h.read; left = put_choice choice at bytes.items h.left }
held_step choice h (Synced done) = if done then record { read = h.read; left = h.read } else h

-- and after several, the oldest first
abbrev pub held : Choice → Held → List Call → Held
held choice h [] = h
held choice h (call ∷ calls) = held choice (held_step choice h call.what) calls

-- the calls that were made by a moment
abbrev pub by_moment : ℕ → List Call → List Call
by_moment m [] = []
by_moment m (call ∷ calls) = if nat_le (call.number + call.notes) m then call ∷ by_moment m calls else by_moment m calls

abbrev pub held_at : Choice → ℕ → List ℕ → List Call → Held
held_at choice m first calls = held choice (record { read = first; left = first }) (by_moment m calls)

-- what a crash at a moment leaves of an area
abbrev pub left_by : Choice → ℕ → View → List ℕ
left_by choice m v = (held_at choice m v.first v.line).left
