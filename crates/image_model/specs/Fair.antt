-- Fair images: what a crash may leave where a write was cut short.
use Rattle.std.specs.Prelude.{◌≡◌, ◌⊎◌, ◌*◌, ◌+◌, ◌-◌, ◌<◌, ◌≤◌, ℕ, List, [], ◌∷◌, ◌++◌, take, drop, length}
use Rattle.map_model.specs.Lists.{Has}
use Rattle.lean_disk.specs.Area.{put_over}

-- what stands at the place of slot or block p
abbrev pub piece : (size : ℕ) → ℕ → List ℕ → List ℕ
piece size p bytes = take size (drop (size * p) bytes)

-- A write, which is its place and its bytes, put these bytes there, whole. It may be of more than that slot or block.
pub record Fills (size p : ℕ) (bytes : List ℕ) (write : ℕ × List ℕ) : Type 0 where
  pub begins : write.0 ≤ size * p
  pub ends : size * p + size ≤ write.0 + length write.1
  pub same : bytes ≡ take size (drop (size * p - write.0) write.1)

-- an area after writes, the newest first
abbrev pub after_writes : List ℕ → List (ℕ × List ℕ) → List ℕ
after_writes first [] = first
after_writes first (w ∷ older) = put_over w.0 w.1 (after_writes first older)

-- a write of some byte of it
pub record Touches (size p : ℕ) (writes : List (ℕ × List ℕ)) : Type 0 where
  pub write : ℕ × List ℕ
  pub has : Has write writes
  pub begins : write.0 < size * p + size
  pub ends : size * p < write.0 + length write.1

-- These bytes stood there after one of the writes, and one of those up to it was of this slot or block. It may have taken several of them.
pub record IsWritten (size p : ℕ) (bytes first : List ℕ) (writes : List (ℕ × List ℕ)) : Type 0 where
  pub newer : List (ℕ × List ℕ)
  pub older : List (ℕ × List ℕ)
  pub split : newer ++ older ≡ writes
  pub touched : Touches size p older
  pub same : bytes ≡ piece size p (after_writes first older)

-- Each slot or block whose seal fits holds the bytes that stood there after one of the writes, or those that stood there at first.
abbrev pub IsFair : (size : ℕ) → (List ℕ → Type 0) → (first : List ℕ) → (writes : List (ℕ × List ℕ)) → List ℕ → Type 0
IsFair size IsSealed first writes bytes =
    (p : ℕ) → IsSealed (piece size p bytes) → (piece size p bytes ≡ piece size p first) ⊎ IsWritten size p (piece size p bytes) first writes
