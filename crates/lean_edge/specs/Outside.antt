-- What a source and a sink tell, and what their calls do to it.
use Rattle.std.specs.Prelude.{◌≡◌, ◌≤◌, ◌<◌, ◌++◌, ◌∷◌, ℕ, List, [], Bool, IsTrue, take, drop, length}
use Rattle.lean_edge.specs.declared.source.Next.{Next}
use Rattle.lean_edge.specs.declared.source.Next.TheVariants.{Got, End, Failed}
use Rattle.lean_edge.specs.declared.sink.Put.{Put}
use Rattle.lean_edge.specs.declared.sink.Put.TheVariants as put

-- what is left of a source, if it tells
pub record Feed : Type 0 where
  pub tells : Bool
  pub left : List ℕ

-- what a sink holds, if it tells
pub record Held : Type 0 where
  pub tells : Bool
  pub bytes : List ℕ

-- what a sink holds more than it held before
abbrev pub added : Held → Held → List ℕ
added old new = drop (length old.bytes) new.bytes

-- the bytes that an answer gives out of a buffer
abbrev pub given : List ℕ → Next → List ℕ
given buffer (Got n) = take n buffer
given buffer End = []
given buffer Failed = []

-- how many there may be: one at least where there is room, and the end is where nothing is left
abbrev pub Counts : ℕ → Next → Feed → Type 0
Counts room (Got n) old = (n ≤ room) × (0 < room → 0 < n)
Counts room End old = IsTrue old.tells → old.left ≡ []
Counts room Failed old = Unit {0}

-- a call of a source with so much room, after which the buffer holds these bytes; a failed one takes nothing
pub record Took (room : ℕ) (buffer : List ℕ) (answer : Next) (old new : Feed) : Type 0 where
  pub same : new.tells ≡ old.tells
  pub counts : Counts room answer old
  pub took : IsTrue old.tells → old.left ≡ given buffer answer ++ new.left

-- bytes without a newline among them
abbrev pub IsLine : List ℕ → Type 0
IsLine [] = Unit {0}
IsLine (b ∷ bytes) = (b ≡ 10 → ⊥) × IsLine bytes

-- one line, with its newline
pub record IsWholeLine (bytes : List ℕ) : Type 0 where
  pub line : List ℕ
  pub is_line : IsLine line
  pub is : bytes ≡ line ++ 10 ∷ []

-- a call of a sink: it holds the bytes, or after a failure some prefix of them
pub record Puts (bytes : List ℕ) (answer : Put) (old new : Held) : Type 0 where
  pub same : new.tells ≡ old.tells
  pub done : answer ≡ put.Done → IsTrue old.tells → new.bytes ≡ old.bytes ++ bytes
  pub failed : answer ≡ put.Failed → (n : ℕ) × (IsTrue old.tells → new.bytes ≡ old.bytes ++ take n bytes)
