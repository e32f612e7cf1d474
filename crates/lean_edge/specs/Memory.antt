-- What a source and a sink in memory are, and what their calls do.
use Rattle.std.specs.Prelude.{◌≡◌, ◌↔◌, ◌⊎◌, ◌<◌, ◌+◌, ◌-◌, ◌^◌, ◌++◌, ℕ, List, [], length, take, min, Contains}
use Rattle.lean_edge.specs.declared.source.Next.{Next}
use Rattle.lean_edge.specs.declared.source.Next.TheVariants.{Got, End, Failed}
use Rattle.lean_edge.specs.declared.sink.Put.{Put}
use Rattle.lean_edge.specs.declared.sink.Put.TheVariants as put

-- the calls of an object: how many there were, the numbers of those that fail, from 1, and how many failed
pub record Calls : Type 0 where
  pub made : ℕ
  pub failing : List ℕ
  pub faults : ℕ

-- a source in memory: what is left, and how many bytes a call gives at most
pub record Stock : Type 0 where
  pub left : List ℕ
  pub piece : ℕ
  pub calls : Calls

-- a sink in memory: what it holds, and how many bytes it holds of a piece whose call fails
pub record Store : Type 0 where
  pub bytes : List ℕ
  pub prefix : ℕ
  pub calls : Calls

-- no call was made, and none is to fail
abbrev pub no_calls : Calls
no_calls = record { made = 0; failing = []; faults = 0 }

-- one more, up to its type's end
abbrev pub next_count : ℕ → ℕ
next_count n = min (n + 1) (2 ^ 64 - 1)

-- the next call is one of those that fail
abbrev pub IsToFail : Calls → Type 0
IsToFail calls = Contains calls.failing (next_count calls.made)

-- after a call that met no fault
abbrev pub passed : Calls → Calls
passed calls = record calls { made = next_count calls.made }

-- after a call that met one
abbrev pub failed : Calls → Calls
failed calls = record calls { made = next_count calls.made; faults = next_count calls.faults }

-- how many bytes a call gives that has so much room
abbrev pub given_count : ℕ → Stock → ℕ
given_count room stock = min (min stock.piece room) (length stock.left)

-- a call that gives gives as many bytes as it may, where one is left; it ends where none is; it fails where its number is listed
abbrev pub GaveOf : ℕ → Next → Stock → Stock → Type 0
GaveOf room (Got n) old new = (n ≡ given_count room old) × (0 < length old.left) × (new.calls ≡ passed old.calls)
GaveOf room End old new = (old.left ≡ []) × (new.calls ≡ passed old.calls)
GaveOf room Failed old new = new.calls ≡ failed old.calls

-- A call of a source in memory fails where its number is listed, and nowhere else.
pub record Gives (room : ℕ) (answer : Next) (old new : Stock) : Type 0 where
  pub fails : answer ≡ Failed ↔ IsToFail old.calls
  pub gave : GaveOf room answer old new
  pub piece : new.piece ≡ old.piece

-- A call of a sink in memory fails where its number is listed, and holds the prefix then; it holds nothing where memory is refused.
pub record Holds (bytes : List ℕ) (answer : Put) (old new : Store) : Type 0 where
  pub fails : IsToFail old.calls → answer ≡ put.Failed
  pub done : answer ≡ put.Done → (new.bytes ≡ old.bytes ++ bytes) × (new.calls ≡ passed old.calls)
  pub failed_calls : answer ≡ put.Failed → new.calls ≡ failed old.calls
  pub prefix_alone : answer ≡ put.Failed → (new.bytes ≡ old.bytes) ⊎ (IsToFail old.calls × (new.bytes ≡ old.bytes ++ take old.prefix bytes))
  pub prefix : new.prefix ≡ old.prefix
