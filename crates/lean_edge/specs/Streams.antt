-- What a source over a reader and a sink over a writer do to the bytes that the two know of.
use Rattle.std.specs.Prelude.{◌≡◌, ℕ, List, take, Option}
use Rattle.std.specs.Io.KnownBytes.{Appends, Consumes, IsAtEnd}
use Rattle.lean_edge.specs.declared.source.Next.{Next}
use Rattle.lean_edge.specs.declared.source.Next.TheVariants.{End}
use Rattle.lean_edge.specs.declared.sink.Put.{Put}
use Rattle.lean_edge.specs.declared.sink.Put.TheVariants as put
use Rattle.lean_edge.specs.Outside.{given}

-- a reader or a writer: the bytes that it has left or holds, where it knows them, and how often it has failed
pub record Stream : Type 0 where
  pub known : Option (List ℕ)
  pub faults : ℕ

-- A source over a reader: what it gives is gone from the beginning of what was left, a failure takes nothing, and at the end nothing is left.
pub record Reads (buffer : List ℕ) (answer : Next) (old new : Stream) : Type 0 where
  pub gives : Consumes old.known new.known (given buffer answer)
  pub ends : answer ≡ End → IsAtEnd new.known

-- A sink over a writer: the writer holds the bytes, or after a failure some prefix of them.
pub record Writes (bytes : List ℕ) (answer : Put) (old new : Stream) : Type 0 where
  pub done : answer ≡ put.Done → Appends old.known new.known bytes
  pub failed : answer ≡ put.Failed → (n : ℕ) × Appends old.known new.known (take n bytes)
