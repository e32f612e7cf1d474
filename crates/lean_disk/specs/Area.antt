-- An area of a disk: what it holds, what was written and not synced, and what a crash may leave of it.
use Rattle.std.specs.Prelude.{◌≡◌, ◌⊎◌, ℕ, ◌+◌, ◌-◌, ◌≤◌, ◌<◌, List, [], ◌∷◌, ◌++◌, length, take, drop, slice_index, replicate}

-- a write: its place and its bytes
abbrev pub Write : Type 0
Write = ℕ × List ℕ

-- An area: its bytes when it was first told of; its bytes as a read gives them; each write made since it was first told of, the newest first;
-- the ranges (place, length) written since its last sync that answered Done, and its length at that sync.
pub record Area : Type 0 where
  pub first : List ℕ
  pub bytes : List ℕ
  pub writes : List Write
  pub unsynced : List (ℕ × ℕ)
  pub end : ℕ

-- a byte's place is in none of the ranges
abbrev pub IsApart : ℕ → List (ℕ × ℕ) → Type 0
IsApart j [] = Unit {0}
IsApart j (r ∷ rs) = ((j < r.0) ⊎ (r.0 + r.1 ≤ j)) × IsApart j rs

-- A crash may leave these bytes: any in the unsynced ranges and past the synced end, the same elsewhere.
pub record Leaves (area : Area) (c : List ℕ) : Type 0 where
  pub clean : area.unsynced ≡ [] → c ≡ area.bytes
  pub no_shorter : area.end ≤ length c
  pub same : (j : ℕ) → j < area.end → IsApart j area.unsynced → slice_index c j ≡ slice_index area.bytes j

-- these bytes put over others from a place on, with zeros up to it
abbrev pub put_over : ℕ → List ℕ → List ℕ → List ℕ
put_over at bytes old = (take at old ++ replicate (at - length old) 0) ++ bytes ++ drop (at + length bytes) old

-- an area as it is first told of
abbrev pub fresh : List ℕ → Area
fresh bytes = record { first = bytes; bytes = bytes; writes = []; unsynced = []; end = length bytes }

-- after a write that failed: any bytes may stand in its range
abbrev pub torn : ℕ → List ℕ → Area → Area
torn at bytes x = record x { writes = (at, bytes) ∷ x.writes; unsynced = (at, length bytes) ∷ x.unsynced }

abbrev pub written : ℕ → List ℕ → Area → Area
written at bytes x = record x { bytes = put_over at bytes x.bytes; writes = (at, bytes) ∷ x.writes; unsynced = (at, length bytes) ∷ x.unsynced }

abbrev pub synced : Area → Area
synced x = record x { unsynced = []; end = length x.bytes }
