-- What opening gives: the pages, and the map in them.
use Rattle.map_model.specs.Maps.{key_end, value_end}
use Rattle.image_model.specs.Entries.{Contents}
use Rattle.page_model.specs.Nodes.{Format, Node}
use Rattle.page_model.specs.Tree.{IsTree, lookup}
use Rattle.std.specs.Prelude.{◌<◌, ◌≤◌, ℕ, Bool}
use Rattle.map_model.specs.Maps.{Map}
use Rattle.page_model.specs.Tree.{value}

-- What opening gives. Workers and their logs are 1 to `workers`; log 0 is none. Keys share lock rows. Clocks, floors
-- and flushed numbers begin at the base number; each page has a number up to it, and the contents form a tree.
-- A transaction makes at most `changes` changes; two pages are joined that have at most `joined` pairs together.
-- `faithful`: a page that is read again has the pairs with which it was saved. Of a device that tells nothing it is not known.
pub record Opening : Type 0 where
  pub faithful : Bool
  pub workers : ℕ
  pub frames : ℕ
  pub row_of : ℕ → ℕ
  pub changes : ℕ
  pub joined : ℕ
  pub base : ℕ
  pub format : Format
  pub gsn : ℕ → ℕ
  pub last : ℕ → ℕ
  pub node : ℕ → Node
  pub some_worker : 0 < workers
  pub some_frame : 0 < frames
  pub fit : joined ≤ format.room
  pub keys : format.top ≤ key_end
  pub values : format.dead ≤ value_end
  pub low : (p : ℕ) → gsn p ≤ base
  pub tree : IsTree format node

-- the map at the start: each key's word, an absent one's a tombstone's
abbrev pub first : Opening → ℕ → ℕ
first g k = lookup g.format g.node k

-- the same as a map
abbrev pub first_map : Opening → Map
first_map g k = value g.format g.node k

-- a page as opening gives it
abbrev pub start_page : Opening → ℕ → Contents
start_page g p = record { gsn = g.gsn p; last = g.last p; node = g.node p }
