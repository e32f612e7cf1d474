-- The records of logs, one behind another.
use Rattle.std.specs.Prelude.{◌≡◌, ◌++◌, ℕ, Bool, ◌==◌, ltb, ◌&&◌, ◌||◌, List, map, reverse, length}
use Rattle.std.specs.List.{sum_by}
use Rattle.log_record.specs.Spelling.{record_text, kind_of}
use Rattle.log_record.specs.declared.record.Record.{Record}
use Rattle.log_block.specs.Block.{Lists}
use Rattle.log_index.specs.declared.head.Head.{Head}

-- a record, the log in which it was found, and the place of its block in the log's area
pub record Item : Type 0 where
  pub log : ℕ
  pub place : ℕ
  pub said : Record

abbrev pub item_of : (log place : ℕ) → Record → Item
item_of log place r = record { log = log; place = place; said = r }

-- the records of one block
abbrev pub items_of : (log place : ℕ) → List Record → List Item
items_of log place records = map (item_of log place) records

abbrev pub item_size : Item → ℕ
item_size i = length (record_text i.said)

-- the payload is so many records, which were added behind the others
pub record BlockPushed (log place count : ℕ) (payload : List ℕ) (old new : List Item) : Type 0 where
  pub records : List Record
  pub lists : Lists records count payload
  pub added : new ≡ old ++ items_of log place records

-- how many bytes they take on disks
abbrev pub held : List Item → ℕ
held items = sum_by item_size items

-- what is told of a record without reading it
abbrev pub head_of : Item → Head
head_of i = record { number = i.said.gsn; txn = i.said.txn; log = i.log; place = i.place; kind = kind_of i.said.body }

-- by number, then by log
abbrev pub earlier_item : Item → Item → Bool
earlier_item a b = ltb a.said.gsn b.said.gsn || ((a.said.gsn == b.said.gsn) && ltb a.log b.log)

-- in turn, the last one first
abbrev pub newest_first : List Item → List Item
newest_first items = reverse items
