-- What a crash leaves between two calls, what the run that a crash leaves says, and what stands after a cut.
use Rattle.std.specs.Prelude.{◌≡◌, ◌≤◌, ◌<◌, ◌+◌, ◌^◌, ℕ, List, [], ◌∷◌, ◌++◌, drop, length, take}
use Rattle.map_model.specs.Lists.{Has}
use Rattle.disk_image.specs.image_model.Entries.{Entry}
use Rattle.disk_image.specs.image_model.Images.{IsFalling}
use Rattle.lean_disk.specs.Area.{Area, Leaves}
use Rattle.disk_image.specs.log_record.declared.record.Record.{Record}
use Rattle.disk_image.specs.Records.{entry_of}
use Rattle.disk_image.specs.Runs.{Block, logged_onto, entries_in, AreReadable}
use Rattle.worker_log.specs.Logs.{Log, passed_by, passed_end}
use Rattle.worker_log.specs.Kept.{IsInRange, AllFitBlocks, HoldsFirst, IsKept, LeavesBlocks, Staged, cut, flushed, run_of}
use Rattle.worker_log.specs.Calls.{cut_log}
use Rattle.worker_log.specs.Accounts.{Account, all_blocks, spelled_from, joined, records_of}

-- a crash between two calls leaves what one in a call does
abbrev pub EveryKept : Type 0
EveryKept = (x : Account) (log : Log) (area : Area) → IsInRange log → IsKept x log area → (c : List ℕ) → Leaves area c → LeavesBlocks x log area.writes c

-- the entries of records, put before those behind them: the newest first
abbrev pub entries_onto : (log : ℕ) → List Entry → List Record → List Entry
entries_onto log behind [] = behind
entries_onto log behind (r ∷ rs) = entries_onto log (entry_of log r ∷ behind) rs

-- The account after the record is staged is one alone, whatever the device tells. It begins where the other does, and has the
-- record behind the others.
pub record StagesOnce (r : Record) (x : Account) (old : Log) : Type 0 where
  pub y : Account
  pub is : Staged r x y old
  pub only : (z : Account) → Staged r x z old → z ≡ y
  pub first : y.first ≡ x.first
  pub older : y.older ≡ x.older
  pub records : records_of y ≡ records_of x ++ r ∷ []
  pub entries : (log : ℕ) → entries_onto log [] (records_of y) ≡ entry_of log r ∷ entries_onto log [] (records_of x)

abbrev pub EveryStaged : Type 0
EveryStaged = (r : Record) (x : Account) (old : Log) → StagesOnce r x old

-- a flush leaves the records
abbrev pub EveryFlushed : Type 0
EveryFlushed = (x : Account) → records_of (flushed x) ≡ records_of x

-- each block of the run is readable, and these are the run's records
pub record Reads (generation log n : ℕ) (run : List Block) (rs : List Record) : Type 0 where
  pub readable : AreReadable generation log run
  pub entries : entries_in (logged_onto generation log n [] run) ≡ entries_onto log [] rs

-- blocks that were spelled have the records that were put into them
abbrev pub EveryRun : Type 0
EveryRun = (generation log n q : ℕ) (blocks : List (List Record)) → AllFitBlocks blocks → Reads generation log n (spelled_from generation log q blocks) (joined blocks)

-- The run's records are a prefix of the account's, with falling numbers; each that is flushed is among them, and all are where
-- all blocks are synced.
pub record ReadsPrefix (x : Account) (log : Log) (bytes : List ℕ) : Type 0 where
  pub blocks : List (List Record)
  pub fit : AllFitBlocks blocks
  pub run : run_of log bytes ≡ spelled_from log.generation log.log log.head blocks
  pub reads : Reads log.generation log.log log.blocks (run_of log bytes) (joined blocks)
  pub newer : List Entry
  pub splits : newer ++ entries_onto log.log [] (joined blocks) ≡ entries_onto log.log [] (records_of x)
  pub falls : IsFalling (entries_onto log.log [] (joined blocks))
  pub flushed : (e : Entry) → Has e (entries_onto log.log [] (records_of x)) → e.number ≤ log.flushed → Has e (entries_onto log.log [] (joined blocks))
  pub whole : x.synced ≡ length (all_blocks x) → newer ≡ []

-- So it is wherever the run is the first of the account's blocks.
abbrev pub EveryPrefix : Type 0
EveryPrefix = (x : Account) (log : Log) (bytes : List ℕ) → HoldsFirst x log (all_blocks x) bytes → ReadsPrefix x log bytes

-- the log from a later head on, which has passed blocks that are synced
pub record IsCutOff (k : ℕ) (x : Account) (log : Log) (area : Area) : Type 0 where
  pub ranges : IsInRange (cut_log k log)
  pub kept : IsKept (cut k x) (cut_log k log) area

abbrev pub EveryCut : Type 0
EveryCut = (k : ℕ) (x : Account) (log : Log) (area : Area) → IsInRange log → k ≤ x.synced → log.head + k < 2 ^ 63 → IsKept x log area → IsCutOff k x log area

-- What blocks a head may pass up to the number x, by the account: they are synced, and hold no record above x. The greatest number in them is below all records behind them; and the
-- first written block that is not passed has a record above x.
pub record PassesUpTo (x : ℕ) (a : Account) (log : Log) : Type 0 where
  pub synced : passed_by x log.ends ≤ a.synced
  pub low : passed_end x log.ends ≤ x
  pub none : passed_by x log.ends ≡ 0 → passed_end x log.ends ≡ 0
  pub before : (r : Record) → Has r (joined (take (passed_by x log.ends) a.written)) → r.gsn ≤ passed_end x log.ends
  pub behind : 0 < passed_by x log.ends → (r : Record) → Has r (records_of (cut (passed_by x log.ends) a)) → passed_end x log.ends < r.gsn
  pub first : (rs : List Record) (rest : List (List Record)) → drop (passed_by x log.ends) a.written ≡ rs ∷ rest → (r : Record) × Has r rs × (x < r.gsn)

-- up to any number that is flushed
abbrev pub EveryPassed : Type 0
EveryPassed = (x : ℕ) (a : Account) (log : Log) (area : Area) → x ≤ log.flushed → IsKept a log area → PassesUpTo x a log
