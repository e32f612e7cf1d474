-- What an account says of a log and of its area, and what a crash leaves of it.
use Rattle.std.specs.Prelude.{◌≡◌, ◌⊎◌, ◌≤◌, ◌<◌, ◌+◌, ◌-◌, ◌^◌, ◌*◌, ◌%◌, ℕ, List, [], ◌∷◌, ◌++◌, length, take, drop}
use Rattle.map_model.specs.Lists.{Has}
use Rattle.disk_image.specs.image_model.Fair.{IsFair}
use Rattle.lean_disk.specs.Area.{Write, Area}
use Rattle.disk_image.specs.log_record.declared.record.Record.{Record}
use Rattle.disk_image.specs.log_block.Block.{AllFit, records_text, Belongs, IsSealed, generation_of}
use Rattle.disk_image.specs.Runs.{Block, run_in, block_at, HasNone}
use Rattle.worker_log.specs.Logs.{Log, used}
use Rattle.worker_log.specs.Accounts.{Account, all_blocks, spelled_from, joined, records_of}
use Rattle.worker_log.specs.Calls.{HasRoom}

-- its numbers are in their ranges, and it uses no more blocks than the ring has
pub record IsInRange (log : Log) : Type 0 where
  pub generation : log.generation < 2 ^ 64
  pub number : (1 ≤ log.log) × (log.log ≤ 16)
  pub some : (64 ≤ log.blocks) × (log.blocks ≤ 4096)
  pub head : log.head < 2 ^ 63
  pub ring : used log ≤ log.blocks

-- the run of the log in an area with these bytes
abbrev pub run_of : Log → List ℕ → List Block
run_of log bytes = run_in log.generation log.log log.blocks bytes log.blocks log.head

-- the records fit in a block
pub record FitsBlock (rs : List Record) : Type 0 where
  pub fit : AllFit rs
  pub room : length (records_text rs) ≤ 2000

-- each list of records fits in a block, and has one
abbrev pub AllFitBlocks : List (List Record) → Type 0
AllFitBlocks [] = Unit {0}
AllFitBlocks (rs ∷ rest) = (0 < length rs) × FitsBlock rs × AllFitBlocks rest

-- numbers rise strictly, from above one number up to another
abbrev pub RiseFrom : ℕ → List Record → ℕ → Type 0
RiseFrom low [] last = low ≤ last
RiseFrom low (r ∷ rs) last = (low < r.gsn) × RiseFrom r.gsn rs last

-- the number of the last of records, the first one's or a later one's
abbrev pub end_behind : ℕ → List Record → ℕ
end_behind n [] = n
end_behind n (r ∷ rs) = end_behind r.gsn rs

-- 0 where there is none
abbrev pub end_of : List Record → ℕ
end_of [] = 0
end_of (r ∷ rs) = end_behind r.gsn rs

-- those of blocks
abbrev pub ends_of : List (List Record) → List ℕ
ends_of [] = []
ends_of (rs ∷ rest) = end_of rs ∷ ends_of rest

-- if there are records, the last has this number
abbrev pub EndsAt : List Record → ℕ → Type 0
EndsAt [] n = Unit {0}
EndsAt (r ∷ rs) n = end_behind r.gsn rs ≡ n

-- where block q of a ring of n blocks stands, and how long it is
abbrev pub range_of : (n q : ℕ) → ℕ × ℕ
range_of n q = (2048 * (q % n), 2048)

-- the ranges that are not synced are blocks from number low on and below high
pub record AreLate (n low high : ℕ) (ranges : List (ℕ × ℕ)) : Type 0 where
  pub late : (range : ℕ × ℕ) → Has range ranges → (q : ℕ) × (low ≤ q) × (q < high) × (range ≡ range_of n q)

-- the write of a block
abbrev pub write_of : (n : ℕ) → Block → Write
write_of n block = (2048 * (block.number % n), block.bytes)

-- a write of one of the blocks
pub record IsBlockWrite (n : ℕ) (blocks : List Block) (w : Write) : Type 0 where
  pub block : Block
  pub has : Has block blocks
  pub at : w ≡ write_of n block

-- a write of a block of the log that the head has passed
pub record IsPassed (generation log n head : ℕ) (w : Write) : Type 0 where
  pub block : Block
  pub below : block.number < head
  pub belongs : Belongs generation log block.number block.bytes
  pub at : w ≡ write_of n block

-- a write of the log: of one of its blocks from the head on, or of one that the head has passed
abbrev pub IsOwnWrite : (generation log n head : ℕ) → List (List Record) → Write → Type 0
IsOwnWrite generation log n head written w = IsBlockWrite n (spelled_from generation log head written) w ⊎ IsPassed generation log n head w

-- the write of one block of a generation
pub record IsOfGeneration (generation : ℕ) (w : Write) : Type 0 where
  pub place : ℕ
  pub at : w.0 ≡ 2048 * place
  pub whole : length w.1 ≡ 2048
  pub generation_is : generation_of w.1 ≡ generation

-- The area of a ring of n blocks holds the blocks that were written since it had these first bytes and older writes, from
-- number head on, so many of them synced; and of this generation nothing else but blocks that the head has passed.
pub record HoldsBlocks (generation log n head : ℕ) (first : List ℕ) (older : List Write) (written : List (List Record)) (synced : ℕ) (area : Area) : Type 0 where
  pub since : List Write
  pub writes : area.writes ≡ since ++ older
  pub blocks : (w : Write) → Has w since → IsOwnWrite generation log n head written w
  pub new : HasNone generation n first
  pub fair : IsFair 2048 IsSealed first since area.bytes
  -- as it reads
  pub reads : (block : Block) → Has block (spelled_from generation log head written) → block_at n block.number area.bytes ≡ block.bytes
  pub late : AreLate n (head + synced) (head + length written) area.unsynced
  pub end : (block : Block) → Has block (spelled_from generation log head (take synced written)) → 2048 * (block.number % n) + 2048 ≤ area.end
  -- the place of the next block is not past the end
  pub reach : 2048 * ((head + length written) % n) ≤ length area.bytes

-- The account is right of the log and of what its area tells.
pub record IsKept (x : Account) (log : Log) (area : Area) : Type 0 where
  -- the log
  pub next : log.next ≡ log.head + length x.written
  pub payload : log.payload ≡ records_text x.current
  pub count : log.count ≡ length x.current
  pub fit : AllFitBlocks x.written × FitsBlock x.current
  pub ring : length x.written ≤ log.blocks
  pub numbers : (low : ℕ) × RiseFrom low (records_of x) log.last
  pub ends : log.ends ≡ ends_of x.written
  pub ending : EndsAt x.current log.last
  -- what is flushed: the synced blocks, and these alone
  pub synced : x.synced ≤ length x.written
  pub below : (r : Record) → Has r (joined (take x.synced x.written)) → r.gsn ≤ log.flushed
  pub above : (r : Record) → Has r (joined (drop x.synced x.written) ++ x.current) → log.flushed < r.gsn
  -- the area
  pub holds : HoldsBlocks log.generation log.log log.blocks log.head x.first x.older x.written x.synced area

-- A log without blocks, whose area holds nothing of its generation, and reaches to the place of its first block.
pub record IsFresh (log : Log) (area : Area) : Type 0 where
  pub clean : area.unsynced ≡ []
  pub end : area.end ≡ length area.bytes
  pub new : HasNone log.generation log.blocks area.bytes
  pub reach : 2048 * (log.head % log.blocks) ≤ length area.bytes

abbrev pub fresh_account : Area → Account
fresh_account area = record { first = area.bytes; older = area.writes; written = []; synced = 0; current = [] }

-- The run is the first k of these blocks, whole, in order, none skipped, and holds the synced ones. Numbers rise in the blocks,
-- and no record that is flushed stands behind the first k.
pub record HoldsFirst (x : Account) (log : Log) (blocks : List (List Record)) (bytes : List ℕ) : Type 0 where
  pub k : ℕ
  pub synced : x.synced ≤ k
  pub within : k ≤ length blocks
  pub run : run_of log bytes ≡ spelled_from log.generation log.log log.head (take k blocks)
  pub fit : AllFitBlocks (take k blocks)
  pub numbers : (low : ℕ) × RiseFrom low (joined blocks) log.last
  pub above : (r : Record) → Has r (joined (drop k blocks)) → log.flushed < r.gsn

-- Each write since the account began is of one block of the log's generation; and so it is in each fair image: one in which each
-- block whose seal fits is one of those writes, or stood there when the account began.
pub record LeavesBlocks (x : Account) (log : Log) (writes : List Write) (bytes : List ℕ) : Type 0 where
  pub since : List Write
  pub writes_are : writes ≡ since ++ x.older
  pub own : (w : Write) → Has w since → IsOfGeneration log.generation w
  pub holds : IsFair 2048 IsSealed x.first since bytes → HoldsFirst x log (all_blocks x) bytes

-- ## What calls make of an account

-- the block in hand is written
abbrev pub closed : Account → Account
closed x = record x { written = all_blocks x; current = [] }

-- and synced
abbrev pub flushed : Account → Account
flushed x = record x { written = all_blocks x; synced = length (all_blocks x); current = [] }

-- the record is put into the block in hand
abbrev pub staged : Account → Record → Account
staged x r = record x { current = x.current ++ r ∷ [] }

-- the head has passed the first k blocks
abbrev pub cut : ℕ → Account → Account
cut k x = record x { written = drop k x.written; synced = x.synced - k }

-- a record was put into the block in hand, which was written first where it had no room
pub record Staged (r : Record) (x y : Account) (old : Log) : Type 0 where
  pub room : HasRoom old r → y ≡ staged x r
  pub full : (HasRoom old r → ⊥) → y ≡ staged (closed x) r

-- the account after that, which is right of the log again
pub record StagesTo (r : Record) (x : Account) (old new : Log) (area : Area) : Type 0 where
  pub y : Account
  pub staged : Staged r x y old
  pub kept : IsKept y new area
