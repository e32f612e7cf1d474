-- An account of what was put into a log.
use Rattle.std.specs.Prelude.{ℕ, suc, List, [], ◌∷◌, ◌++◌, length}
use Rattle.lean_disk.specs.Area.{Write}
use Rattle.disk_image.specs.log_record.declared.record.Record.{Record}
use Rattle.disk_image.specs.log_block.Block.{block_text, records_text}
use Rattle.disk_image.specs.Runs.{Block}

-- An account of a log: the bytes of its area and the writes to it by the time the account begins; since then the records of
-- each block that was written, the first block first; how many of these blocks are synced; and the records of the block
-- in hand.
pub record Account : Type 0 where
  pub first : List ℕ
  pub older : List Write
  pub written : List (List Record)
  pub synced : ℕ
  pub current : List Record

-- all blocks, with the one in hand if it holds a record
abbrev pub with_current : List (List Record) → List Record → List (List Record)
with_current written [] = written
with_current written (r ∷ rs) = written ++ (r ∷ rs) ∷ []

abbrev pub all_blocks : Account → List (List Record)
all_blocks x = with_current x.written x.current

-- the block of these records with number q of the log of a generation
abbrev pub spelled : (generation log q : ℕ) → List Record → List ℕ
spelled generation log q rs = block_text generation log q (length rs) (records_text rs)

-- such blocks one after the other, from number q on
abbrev pub spelled_from : (generation log q : ℕ) → List (List Record) → List Block
spelled_from generation log q [] = []
spelled_from generation log q (rs ∷ rest) = record { number = q; bytes = spelled generation log q rs } ∷ spelled_from generation log (suc q) rest

-- the records of blocks one behind the other
abbrev pub joined : List (List Record) → List Record
joined [] = []
joined (rs ∷ rest) = rs ++ joined rest

-- the records of an account, the first one first
abbrev pub records_of : Account → List Record
records_of x = joined x.written ++ x.current
