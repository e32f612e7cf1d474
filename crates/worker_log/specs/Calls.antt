-- What calls make of a log, whatever the account.
use Rattle.std.specs.Prelude.{◌≡◌, ◌≤◌, ◌+◌, ◌==◌, ℕ, [], ◌∷◌, ◌++◌, drop, length, if◌then◌else◌}
use Rattle.disk_image.specs.log_record.declared.record.Record.{Record}
use Rattle.disk_image.specs.log_block.Block.{records_text}
use Rattle.worker_log.specs.Logs.{Log}

-- The record fits in the block in hand.
abbrev pub HasRoom : Log → Record → Type 0
HasRoom log r = length log.payload + length (records_text (r ∷ [])) ≤ 2000

-- with the record
pub record After (r : Record) (old new : Log) : Type 0 where
  pub room : HasRoom old r → new ≡ record old { payload = old.payload ++ records_text (r ∷ []); count = old.count + 1; last = r.gsn }
  pub full : (HasRoom old r → ⊥) → new ≡ record old { next = old.next + 1; payload = records_text (r ∷ []); count = 1; last = r.gsn; ends = old.ends ++ old.last ∷ [] }

-- the block in hand was written, if it held a record, and all is synced
abbrev pub flushed_log : Log → Log
flushed_log log = record log { next = log.next + (if log.count == 0 then 0 else 1); payload = []; count = 0; flushed = log.last; ends = if log.count == 0 then log.ends else log.ends ++ log.last ∷ [] }

-- its head has passed k blocks
abbrev pub cut_log : ℕ → Log → Log
cut_log k log = record log { head = log.head + k; ends = drop k log.ends }
