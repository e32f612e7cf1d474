-- What stands in front of a record, and how long the record is.
use Rattle.std.specs.Prelude.{ℕ}
use Rattle.log_record.specs.Spelling.{kind_of}
use Rattle.log_record.specs.declared.record.Record.{Record}
use Rattle.log_record.specs.declared.head.RecordHead.{RecordHead}

-- the kind, the transaction and the number of a record of so many bytes
abbrev pub head_of : Record → ℕ → RecordHead
head_of r size = record { kind = kind_of r.body; txn = r.txn; gsn = r.gsn; size = size }
