-- What the record that stands first has to do with the grammar.
use Rattle.std.specs.Prelude.{◌≡◌, ◌↔◌, ◌++◌, ℕ, List, length, Some}
use Rattle.log_record.specs.Spelling.{Begins, record_text}
use Rattle.log_record.specs.Reading.{record_in}
use Rattle.log_record.specs.declared.record.Record.{Record}

-- It is the one that the grammar says, whatever the numbers are.
abbrev pub EveryRecordIn : Type 0
EveryRecordIn = (bytes : List ℕ) (r : Record) → (record_in bytes ≡ Some r) ↔ Begins bytes r (length (record_text r))

-- More bytes behind do not change it.
abbrev pub EveryLonger : Type 0
EveryLonger = (bytes more : List ℕ) (r : Record) → record_in bytes ≡ Some r → record_in (bytes ++ more) ≡ Some r
