-- The records that the bytes of a block spell, if they spell some.
use Rattle.std.specs.Prelude.{ℕ, zero, suc, Bool, ◌&&◌, leb, ◌==◌, List, [], ◌∷◌, length, drop, take, Option, Some, None, if◌then◌else◌}
use Rattle.std.specs.Str.{bytes_eq}
use Rattle.page_model.specs.Check.{is_nil}
use Rattle.lean_bytes.specs.Numbers.{number_at}
use Rattle.log_record.specs.Spelling.{record_text}
use Rattle.log_record.specs.Reading.{record_in}
use Rattle.log_record.specs.declared.record.Record.{Record}
use Rattle.log_block.specs.Block.{block_text, seal_text, generation_of, log_of, block_of}

abbrev pub cons_of : Record → Option (List Record) → Option (List Record)
cons_of r (Some rs) = Some (r ∷ rs)
cons_of r None = None

-- the record, and those behind it
abbrev pub with_first : Option Record → (Record → Option (List Record)) → Option (List Record)
with_first (Some r) behind = cons_of r (behind r)
with_first None behind = None

-- so many records one behind the other, and nothing else
abbrev pub records_in : ℕ → List ℕ → Option (List Record)
records_in zero bytes = if is_nil bytes then Some [] else None
records_in (suc n) bytes = with_first (record_in bytes) (λ r. records_in n (drop (length (record_text r)) bytes))

-- the seal fits
abbrev pub is_sealed : List ℕ → Bool
is_sealed bytes = (length bytes == 2048) && bytes_eq (drop 2032 bytes) (seal_text (take 2032 bytes))

-- a sealed block of this generation, log and number
abbrev pub belongs : (generation log block : ℕ) → List ℕ → Bool
belongs generation log block bytes = is_sealed bytes && ((generation_of bytes == generation) && ((log_of bytes == log) && (block_of bytes == block)))

abbrev pub payload_of : List ℕ → List ℕ
payload_of bytes = take (number_at 4 24 bytes) (drop 32 bytes)

abbrev pub count_of : List ℕ → ℕ
count_of bytes = number_at 4 28 bytes

-- the records of the block with these numbers
abbrev pub block_in : (generation log block : ℕ) → List ℕ → Option (List Record)
block_in generation log block bytes =
    if leb (length (payload_of bytes)) 2000 && bytes_eq bytes (block_text generation log block (count_of bytes) (payload_of bytes))
    then records_in (count_of bytes) (payload_of bytes) else None
