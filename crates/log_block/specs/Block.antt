-- The bytes of a block, and when a block belongs to a run.
use Rattle.std.specs.Prelude.{◌≡◌, ◌≤◌, ◌<◌, ◌-◌, ◌^◌, ◌++◌, ◌∷◌, [], ℕ, List, length, take, drop, replicate, codes}
use Rattle.std.specs.List.{flat_map}
use Rattle.lean_bytes.specs.Numbers.{number_bytes, number_at}
use Rattle.lean_bytes.specs.Seals.{seal_of}
use Rattle.log_record.specs.Spelling.{record_text, Fits}
use Rattle.log_record.specs.declared.record.Record.{Record}

-- generation, log, number, bytes of records, records
abbrev pub header_text : ℕ → ℕ → ℕ → ℕ → ℕ → List ℕ
header_text generation log block size count = number_bytes 8 generation ++ (number_bytes 8 log ++ (number_bytes 8 block ++ (number_bytes 4 size ++ number_bytes 4 count)))

-- the header, the records, and zeros
abbrev pub body_text : ℕ → ℕ → ℕ → ℕ → List ℕ → List ℕ
body_text generation log block count payload = header_text generation log block (length payload) count ++ (payload ++ replicate (2000 - length payload) 0)

abbrev pub seal_text : List ℕ → List ℕ
seal_text body = seal_of (codes "LEANLOGB") body

-- the body, and its seal
abbrev pub block_text : ℕ → ℕ → ℕ → ℕ → List ℕ → List ℕ
block_text generation log block count payload = body_text generation log block count payload ++ seal_text (body_text generation log block count payload)

-- the numbers of a block, read from its bytes
unfoldable pub generation_of : List ℕ → ℕ
generation_of bytes = number_at 8 0 bytes

unfoldable pub log_of : List ℕ → ℕ
log_of bytes = number_at 8 8 bytes

unfoldable pub block_of : List ℕ → ℕ
block_of bytes = number_at 8 16 bytes

-- the block is whole, and its last sixteen bytes are the seal of the others
pub record IsSealed (bytes : List ℕ) : Type 0 where
  pub whole : length bytes ≡ 2048
  pub seal : drop (length bytes - 16) bytes ≡ seal_text (take (length bytes - 16) bytes)

-- it is sealed, and its numbers are these
pub record Belongs (generation log block : ℕ) (bytes : List ℕ) : Type 0 where
  pub sealed : IsSealed bytes
  pub of_generation : generation_of bytes ≡ generation
  pub of_log : log_of bytes ≡ log
  pub of_block : block_of bytes ≡ block

abbrev pub records_text : List Record → List ℕ
records_text records = flat_map record_text records

abbrev pub AllFit : List Record → Type 0
AllFit [] = Unit {0}
AllFit (r ∷ records) = Fits r × AllFit records

-- the bytes are these records, so many, one behind the other
pub record Lists (records : List Record) (count : ℕ) (bytes : List ℕ) : Type 0 where
  pub fit : AllFit records
  pub many : length records ≡ count
  pub spelled : bytes ≡ records_text records

-- the bytes are the block that says that it has so many records, whose bytes are the payload
pub record Spells (generation log block : ℕ) (bytes : List ℕ) (count : ℕ) (payload : List ℕ) : Type 0 where
  pub room : length payload ≤ 2000
  pub fits : count < 2 ^ 32
  pub spelled : bytes ≡ block_text generation log block count payload

-- the bytes are the block of these records
pub record IsBlock (generation log block : ℕ) (bytes : List ℕ) (records : List Record) : Type 0 where
  pub fit : AllFit records
  pub room : length (records_text records) ≤ 2000
  pub spelled : bytes ≡ block_text generation log block (length records) (records_text records)

-- the bytes are the block of records with this payload
pub record IsPayload (generation log block : ℕ) (bytes payload : List ℕ) : Type 0 where
  pub records : List Record
  pub is : IsBlock generation log block bytes records
  pub spelled : payload ≡ records_text records
