-- The run with which a log begins, and its records.
use Rattle.std.specs.Prelude.{◌≡◌, ◌<◌, ◌%◌, ℕ, zero, suc, List, [], ◌∷◌, map, Option, Some, None, if◌then◌else◌}
use Rattle.image_model.specs.Fair.{piece}
use Rattle.image_model.specs.Entries.{Entry}
use Rattle.log_record.specs.declared.record.Record.{Record}
use Rattle.log_block.specs.Block.{IsSealed, generation_of}
use Rattle.disk_image.specs.Records.{entry_of}
use Rattle.disk_image.specs.Blocks.{is_sealed, belongs, block_in}

-- what stands at the place of block q, in a ring of n blocks
abbrev pub block_at : (n q : ℕ) → List ℕ → List ℕ
block_at n q area = piece 2048 (q % n) area

-- A block of a run: its number and its bytes.
pub record Block : Type 0 where
  pub number : ℕ
  pub bytes : List ℕ

-- the longest run of blocks from number q on, and at most so many, the first one first
abbrev pub run_in : (generation log n : ℕ) → List ℕ → (count q : ℕ) → List Block
run_in generation log n area zero q = []
run_in generation log n area (suc count) q =
    if belongs generation log q (block_at n q area) then record { number = q; bytes = block_at n q area } ∷ run_in generation log n area count (suc q) else []

-- A record of a log, with the place of its block.
pub record Logged : Type 0 where
  pub place : ℕ
  pub entry : Entry

-- records of one block, put before those behind them: the newest first
abbrev pub records_onto : (log place : ℕ) → List Logged → List Record → List Logged
records_onto log place behind [] = behind
records_onto log place behind (r ∷ rs) = records_onto log place (record { place = place; entry = entry_of log r } ∷ behind) rs

abbrev pub records_or : Option (List Record) → List Record
records_or (Some rs) = rs
records_or None = []

-- the records of a run, the newest first
abbrev pub logged_onto : (generation log n : ℕ) → List Logged → List Block → List Logged
logged_onto generation log n behind [] = behind
logged_onto generation log n behind (b ∷ bs) = logged_onto generation log n (records_onto log (b.number % n) behind (records_or (block_in generation log b.number b.bytes))) bs

abbrev pub entries_in : List Logged → List Entry
entries_in xs = map (λ x. x.entry) xs

-- each block is the block of some records
abbrev pub AreReadable : (generation log : ℕ) → List Block → Type 0
AreReadable generation log [] = Unit {0}
AreReadable generation log (b ∷ bs) = ((records : List Record) × (block_in generation log b.number b.bytes ≡ Some records)) × AreReadable generation log bs

-- the generations of the first n blocks whose seals fit
abbrev pub sealed_in : ℕ → List ℕ → List ℕ
sealed_in zero area = []
sealed_in (suc n) area = if is_sealed (piece 2048 n area) then generation_of (piece 2048 n area) ∷ sealed_in n area else sealed_in n area

-- no block of the generation stands at a place of a ring of n blocks with these bytes
abbrev pub HasNone : (generation n : ℕ) → List ℕ → Type 0
HasNone generation n bytes = (p : ℕ) → p < n → IsSealed (piece 2048 p bytes) → generation_of (piece 2048 p bytes) ≡ generation → ⊥
