-- The numbers of records that are read from a log are within their bounds.
use Rattle.std.proofs.Common.{◌≡◌, inl, inr, ◌<◌, ◌%◌, ◌^◌, ℕ, List, [], ◌∷◌, Option, sym, ap, subst, arith}
use Rattle.map_model.specs.Lists.{Has}
use Rattle.buffered_engine.specs.image_model.Entries.{Entry}
use Rattle.buffered_engine.specs.log_record.Spelling.{Fits}
use Rattle.buffered_engine.specs.log_record.declared.record.Record.{Record}
use Rattle.buffered_engine.specs.log_block.Block.{AllFit}
use Rattle.buffered_engine.specs.disk_image.Blocks.{block_in}
use Rattle.buffered_engine.specs.disk_image.Laws.{EveryBlockIn}
use Rattle.buffered_engine.specs.disk_image.Records.{entry_of}
use Rattle.buffered_engine.specs.disk_image.Runs.{AreReadable, Block, Logged, entries_in, logged_onto, records_onto, records_or}

pub record IsBounded (log : ℕ) (e : Entry) : Type 0 where
  pub log_is : e.log ≡ log
  pub txn : e.txn < 2 ^ 64
  pub number : e.number < 2 ^ 64

abbrev AreBounded : ℕ → List Entry → Type 0
AreBounded log es = (e : Entry) → Has e es → IsBounded log e

from_records : (log place : ℕ) (behind : List Logged) (rs : List Record) → AllFit rs → AreBounded log (entries_in behind) → AreBounded log (entries_in (records_onto log place behind rs))
from_records log place behind [] fit old = old
from_records log place behind (r ∷ rs) fit old = from_records log place (record { place = place; entry = entry_of log r } ∷ behind) rs fit.1 one
  where
    one : AreBounded log (entry_of log r ∷ entries_in behind)
    one e (inr i) = old e i
    one e (inl is) =
        let f : Fits r = fit.0 in
        let a = f.txn in
        let b = f.gsn in
        let p : e.txn ≡ r.txn = ap (λ (x : Entry). x.txn) is in
        let q : e.number ≡ r.gsn = ap (λ (x : Entry). x.number) is in
        record { log_is = ap (λ (x : Entry). x.log) is; txn = omega arith; number = omega arith }

from_blocks : EveryBlockIn → (generation log n : ℕ) (behind : List Logged) (bs : List Block) → AreReadable generation log bs → AreBounded log (entries_in behind) → AreBounded log (entries_in (logged_onto generation log n behind bs))
from_blocks blocks generation log n behind [] r old = old
from_blocks blocks generation log n behind (b ∷ bs) r old =
    from_blocks blocks generation log n (records_onto log (b.number % n) behind (records_or (block_in generation log b.number b.bytes))) bs r.1
    (from_records log (b.number % n) behind (records_or (block_in generation log b.number b.bytes)) fit old)
  where
    fit : AllFit (records_or (block_in generation log b.number b.bytes))
    fit = subst (λ (o : Option (List Record)). AllFit (records_or o)) (sym r.0.1) ((blocks generation log b.number b.bytes r.0.0).0 r.0.1).fit

pub bounded : EveryBlockIn → (generation log n : ℕ) (bs : List Block) → AreReadable generation log bs → (e : Entry) → Has e (entries_in (logged_onto generation log n [] bs)) → IsBounded log e
bounded blocks generation log n bs r = from_blocks blocks generation log n [] bs r (λ e i. absurd i)
