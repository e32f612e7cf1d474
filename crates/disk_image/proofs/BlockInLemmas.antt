-- Seals, and the records of a block.
use Rattle.std.proofs.Common.{◌≡◌, ◌≤◌, ◌-◌, ℕ, zero, suc, Bool, true, cond, ◌&&◌, leb, ◌==◌, List, [], ◌∷◌, ◌++◌, length, take, drop, replicate, Option, Some, None, bytes_eq, refl, sym, ap, subst, ◌∙◌, arith}
use mathlib.Core.List.{append_assoc}
use Rattle.std.proofs.lemmas.Bool.{and_parts, and_from, leb-true, le-leb, eqb-true, eq-eqb, cond-true}
use Rattle.std.proofs.lemmas.List.{take_at, drop_at}
use Rattle.std.proofs.lemmas.Slice.Eq.{bytes_eq-Decides}
use Rattle.page_model.specs.Check.{is_nil}
use Rattle.lean_bytes.specs.Numbers.{number_bytes}
use Rattle.log_record.specs.Spelling.{record_text}
use Rattle.log_record.specs.Reading.{record_in}
use Rattle.log_record.specs.declared.record.Record.{Record}
use Rattle.log_record.proofs.NumberCuts.{drop_next, number_there}
use Rattle.log_record.proofs.ReadingLemmas.{record_found, every_record_in}
use Rattle.log_block.specs.Block.{header_text, body_text, seal_text, block_text, generation_of, log_of, block_of, IsSealed, Belongs, records_text, AllFit, Lists, IsBlock}
use Rattle.log_block.proofs.BlockLemmas.{header_spread, records_long}
use Rattle.disk_image.specs.Blocks.{cons_of, with_first, records_in, is_sealed, belongs, payload_of, count_of, block_in}
use Rattle.disk_image.specs.Laws.{EverySealed, EveryBelongs, EveryBlockIn}
use Rattle.disk_image.proofs.TestLemmas.{if_option, if_some, some_is, none_some, nil_to}

-- ## Seals

sealed_to : (bytes : List ℕ) → is_sealed bytes ≡ true → IsSealed bytes
sealed_to bytes h =
    let a = and_parts (length bytes == 2048) (bytes_eq (drop 2032 bytes) (seal_text (take 2032 bytes))) h in
    let whole = eqb-true (length bytes) 2048 a.0 in
    let at : length bytes - 16 ≡ 2032 = omega arith in
    record { whole = whole; seal = ap (λ j. drop j bytes) at ∙ (bytes_eq-Decides (drop 2032 bytes) (seal_text (take 2032 bytes))).0 a.1 ∙ ap (λ j. seal_text (take j bytes)) (sym at) }

sealed_from : (bytes : List ℕ) → IsSealed bytes → is_sealed bytes ≡ true
sealed_from bytes s =
    let whole = s.whole in
    let at : length bytes - 16 ≡ 2032 = omega arith in
    and_from (length bytes == 2048) (bytes_eq (drop 2032 bytes) (seal_text (take 2032 bytes))) (eq-eqb (length bytes) 2048 whole)
    ((bytes_eq-Decides (drop 2032 bytes) (seal_text (take 2032 bytes))).1 (ap (λ j. drop j bytes) (sym at) ∙ s.seal ∙ ap (λ j. seal_text (take j bytes)) at))

pub every_sealed : EverySealed
every_sealed bytes = (sealed_to bytes, sealed_from bytes)

module _ (generation log block : ℕ) (bytes : List ℕ) where
  abbrev numbers : Bool
  numbers = (generation_of bytes == generation) && ((log_of bytes == log) && (block_of bytes == block))

  belongs_to : belongs generation log block bytes ≡ true → Belongs generation log block bytes
  belongs_to h =
      let a = and_parts (is_sealed bytes) numbers h in
      let b = and_parts (generation_of bytes == generation) ((log_of bytes == log) && (block_of bytes == block)) a.1 in
      let c = and_parts (log_of bytes == log) (block_of bytes == block) b.1 in
      record {
        sealed = sealed_to bytes a.0;
        of_generation = eqb-true (generation_of bytes) generation b.0;
        of_log = eqb-true (log_of bytes) log c.0;
        of_block = eqb-true (block_of bytes) block c.1;
      }

  pub belongs_from : Belongs generation log block bytes → belongs generation log block bytes ≡ true
  belongs_from s =
      and_from (is_sealed bytes) numbers (sealed_from bytes s.sealed)
      (and_from (generation_of bytes == generation) ((log_of bytes == log) && (block_of bytes == block)) (eq-eqb (generation_of bytes) generation s.of_generation)
      (and_from (log_of bytes == log) (block_of bytes == block) (eq-eqb (log_of bytes) log s.of_log) (eq-eqb (block_of bytes) block s.of_block)))

pub every_belongs : EveryBelongs
every_belongs generation log block bytes = (belongs_to generation log block bytes, belongs_from generation log block bytes)

-- ## Records behind one another

-- the first record, and those behind it
record Firsts (o : Option Record) (behind : Record → Option (List Record)) (rs : List Record) : Type 0 where
  first : Record
  others : List Record
  is : o ≡ Some first
  more : behind first ≡ Some others
  joined : first ∷ others ≡ rs

firsts : (o : Option Record) (behind : Record → Option (List Record)) (rs : List Record) → with_first o behind ≡ Some rs → Firsts o behind rs
firsts None behind rs h = absurd (none_some rs h)
firsts (Some r) behind rs h = go (behind r) refl
  where
    go : (z : Option (List Record)) → behind r ≡ z → Firsts (Some r) behind rs
    go None e = absurd (none_some rs (sym (ap (cons_of r) e) ∙ h))
    go (Some us) e = record { first = r; others = us; is = refl; more = e; joined = some_is (r ∷ us) rs (sym (ap (cons_of r) e) ∙ h) }

records_to : (n : ℕ) (bytes : List ℕ) (rs : List Record) → records_in n bytes ≡ Some rs → Lists rs n bytes
records_to zero bytes rs h =
    let a = if_some {A = List Record} (is_nil bytes) [] rs h in
    subst (λ (us : List Record). Lists us 0 bytes) a.1 (record { fit = tt; many = refl; spelled = nil_to bytes a.0 })
records_to (suc n) bytes rs h =
    let f = firsts (record_in bytes) (λ r. records_in n (drop (length (record_text r)) bytes)) rs h in
    let r = f.first in
    let b = (every_record_in bytes r).0 f.is in
    let more = records_to n (drop (length (record_text r)) bytes) f.others f.more in
    let behind : drop (length (record_text r)) bytes ≡ b.rest = ap (drop (length (record_text r))) b.spelled ∙ drop_at (record_text r) b.rest (length (record_text r)) refl in
    subst (λ (us : List Record). Lists us (suc n) bytes) f.joined (record {
      fit = (b.fits, more.fit);
      many = ap suc more.many;
      spelled = b.spelled ∙ ap (λ (us : List ℕ). record_text r ++ us) (sym behind ∙ more.spelled);
    })

records_from : (rs : List Record) → AllFit rs → records_in (length rs) (records_text rs) ≡ Some rs
records_from [] f = refl
records_from (r ∷ rs) f =
    let behind : Record → Option (List Record) = λ x. records_in (length rs) (drop (length (record_text x)) (record_text r ++ records_text rs)) in
    ap (λ (o : Option Record). with_first o behind) (record_found (record_text r ++ records_text rs) (records_text rs) r f.0 refl)
    ∙ ap (λ (us : List ℕ). cons_of r (records_in (length rs) us)) (drop_at (record_text r) (records_text rs) (length (record_text r)) refl)
    ∙ ap (cons_of r) (records_from rs f.1)

-- ## A block

module _ (generation log block : ℕ) (bytes : List ℕ) where
  abbrev is_text : ℕ → List ℕ → Bool
  is_text count payload = leb (length payload) 2000 && bytes_eq bytes (block_text generation log block count payload)

  -- the records of a payload, where the bytes are its block
  abbrev block_if : ℕ → List ℕ → Option (List Record)
  block_if count payload = cond (is_text count payload) (records_in count payload) None

  block_to : (count : ℕ) (payload : List ℕ) (rs : List Record) → block_if count payload ≡ Some rs → IsBlock generation log block bytes rs
  block_to count payload rs h =
      let a = if_option (is_text count payload) (records_in count payload) rs h in
      let b = and_parts (leb (length payload) 2000) (bytes_eq bytes (block_text generation log block count payload)) a.0 in
      let l = records_to count payload rs a.1 in
      let few : length payload ≤ 2000 = leb-true (length payload) 2000 b.0 in
      record {
        fit = l.fit;
        room = subst (λ (us : List ℕ). length us ≤ 2000) l.spelled few;
        spelled = (bytes_eq-Decides bytes (block_text generation log block count payload)).0 b.1
            ∙ ap (λ c. block_text generation log block c payload) (sym l.many) ∙ ap (λ (us : List ℕ). block_text generation log block (length rs) us) l.spelled;
      }

  block_from : (rs : List Record) → IsBlock generation log block bytes rs → block_in generation log block bytes ≡ Some rs
  block_from rs s =
      let payload = records_text rs in
      let n = length payload in
      let c = length rs in
      let few = s.room in
      let many = records_long rs in
      let zeros : List ℕ = replicate (2000 - n) 0 in
      let seal = seal_text (body_text generation log block c payload) in
      let rest = (payload ++ zeros) ++ seal in
      let spread = s.spelled ∙ append_assoc (header_text generation log block n c) (payload ++ zeros) seal
      ∙ header_spread (number_bytes 8 generation) (number_bytes 8 log) (number_bytes 8 block) (number_bytes 4 n) (number_bytes 4 c) rest in
      let d8 = drop_next 8 8 0 generation bytes _ spread refl in
      let d16 = drop_next 8 16 8 log bytes _ d8 refl in
      let d24 = drop_next 8 24 16 block bytes _ d16 refl in
      let d28 = drop_next 4 28 24 n bytes _ d24 refl in
      let d32 = drop_next 4 32 28 c bytes rest d28 refl in
      let count = number_there 4 28 c bytes _ d28 (omega arith) in
      let long = number_there 4 24 n bytes _ d24 (omega arith) in
      let prefix : payload_of bytes ≡ payload =
      ap (λ j. take j (drop 32 bytes)) long ∙ ap (take n) (d32 ∙ append_assoc payload zeros seal) ∙ take_at payload (zeros ++ seal) n refl in
      ap (λ j. block_if j (payload_of bytes)) count ∙ ap (block_if c) prefix
      ∙ cond-true (is_text c payload) (records_in c payload) None
      (and_from (leb n 2000) (bytes_eq bytes (block_text generation log block c payload)) (le-leb n 2000 few) ((bytes_eq-Decides bytes (block_text generation log block c payload)).1 s.spelled))
      ∙ records_from rs s.fit

pub every_block_in : EveryBlockIn
every_block_in generation log block bytes records = (block_to generation log block bytes (count_of bytes) (payload_of bytes) records, block_from generation log block bytes records)
