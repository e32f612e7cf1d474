use Rattle.std.proofs.Common.{◌≡◌, List, Err, length, arith, ap}
use Rattle.log_record.specs.declared.record.Record.{Record}
use Rattle.log_block.specs.declared.block.Refusal.TheVariants.{Malformed}
use Rattle.log_block.specs.Block.{IsBlock, records_text}
use Rattle.log_block.proofs.BlockLemmas.{spells_records, spells_belongs, block_of_records, block_lists}
use Rattle.log_block.proofs.block.read_block.Goals as goal

pub returns-in-Err-clause-every : goal.returns-in-Err-clause-every
returns-in-Err-clause-every c records is =
    c.in-Err.ensures.every (length records) (records_text records) (spells_records c.args.generation c.args.log c.args.block c.args.bytes.now records is)

pub returns-in-Err-clause-cause_malformed : goal.returns-in-Err-clause-cause_malformed
returns-in-Err-clause-cause_malformed c bad =
    let same : c.in-Err.refusal ≡ Malformed = cc in
    let is = c.in-Err.ensures.cause_malformed (ap Err same) in
    (is.0, λ records block. is.1 (length records) (records_text records) (spells_records c.args.generation c.args.log c.args.block c.args.bytes.now records block))

not_listed : (c : goal.Then-not-are_records) (records : List Record) → IsBlock c.args.generation c.args.log c.args.block c.args.bytes.now records → ⊥
not_listed c records is =
    let opened = c.in-Ok.opened in
    c.are_records.ensures.none c.if-not-are_records.true records
    (block_lists c.args.generation c.args.log c.args.block opened.0 c.args.bytes.now opened.1.now records (omega arith) (omega arith) (omega arith) c.in-Ok.ensures.answer is)

pub returns-then-not-are_records-clause-every : goal.returns-then-not-are_records-clause-every
returns-then-not-are_records-clause-every c records is = absurd (not_listed c records is)

pub returns-then-not-are_records-clause-cause_malformed : goal.returns-then-not-are_records-clause-cause_malformed
returns-then-not-are_records-clause-cause_malformed c same =
    let opened = c.in-Ok.opened in
    (spells_belongs c.args.generation c.args.log c.args.block opened.0 c.args.bytes.now opened.1.now (omega arith) (omega arith) (omega arith) c.in-Ok.ensures.answer, not_listed c)

pub returns-clause-answer : goal.returns-clause-answer
returns-clause-answer c =
    let opened = c.in-Ok.opened in
    let listed = c.are_records.ensures.some c.if-not-are_records.false in
    record {
      records = listed.0;
      is = block_of_records c.args.generation c.args.log c.args.block opened.0 c.args.bytes.now opened.1.now listed.0 c.in-Ok.ensures.answer listed.1;
      spelled = listed.1.spelled;
    }
