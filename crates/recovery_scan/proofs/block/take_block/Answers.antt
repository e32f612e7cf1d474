use Rattle.std.proofs.Common.{inl, inr, ℕ, List, Err, length, ◌∙◌, ap, subst, arith}
use Rattle.disk_image.specs.log_block.Block.{records_text}
use Rattle.disk_image.proofs.log_block.BlockLemmas.{block_lists, block_of_records, spells_belongs, spells_records}
use Rattle.log_index.specs.Items.{Item}
use Rattle.disk_image.specs.Blocks.{block_in}
use Rattle.disk_image.proofs.BlockInLemmas.{every_block_in}
use Rattle.recovery_scan.specs.Inside.{IsLate, NoneIsLate}
use Rattle.recovery_scan.proofs.RunLemmas.{none-of}
use Rattle.recovery_scan.proofs.block.take_block.Goals as goal

pub returns-in-Err-Malformed-clause-cause_damaged : goal.returns-in-Err-Malformed-clause-cause_damaged
returns-in-Err-Malformed-clause-cause_damaged c bad =
    let is = c.open_block.ensures.cause_malformed (c.in-Err-Malformed.is ∙ ap Err c.in-Err-Malformed.field-0-is) in
    let g = c.args.generation in
    let w = c.args.log in
    let q = c.args.number in
    let bytes = c.args.bytes.now in
    record {
      belongs = is.0;
      bad = inl (none-of (block_in g w q bytes) (λ rs e. is.1 (length rs) (records_text rs) (spells_records g w q bytes rs ((every_block_in g w q bytes rs).0 e))));
    }

pub returns-in-Err-Malformed-push_block-clause-cause_damaged : goal.returns-in-Err-Malformed-push_block-clause-cause_damaged
returns-in-Err-Malformed-push_block-clause-cause_damaged c bad =
    let none = c.push_block.ensures.cause_malformed (c.in-Err-Malformed-push_block.is ∙ ap Err c.in-Err-Malformed-push_block.field-0-is) in
    let opened = c.in-Ok.opened in
    let g = c.args.generation in
    let w = c.args.log in
    let q = c.args.number in
    let bytes = c.args.bytes.now in
    record {
      belongs = spells_belongs g w q opened.0 bytes opened.1.now (omega arith) (omega arith) (omega arith) c.in-Ok.ensures.answer;
      bad = inl (none-of (block_in g w q bytes)
          (λ rs e. none rs (block_lists g w q opened.0 bytes opened.1.now rs (omega arith) (omega arith) (omega arith) c.in-Ok.ensures.answer ((every_block_in g w q bytes rs).0 e))));
    }

pub returns-then-rises-clause-added : goal.returns-then-rises-clause-added
returns-then-rises-clause-added c =
    let p = c.in-Ok-push_block.ensures.after in
    let opened = c.in-Ok.opened in
    let g = c.args.generation in
    let w = c.args.log in
    let q = c.args.number in
    let bytes = c.args.bytes.now in
    record {
      belongs = spells_belongs g w q opened.0 bytes opened.1.now (omega arith) (omega arith) (omega arith) c.in-Ok.ensures.answer;
      records = p.records;
      is = (every_block_in g w q bytes p.records).1 (block_of_records g w q opened.0 bytes opened.1.now p.records c.in-Ok.ensures.answer p.lists);
      added = p.added;
      rising = subst (λ (n : ℕ). NoneIsLate c.args.start n (length c.push_block.new.self) c.push_block.new.self) c.len-from.ensures (c.rises.ensures.yes c.if-rises.true);
    }

pub returns-clause-cause_damaged : goal.returns-clause-cause_damaged
returns-clause-cause_damaged c bad =
    let p = c.in-Ok-push_block.ensures.after in
    let opened = c.in-Ok.opened in
    let g = c.args.generation in
    let w = c.args.log in
    let q = c.args.number in
    let bytes = c.args.bytes.now in
    record {
      belongs = spells_belongs g w q opened.0 bytes opened.1.now (omega arith) (omega arith) (omega arith) c.in-Ok.ensures.answer;
      bad = inr (
        p.records,
        (every_block_in g w q bytes p.records).1 (block_of_records g w q opened.0 bytes opened.1.now p.records c.in-Ok.ensures.answer p.lists),
        subst (λ (xs : List Item). IsLate c.args.start (length c.args.index.now) xs) p.added
            (subst (λ (n : ℕ). IsLate c.args.start n c.push_block.new.self) c.len-from.ensures (c.rises.ensures.no c.if-rises.false)),
      );
    }
