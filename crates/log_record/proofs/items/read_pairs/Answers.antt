use Rattle.std.proofs.Common.{◌≡◌, ◌+◌, ◌*◌, ℕ, length, ap, sym, subst, ◌∙◌, arith}
use Rattle.std.specs.Prelude.{replicate}
use Rattle.log_record.specs.Spelling.{no_pair}
use Rattle.log_record.specs.Inside.{PairsStand}
use Rattle.log_record.proofs.ItemLemmas.{places, pairs_stand, no_pairs_short}
use Rattle.log_record.proofs.items.read_pairs.Goals as goal

pub returns-then-rest-many-clause-cause : goal.returns-then-rest-many-clause-cause
returns-then-rest-many-clause-cause c ps rest f e = no_pairs_short c.args.bytes.now c.split_byte-count.result.1.now rest c.split_byte-count.result.0 ps c.split_byte-count.ensures.prefix f e c.if-rest-many.true

pub returns-clause-answer : goal.returns-clause-answer
returns-clause-answer c =
    let count = c.split_byte-count.result.0 in
    let old = c.args.into.now.pairs in
    let all : length old ≡ 60 = omega arith in
    let p = places count old c.fill_pairs.new.pairs c.clear_pairs.new.pairs all c.if-many-gt-MOST.false c.fill_pairs.auto.pairs in
    subst (λ zs. PairsStand c.args.bytes.now (record { count = count; pairs = zs }) (1 + 16 * count)) (sym p.is)
    (pairs_stand c.args.bytes.now c.split_byte-count.result.1.now count c.fill_pairs.new.pairs c.clear_pairs.new.pairs c.split_byte-count.ensures.prefix p.some c.if-many-gt-MOST.false
    (c.clear_pairs.ensures ∙ ap (λ (m : ℕ). replicate m no_pair) p.others) c.fill_pairs.ensures)
