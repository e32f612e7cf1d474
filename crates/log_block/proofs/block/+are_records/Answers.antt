use Rattle.std.proofs.Common.{◌≡◌, ◌∷◌, [], refl, sym, arith}
use Rattle.log_record.proofs.RecordLemmas.{found}
use Rattle.log_block.specs.Block.{records_text}
use Rattle.log_block.proofs.BlockLemmas.{lists_more, lists_rest, lists_begin}
use Rattle.log_block.proofs.block.+are_records.Goals as goal

pub returns-in-None-clause-none : goal.returns-in-None-clause-none
returns-in-None-clause-none t c is [] listed = let many : 0 ≡ c.args.count = listed.many in absurd (c.if-count-eq0.false (sym many))
returns-in-None-clause-none t c is (r ∷ records) listed = c.in-None.ensures.cause r _ (lists_begin c.args.bytes.now r c.args.count records listed)

pub returns-in-Some-clause-some : goal.returns-in-Some-clause-some
returns-in-Some-clause-some t c is =
    let m = c.are_records.ensures.some is in
    let other : c.args.count ≡ 0 → ⊥ = c.if-count-eq0.false in
    let a = c.in-Some.ensures.answer in
    (a.0 ∷ m.0, lists_more c.args.bytes.now _ a.0 c.in-Some.head.size c.args.count m.0 a.1 refl (omega arith) m.1)

pub returns-in-Some-clause-none : goal.returns-in-Some-clause-none
returns-in-Some-clause-none t c is [] listed = let many : 0 ≡ c.args.count = listed.many in absurd (c.if-count-eq0.false (sym many))
returns-in-Some-clause-none t c is (r ∷ records) listed =
    let other : c.args.count ≡ 0 → ⊥ = c.if-count-eq0.false in
    let a = c.in-Some.ensures.answer in
    let f = found c.args.bytes.now r a.0 c.in-Some.head.size (records_text records) a.1 listed.fit.0 listed.spelled in
    c.are_records.ensures.none is records (lists_rest c.args.bytes.now _ c.in-Some.head.size c.args.count r records refl f.0 (omega arith) listed)
