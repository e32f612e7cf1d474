use Rattle.std.proofs.Common.{arith, refl}
use Rattle.lean_bytes.specs.Numbers.{number_of, AreBytes}
use Rattle.lean_bytes.proofs.NumberLemmas.{number-next}
use Rattle.log_record.proofs.pieces.split_word.Goals as goal

pub returns-clause-prefix : goal.returns-clause-prefix
unfolding number_of
returns-clause-prefix c =
    let b : AreBytes c.args.bytes.now = record { byte = λ k. let f = c.type_inv.bytes k in omega arith } in
    number-next 8 _ _ c.args.bytes.now c.requires b c.read_u64.ensures refl
