use Rattle.std.proofs.Common.{arith}
use Rattle.lean_bytes.specs.Numbers.{AreBytes}
use Rattle.lean_bytes.proofs.NumberLemmas.{words-read, words-fit}
use Rattle.lean_bytes.proofs.numbers.take_words.Goals as goal

pub returns-clause-after : goal.returns-clause-after
returns-clause-after c =
    let b : AreBytes c.args.bytes.now = record { byte = λ k. let f = c.type_inv.bytes k in omega arith } in
    words-read c.read_u64_into.new.dst c.args.bytes.now (let l = c.read_u64_into.auto.dst in omega arith) b c.read_u64_into.ensures

pub returns-clause-fits : goal.returns-clause-fits
returns-clause-fits c =
    let b : AreBytes c.args.bytes.now = record { byte = λ k. let f = c.type_inv.bytes k in omega arith } in
    words-fit c.read_u64_into.new.dst c.args.bytes.now b c.read_u64_into.ensures
