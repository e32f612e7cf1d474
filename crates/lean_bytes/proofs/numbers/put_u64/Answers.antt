use Rattle.std.proofs.Common.{◌-◌, ◌+◌, arith, refl}
use Rattle.lean_bytes.specs.Numbers.{number_bytes}
use Rattle.lean_bytes.proofs.NumberLemmas.{number-put}
use Rattle.lean_bytes.proofs.numbers.put_u64.Goals as goal

pub returns : goal.returns
unfolding number_bytes
returns c =
    number-put 8 c.args.at (c.args.at + 8 - c.args.at) c.args.into.now (number_bytes 8 c.args.v) c.write_u64.new.buf refl (omega arith) c.write_u64.ensures
