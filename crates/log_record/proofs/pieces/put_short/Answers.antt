use Rattle.std.proofs.Common.{◌-◌, ◌+◌, arith, refl}
use Rattle.lean_bytes.specs.Numbers.{number_bytes}
use Rattle.lean_bytes.proofs.NumberLemmas.{number-put, length-number_bytes}
use Rattle.log_record.proofs.HoldLemmas.{holds_more}
use Rattle.log_record.proofs.pieces.put_short.Goals as goal

pub returns-clause-written : goal.returns-clause-written
unfolding number_bytes
returns-clause-written c prefix first was =
    holds_more prefix first c.args.into.now _ (number_bytes 4 c.args.number) c.args.at 4 (length-number_bytes 4 c.args.number) was
    (number-put 4 c.args.at (c.args.at + 4 - c.args.at) c.args.into.now (number_bytes 4 c.args.number) c.write_u32.new.buf refl (omega arith) c.write_u32.ensures)
