use Rattle.std.proofs.Common.{take, arith}
use Rattle.lean_bytes.specs.Numbers.{number_bytes}
use Rattle.log_record.proofs.ItemLemmas.{each_long, key_long}
use Rattle.log_record.proofs.items.keys_size.Goals as goal

pub returns-clause-spelled : goal.returns-clause-spelled
returns-clause-spelled c = let long = each_long (number_bytes 8) 8 key_long (take c.args.keys.now.count c.args.keys.now.keys) in omega arith
