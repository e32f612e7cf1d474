use Rattle.std.proofs.Common.{take, arith}
use Rattle.log_record.specs.Spelling.{pair_text}
use Rattle.log_record.proofs.ItemLemmas.{each_long, pair_long}
use Rattle.log_record.proofs.items.pairs_size.Goals as goal

pub returns-clause-spelled : goal.returns-clause-spelled
returns-clause-spelled c = let long = each_long pair_text 16 pair_long (take c.args.pairs.now.count c.args.pairs.now.pairs) in omega arith
