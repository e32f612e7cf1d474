use Rattle.std.proofs.Common.{◌≡◌, take}
use Rattle.std.specs.Prelude.{replicate}
use Rattle.log_record.specs.Spelling.{no_pair}
use Rattle.log_record.proofs.items.clear_pairs.Given as goal

abbrev pub invariant-loop-i : goal.invariant-loop-i
invariant-loop-i l = take l.i l.pairs ≡ replicate l.i no_pair
