use Rattle.std.proofs.Common.{◌∙◌, arith}
use Rattle.workload.proofs.WordLemmas.{first_words}
use Rattle.workload.proofs.lines.Workload.new.Goals as goal

pub invariant_of-result : goal.invariant_of-result
invariant_of-result c = record { drawn = c.new.ensures ∙ first_words c.args.number; within = omega arith; so_far = omega arith; some = c.requires }
