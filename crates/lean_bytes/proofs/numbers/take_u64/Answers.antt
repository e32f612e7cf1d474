use Rattle.std.proofs.Common.{refl, ◌∙◌}
use Rattle.lean_bytes.specs.Numbers.{number_of}
use Rattle.lean_bytes.proofs.NumberLemmas.{number-taken}
use Rattle.lean_bytes.proofs.numbers.take_u64.Goals as goal

pub returns : goal.returns
unfolding number_of
returns c = c.read_u64.ensures ∙ number-taken 8 c.args.at _ c.args.bytes.now refl
