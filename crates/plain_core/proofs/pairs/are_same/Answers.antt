use Rattle.std.proofs.Common.{◌∙◌}
use Rattle.plain_core.proofs.Sameness.{same_pairs}
use Rattle.plain_core.proofs.pairs.are_same.Goals as goal

pub returns : goal.returns
returns c = c.eq.ensures ∙ same_pairs c.args.pairs.now c.args.others.now
