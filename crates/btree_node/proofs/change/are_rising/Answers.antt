use Rattle.std.specs.List.Sorted.{IsNonDecreasing}
use Rattle.std.proofs.lemmas.Bool.{MatchBool-at_true}
use Rattle.std.proofs.lemmas.List.Sorted.{non_decreasing_from_is_sorted}
use Rattle.btree_node.proofs.change.are_rising.Goals as goal

pub returns : goal.returns
returns c e = MatchBool-at_true (IsNonDecreasing c.args.keys.now) _ e (non_decreasing_from_is_sorted c.args.keys.now c.is_sorted.result c.is_sorted.ensures.cases)
