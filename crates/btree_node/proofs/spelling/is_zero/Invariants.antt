use Rattle.std.proofs.Common.{◌≡◌, drop}
use Rattle.btree_node.specs.Inside.{all_zero}
use Rattle.btree_node.proofs.spelling.is_zero.Given as goal

abbrev pub invariant-loop-word : goal.invariant-loop-word
invariant-loop-word l = all_zero (drop l.word-index l.words) ≡ all_zero l.words
