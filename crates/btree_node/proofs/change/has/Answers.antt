use Rattle.std.proofs.Common.{◌∙◌}
use Rattle.std.proofs.lemmas.List.Sorted.{searched}
use Rattle.btree_node.proofs.PurgeLemmas.{any-in, searched-in}
use Rattle.btree_node.proofs.change.has.Goals as goal

pub returns-then-rise : goal.returns-then-rise
returns-then-rise c = c.is_ok.ensures.value ∙ searched-in c.args.key c.args.keys.now c.binary_search.result (searched c.args.keys.now c.args.key c.binary_search.result c.binary_search.ensures.position (λ i j. c.requires c.if-rise.true i j 0))

pub returns-else-rise : goal.returns-else-rise
returns-else-rise c = c.contains.ensures.value ∙ any-in c.args.key c.args.keys.now
