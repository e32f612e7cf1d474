use Rattle.std.proofs.Common.{ap, ◌∙◌}
use Rattle.page_model.specs.Page.{with_pairs}
use Rattle.btree_node.proofs.PlaceLemmas.{at-put}
use Rattle.btree_node.proofs.Node.put.Goals as goal

pub returns-in-Ok-clause-after : goal.returns-in-Ok-clause-after
returns-in-Ok-clause-after c _ = c.set_word_at.ensures.after ∙ ap (with_pairs c.args.self.now) (at-put c.args.key c.args.word c.args.self.now.node.pairs c.in-Ok.at c.in-Ok.ensures.found)
