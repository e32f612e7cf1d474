use Rattle.std.proofs.Common.{◌∙◌}
use Rattle.btree_node.proofs.PlaceLemmas.{route-found, route-between, gap-positive}
use Rattle.btree_node.proofs.Node.route.Goals as goal

pub returns-in-Ok : goal.returns-in-Ok
returns-in-Ok c = let v = c.args.self.now in c.word_at.ensures ∙ route-found v.node.low v.node.high c.args.key c.in-Ok.at v.node.pairs c.in-Ok.ensures.fits.ordered c.in-Ok.ensures.found

pub returns-in-Err : goal.returns-in-Err
returns-in-Err c =
    let ps = c.args.self.now.node.pairs in
    c.word_at-in-Err.ensures ∙ route-between c.args.key c.in-Err.at ps c.in-Err.ensures.gap (gap-positive c.args.key ps c.in-Err.at c.in-Err.ensures.gap c.requires.inner c.requires.above)
