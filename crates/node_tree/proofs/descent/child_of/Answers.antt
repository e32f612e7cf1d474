use Rattle.std.proofs.Common.{◌∙◌, sym, ap}
use Rattle.page_model.specs.Pairs.{route}
use Rattle.page_model.specs.Nodes.{Node}
use Rattle.node_tree.proofs.PairLemmas.{node_at}
use Rattle.node_tree.proofs.WayLemmas.{way_down}
use Rattle.node_tree.proofs.descent.child_of.Goals as goal

pub returns-clause-way : goal.returns-clause-way
returns-clause-way c =
    let e = node_at c.args.pages.now c.args.page c.index-pages-page.result c.requires.way.within c.index-pages-page.is in
    (way_down c.args.pages.now c.args.key c.requires.tree c.every_tree.ensures c.args.page c.route.result c.requires.way c.requires.inner (c.route.ensures ∙ ap (λ (v : Node). route v.pairs c.args.key 0) (sym e))).0

pub returns-clause-level : goal.returns-clause-level
returns-clause-level c =
    let e = node_at c.args.pages.now c.args.page c.index-pages-page.result c.requires.way.within c.index-pages-page.is in
    (way_down c.args.pages.now c.args.key c.requires.tree c.every_tree.ensures c.args.page c.route.result c.requires.way c.requires.inner (c.route.ensures ∙ ap (λ (v : Node). route v.pairs c.args.key 0) (sym e))).1
