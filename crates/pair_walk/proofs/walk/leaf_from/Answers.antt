use Rattle.std.proofs.Common.{length, inr, refl}
use Rattle.disk_image.specs.Formats.{format_of}
use Rattle.node_tree.specs.Nodes.{nodes_of}
use Rattle.page_model.proofs.Entries.{holds_to}
use Rattle.page_model.proofs.Tree.{below_top}
use Rattle.pair_walk.proofs.LeafLemmas.{begins, listed}
use Rattle.pair_walk.proofs.walk.leaf_from.Goals as goal

pub returns-clause-pairs : goal.returns-clause-pairs
returns-clause-pairs c =
    let f = format_of (length c.args.pages.now) in
    let node = nodes_of c.args.pages.now in
    let w = holds_to (node c.leaf_of.result) c.args.fence c.leaf_of.ensures.leaf in
    listed f node c.requires.tree c.args.fence c.leaf_of.result c.leaf_of.ensures.page w
    (begins f node c.requires.tree c.args.fence c.leaf_of.result c.leaf_of.ensures.page w c.requires.fence)

pub returns-clause-within : goal.returns-clause-within
returns-clause-within c =
    let node = nodes_of c.args.pages.now in
    let w = holds_to (node c.leaf_of.result) c.args.fence c.leaf_of.ensures.leaf in
    below_top (format_of (length c.args.pages.now)) node c.requires.tree c.leaf_of.result c.leaf_of.ensures.page w.lies.live

pub returns-clause-later : goal.returns-clause-later
returns-clause-later c = (holds_to (nodes_of c.args.pages.now c.leaf_of.result) c.args.fence c.leaf_of.ensures.leaf).lies.high

pub returns-clause-next : goal.returns-clause-next
returns-clause-next c = inr (record { page = c.leaf_of.result; within = c.leaf_of.ensures.page; key = c.args.fence; has = c.leaf_of.ensures.leaf; high = refl })
