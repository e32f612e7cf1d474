use Rattle.std.proofs.Common.{◌<◌, length, sym, ◌∙◌, arith}
use Rattle.buffered_engine.specs.disk_image.Formats.{format_of}
use Rattle.node_tree.specs.Nodes.{nodes_of}
use Rattle.engine_tests.proofs.trees.leaf_in.Goals as goal

pub leaf_of-requires-clause-tree : goal.leaf_of-requires-clause-tree
leaf_of-requires-clause-tree c =
    let pages = c.args.pages.now in
    let some : 0 < length pages = grind arith in
    (c.every_check.ensures (format_of (length pages)) (nodes_of pages)).sound some (sym c.in-Ok-None.ensures ∙ c.in-Ok-None.field-0-is)
