use Rattle.std.proofs.Common.{◌<◌, ◌∙◌, length, sym, arith}
use Rattle.disk_image.specs.Formats.{format_of}
use Rattle.node_tree.specs.Nodes.{nodes_of}
use Rattle.row_bench.proofs.over_nodes.Goals as goal

pub finds_in_nodes-sum-requires : goal.finds_in_nodes-sum-requires
finds_in_nodes-sum-requires c =
    let pages = c.args.pages.now in
    let some : 0 < length pages = grind arith in
    (c.every_check.ensures (format_of (length pages)) (nodes_of pages)).sound some (sym c.in_ok-first_break.ensures ∙ c.in-None.is)
