use Rattle.std.proofs.Common.{◌≡◌, length}
use Rattle.page_model.specs.Check as model
use Rattle.disk_image.specs.Formats.{format_of}
use Rattle.node_tree.specs.Nodes.{nodes_of}
use Rattle.node_tree.proofs.check.first_bad.Given as goal

abbrev pub invariant-loop-page : goal.invariant-loop-page
invariant-loop-page l = l.first ≡ model.first_bad l.page (model.page_ok (format_of (length l.pages)) (nodes_of l.pages))
