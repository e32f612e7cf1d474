use Rattle.std.proofs.Common.{◌≡◌, drop}
use Rattle.page_model.specs.Check.{all, word_ok}
use Rattle.disk_image.specs.Formats.{format_of}
use Rattle.node_tree.proofs.form.are_words.Given as goal

abbrev pub invariant-loop-i : goal.invariant-loop-i
invariant-loop-i l =
    let g = word_ok (format_of l.fn.pages) l.node.node in
    all g l.node.node.pairs ≡ all g (drop l.i l.node.node.pairs)
