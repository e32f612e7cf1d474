use Rattle.std.proofs.Common.{◌<◌, length, ◌∙◌, sym, arith}
use Rattle.disk_image.specs.Formats.{format_of}
use Rattle.node_tree.proofs.PairLemmas.{words_bad, words_more}
use Rattle.node_tree.proofs.form.are_words.Goals as goal

pub returns-then-not-is_word : goal.returns-then-not-is_word
returns-then-not-is_word c =
    let within : c.loop-i.i < length c.args.node.now.node.pairs = omega arith in
    words_bad (format_of c.args.pages) c.args.node.now.node c.loop-i.i within (sym c.is_word.ensures ∙ c.if-not-is_word.true) c.loop-i.invariant

pub loop-i-preserved : goal.loop-i-preserved
loop-i-preserved c =
    let within : c.loop-i.i < length c.args.node.now.node.pairs = omega arith in
    words_more (format_of c.args.pages) c.args.node.now.node c.loop-i.i within (sym c.is_word.ensures ∙ c.if-not-is_word.false) c.loop-i.invariant
