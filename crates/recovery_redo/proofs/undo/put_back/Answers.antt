use Rattle.std.proofs.Common.{get_or, refl}
use Rattle.recovery_redo.proofs.SetLemmas.{none_beyond, holds_here, has_here, set_here, with_own}
use Rattle.record_redo.proofs.PageLemmas.{keeps_set}
use Rattle.page_model.specs.Nodes.{holds}
use Rattle.node_tree.specs.Nodes.{nodes_of}
use Rattle.recovery_redo.proofs.MarkLemmas.{marks_set}
use Rattle.recovery_redo.proofs.undo.put_back.Goals as goal

pub returns-then-key-eq18446744073709551615-clause-answer : goal.returns-then-key-eq18446744073709551615-clause-answer
returns-then-key-eq18446744073709551615-clause-answer c = none_beyond c.args.pages.now c.args.key c.requires.tree c.if-key-eq18446744073709551615.true

pub set_word-requires : goal.set_word-requires
set_word-requires c = holds_here c.args.pages.now c.args.key c.requires.tree c.leaf_of-at.result c.index-pages-at.result c.leaf_of-at.ensures.page c.leaf_of-at.ensures.leaf

pub returns-then-not-set_word-clause-answer : goal.returns-then-not-set_word-clause-answer
returns-then-not-set_word-clause-answer c =
    has_here c.args.pages.now c.args.key c.requires.tree c.leaf_of-at.result c.index-pages-at.result c.leaf_of-at.ensures.page c.leaf_of-at.ensures.leaf
    Rattle.std.proofs.Common.false c.if-not-set_word.ensures.answer

pub returns-clause-answer : goal.returns-clause-answer
returns-clause-answer c =
    has_here c.args.pages.now c.args.key c.requires.tree c.leaf_of-at.result c.index-pages-at.result c.leaf_of-at.ensures.page c.leaf_of-at.ensures.leaf
    Rattle.std.proofs.Common.true c.if-not-set_word.ensures.answer

pub returns-clause-after : goal.returns-clause-after
returns-clause-after c = λ _.
    set_here c.args.pages.now c.args.key c.requires.tree c.leaf_of-at.result c.index-pages-at.result c.leaf_of-at.ensures.page c.leaf_of-at.ensures.leaf
    c.args.word c.set_word.new.node (c.if-not-set_word.ensures.after refl)

pub returns-clause-kept : goal.returns-clause-kept
returns-clause-kept c = λ _.
    keeps_set c.args.pages.now c.args.changed.now c.leaf_of-at.result c.index-pages-at.result c.set_word.new.node c.requires.marks c.leaf_of-at.ensures.page
    (with_own (get_or c.args.pages.now c.leaf_of-at.result c.index-pages-at.result) c.set_word.new.node c.args.word c.args.key (c.if-not-set_word.ensures.after refl))

pub returns-clause-only : goal.returns-clause-only
returns-clause-only c = λ _. marks_set (λ p. holds (nodes_of c.args.pages.now p) c.args.key) c.args.changed.now c.leaf_of-at.result c.leaf_of-at.ensures.leaf
