use Rattle.std.proofs.Common.{subst, sym}
use Rattle.disk_image.specs.btree_node.Words.{IsOrdered, pairs_of}
use Rattle.record_redo.proofs.MakeLemmas.{split_ordered, lift_ordered, join_ordered, drop_ordered}
use Rattle.record_redo.proofs.apply.make.Goals as goal

pub fill-requires-clause-ordered : goal.fill-requires-clause-ordered
fill-requires-clause-ordered c =
    let s = c.in-Split in
    split_ordered c.args.body.now s.left s.right s.parent s.separator s.high s.level s.pairs c.args.words.now s.is c.requires.sayable c.requires.words

pub append-requires-clause-ordered : goal.append-requires-clause-ordered
append-requires-clause-ordered c =
    let s = c.in-Join in
    join_ordered c.args.body.now s.left s.freed s.parent s.separator s.high s.pairs c.args.words.now c.args.page c.args.node.now.node s.is c.if-page-left-2.true c.requires.can c.requires.words

pub fill-requires-else-page-eq0-clause-ordered : goal.fill-requires-else-page-eq0-clause-ordered
fill-requires-else-page-eq0-clause-ordered c =
    let s = c.in-Lift in
    lift_ordered c.args.body.now s.root_prev s.child s.level s.pairs c.args.words.now s.is c.requires.sayable c.requires.words

pub fill-requires-then-page-eq0-2-clause-ordered : goal.fill-requires-then-page-eq0-2-clause-ordered
fill-requires-then-page-eq0-2-clause-ordered c =
    let s = c.in-DropRoot in
    let o = drop_ordered c.args.body.now s.root_prev s.child s.level s.pairs c.args.words.now c.args.page c.args.node.now.node s.is c.if-page-eq0-2.true c.requires.can c.requires.words in
    subst (λ low. IsOrdered low (pairs_of c.args.words.now) c.high-high-then-page-eq0-2.result) (sym c.low-low-then-page-eq0-2.ensures)
    (subst (λ high. IsOrdered c.args.node.now.node.low (pairs_of c.args.words.now) high) (sym c.high-high-then-page-eq0-2.ensures) o)
