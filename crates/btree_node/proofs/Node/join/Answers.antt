use Rattle.std.proofs.Common.{length, ap, ◌∙◌, arith}
use Rattle.btree_node.specs.Structure.{extended}
use Rattle.btree_node.proofs.FlatLemmas.{length-flat, words-pairs_of, words-whole}
use Rattle.btree_node.proofs.SpellingLemmas.{spells-view}
use Rattle.btree_node.proofs.StructureLemmas.{joined-ordered}
use Rattle.btree_node.proofs.Node.join.Goals as goal

pub append-requires-clause-room : goal.append-requires-clause-room
append-requires-clause-room c =
    let l = length-flat c.args.right.now.node.pairs in
    let e = ap length c.pairs.ensures.answer in
    let r = c.requires.room in
    omega arith

pub append-requires-clause-whole : goal.append-requires-clause-whole
append-requires-clause-whole c = words-whole c.pairs.result.now c.args.right.now.node.pairs c.pairs.ensures.answer

pub append-requires-clause-ordered : goal.append-requires-clause-ordered
append-requires-clause-ordered c =
    joined-ordered c.args.self.now c.args.right.now c.pairs.result.now c.high.result (spells-view _ _ c.self.view_is c.self.invariant).fits c.pairs.ensures.fits c.requires.neighbours c.requires.fences c.requires.right_fences c.pairs.ensures.answer c.high.ensures

pub returns-clause-left : goal.returns-clause-left
returns-clause-left c =
    let v = c.args.self.now in
    let u = c.args.right.now in
    c.append.ensures
    ∙ ap (extended v _) c.high.ensures
    ∙ ap (λ qs. extended v qs u.node.high) (words-pairs_of c.pairs.result.now u.node.pairs c.pairs.ensures.answer)
