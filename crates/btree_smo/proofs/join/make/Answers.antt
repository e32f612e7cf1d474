use Rattle.std.proofs.Common.{sym, subst}
use Rattle.btree_smo.specs.Inside.Joining.{IsMerged}
use Rattle.btree_smo.proofs.JoinedPages.{both_formed, merged}
use Rattle.btree_smo.proofs.join.make.Goals as goal

pub merge-requires-clause-fences : goal.merge-requires-clause-fences
merge-requires-clause-fences g c =
    let r = c.requires in
    both_formed c.args.joining r.three r.joining r.actor r.sound

pub finish-requires-clause-merged : goal.finish-requires-clause-merged
finish-requires-clause-merged g c =
    let r = c.requires in
    let l = c.args.joining in
    let e = c.merge.ensures in
    let it = merged l r.three r.joining r.actor r.sound c.args.number c.merge.new.left c.merge.new.right c.merge.new.parent r.number e.left e.right e.parent e.short.0 e.short.1 e.short.2 in
    let z = g.R.Rows.shape c.args.rows.now in
    let v = g.R.Rows.view c.args.seat.now in
    let a = c.args.first.row in
    let b = c.args.second.row in
    let d = c.args.third.row in
    subst (λ x. IsMerged z v c.args.worker x c.number-2.result c.number-3.result a b d c.merge.new.left c.merge.new.right c.merge.new.parent) (sym c.number.ensures)
    (subst (λ x. IsMerged z v c.args.worker l.left.number x c.number-3.result a b d c.merge.new.left c.merge.new.right c.merge.new.parent) (sym c.number-2.ensures)
    (subst (λ x. IsMerged z v c.args.worker l.left.number l.right.number x a b d c.merge.new.left c.merge.new.right c.merge.new.parent) (sym c.number-3.ensures) it))
