use Rattle.std.proofs.Common.{refl, ◌∙◌, ◌++◌, subst, drop}
use Rattle.disk_image.specs.btree_node.Words.{words_of}
use Rattle.btree_descent.specs.row_words.declared.event.Event.TheVariants.{Join}
use Rattle.btree_descent.specs.rows_trait.Views.{Shape, held_at}
use Rattle.held_rows.specs.Rows.{Wrote}
use Rattle.held_rows.specs.Waits.{opens_three_as, may_as, changed_as, went_as, went_after}
use Rattle.btree_smo.proofs.PublishingThree.{three_waited, node_a, node_b, node_d, three_opened}
use Rattle.btree_smo.proofs.Merging.{may_merge, right_changed, parent_changed}
use Rattle.btree_smo.proofs.join.finish.Goals as goal

pub publish_three-requires-clause-three : goal.publish_three-requires-clause-three
publish_three-requires-clause-three g c =
    let u1 = g.R.Rows.view c.store.new.seat in
    let u2 = g.R.Rows.view c.store-2.new.seat in
    let u3 = g.R.Rows.view c.store-3.new.seat in
    let it = c.requires.merged in
    let n = c.args.event.now in
    let b = c.args.second.row in
    let d = c.args.third.row in
    let e = Join n.worker n.left n.right n.parent in
    let left = c.args.left.now in
    let right = c.args.right.now in
    let parent = c.args.parent.now in
    let f1 = c.store.ensures.fits in
    let f2 = c.store-2.ensures.fits in
    let f3 = c.store-3.ensures.fits in
    let w2 = subst (λ (y : Shape). Wrote y.alone b (words_of right ++ drop 126 (held_at u1.held b).now) u1 u2) f1.1 c.store-2.ensures.wrote in
    let w3 = subst (λ (y : Shape). Wrote y.alone d (words_of parent ++ drop 126 (held_at u2.held d).now) u2 u3) (f2.1 ∙ f1.1) c.store-3.ensures.wrote in
    opens_three_as (f3.1 ∙ (f2.1 ∙ f1.1)) f1.2 f2.2 f3.2 (three_opened left right parent it.three c.store.ensures.wrote w2 w3)

pub publish_three-requires-clause-event : goal.publish_three-requires-clause-event
publish_three-requires-clause-event g c =
    let u1 = g.R.Rows.view c.store.new.seat in
    let u2 = g.R.Rows.view c.store-2.new.seat in
    let u3 = g.R.Rows.view c.store-3.new.seat in
    let it = c.requires.merged in
    let n = c.args.event.now in
    let b = c.args.second.row in
    let d = c.args.third.row in
    let e = Join n.worker n.left n.right n.parent in
    let left = c.args.left.now in
    let right = c.args.right.now in
    let parent = c.args.parent.now in
    let f1 = c.store.ensures.fits in
    let f2 = c.store-2.ensures.fits in
    let f3 = c.store-3.ensures.fits in
    let w2 = subst (λ (y : Shape). Wrote y.alone b (words_of right ++ drop 126 (held_at u1.held b).now) u1 u2) f1.1 c.store-2.ensures.wrote in
    let w3 = subst (λ (y : Shape). Wrote y.alone d (words_of parent ++ drop 126 (held_at u2.held d).now) u2 u3) (f2.1 ∙ f1.1) c.store-3.ensures.wrote in
    let k = three_waited left right parent it.three c.store.ensures.wrote w2 w3 in
    let shape = f3.1 ∙ (f2.1 ∙ f1.1) in (
      e,
      refl,
      may_as shape f1.2 (may_merge it k (node_a left right parent it.three c.store.ensures.wrote w2 w3) (node_b left right parent it.three c.store.ensures.wrote w2 w3) (node_d left right parent it.three c.store.ensures.wrote w2 w3)),
      changed_as e shape f2.2 (right_changed it k),
      changed_as e shape f3.2 (parent_changed it k),
    )

pub returns-clause-fits : goal.returns-clause-fits
returns-clause-fits g c =
    let n = c.args.event.now in
    let f = c.publish_three.ensures.fits in
    let went = c.publish_three.ensures.went (Join n.worker n.left n.right n.parent) refl in
    (f.0, f.1 ∙ (c.store-3.ensures.fits.1 ∙ (c.store-2.ensures.fits.1 ∙ c.store.ensures.fits.1)), went.held)

pub returns-clause-went : goal.returns-clause-went
returns-clause-went g c =
    let u1 = g.R.Rows.view c.store.new.seat in
    let u2 = g.R.Rows.view c.store-2.new.seat in
    let u3 = g.R.Rows.view c.store-3.new.seat in
    let it = c.requires.merged in
    let n = c.args.event.now in
    let b = c.args.second.row in
    let d = c.args.third.row in
    let e = Join n.worker n.left n.right n.parent in
    let left = c.args.left.now in
    let right = c.args.right.now in
    let parent = c.args.parent.now in
    let f1 = c.store.ensures.fits in
    let f2 = c.store-2.ensures.fits in
    let f3 = c.store-3.ensures.fits in
    let w2 = subst (λ (y : Shape). Wrote y.alone b (words_of right ++ drop 126 (held_at u1.held b).now) u1 u2) f1.1 c.store-2.ensures.wrote in
    let w3 = subst (λ (y : Shape). Wrote y.alone d (words_of parent ++ drop 126 (held_at u2.held d).now) u2 u3) (f2.1 ∙ f1.1) c.store-3.ensures.wrote in
    went_after (three_waited left right parent it.three c.store.ensures.wrote w2 w3) (went_as (f3.1 ∙ (f2.1 ∙ f1.1)) (c.publish_three.ensures.went e refl))
