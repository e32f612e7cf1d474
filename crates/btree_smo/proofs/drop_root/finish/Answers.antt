use Rattle.std.proofs.Common.{◌∙◌, ◌++◌, refl, subst, drop}
use Rattle.disk_image.specs.btree_node.Words.{words_of}
use Rattle.btree_descent.specs.row_words.declared.event.Event.TheVariants.{Drop}
use Rattle.btree_descent.specs.rows_trait.Views.{Shape, held_at}
use Rattle.held_rows.specs.Rows.{Wrote}
use Rattle.held_rows.specs.Waits.{opens_two_as, may_as, changed_as, went_as, went_after}
use Rattle.btree_smo.proofs.Publishing.{two_waited, first_node, second_node, two_opened}
use Rattle.btree_smo.proofs.Lowering.{may_lower, child_changed}
use Rattle.btree_smo.proofs.drop_root.finish.Goals as goal

pub publish_two-requires-clause-two : goal.publish_two-requires-clause-two
publish_two-requires-clause-two g c =
    let u1 = g.R.Rows.view c.store.new.seat in
    let u2 = g.R.Rows.view c.store-2.new.seat in
    let it = c.requires.lowered in
    let b = c.args.second.row in
    let f1 = c.store.ensures.fits in
    let f2 = c.store-2.ensures.fits in
    let w2 = subst (λ (y : Shape). Wrote y.alone b (words_of c.args.child.now ++ drop 126 (held_at u1.held b).now) u1 u2) f1.1 c.store-2.ensures.wrote in
    opens_two_as (f2.1 ∙ f1.1) f1.2 f2.2 (two_opened c.args.root.now c.args.child.now it.two c.store.ensures.wrote w2)

pub publish_two-requires-clause-event : goal.publish_two-requires-clause-event
publish_two-requires-clause-event g c =
    let u1 = g.R.Rows.view c.store.new.seat in
    let u2 = g.R.Rows.view c.store-2.new.seat in
    let it = c.requires.lowered in
    let b = c.args.second.row in
    let e = Drop c.args.event.now.worker c.args.event.now.page in
    let root = c.args.root.now in
    let child = c.args.child.now in
    let f1 = c.store.ensures.fits in
    let f2 = c.store-2.ensures.fits in
    let w2 = subst (λ (y : Shape). Wrote y.alone b (words_of child ++ drop 126 (held_at u1.held b).now) u1 u2) f1.1 c.store-2.ensures.wrote in
    let k = two_waited root child it.two c.store.ensures.wrote w2 in (
      e,
      refl,
      may_as (f2.1 ∙ f1.1) f1.2 (may_lower it k (first_node root child it.two c.store.ensures.wrote w2) (second_node root child it.two c.store.ensures.wrote w2)),
      changed_as e (f2.1 ∙ f1.1) f2.2 (child_changed it k),
    )

pub returns-clause-fits : goal.returns-clause-fits
returns-clause-fits g c =
    let f = c.publish_two.ensures.fits in
    (f.0, f.1 ∙ (c.store-2.ensures.fits.1 ∙ c.store.ensures.fits.1), (c.publish_two.ensures.went (Drop c.args.event.now.worker c.args.event.now.page) refl).held)

pub returns-clause-went : goal.returns-clause-went
returns-clause-went g c =
    let u1 = g.R.Rows.view c.store.new.seat in
    let u2 = g.R.Rows.view c.store-2.new.seat in
    let it = c.requires.lowered in
    let b = c.args.second.row in
    let f1 = c.store.ensures.fits in
    let f2 = c.store-2.ensures.fits in
    let w2 = subst (λ (y : Shape). Wrote y.alone b (words_of c.args.child.now ++ drop 126 (held_at u1.held b).now) u1 u2) f1.1 c.store-2.ensures.wrote in
    went_after (two_waited c.args.root.now c.args.child.now it.two c.store.ensures.wrote w2) (went_as (f2.1 ∙ f1.1) (c.publish_two.ensures.went (Drop c.args.event.now.worker c.args.event.now.page) refl))
