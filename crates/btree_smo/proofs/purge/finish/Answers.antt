use Rattle.std.proofs.Common.{◌∙◌, refl, sym, subst, length}
use Rattle.btree_descent.specs.row_words.declared.event.Event.TheVariants.{Purge}
use Rattle.btree_descent.specs.rows_trait.Views.{Shape}
use Rattle.btree_descent.proofs.lean_proto.Finishing.{may_publish_at}
use Rattle.btree_smo.specs.Outcomes.{MissedUpTo}
use Rattle.btree_smo.specs.Inside.Purging.{KeepsPlaces}
use Rattle.btree_smo.proofs.PublishingPurge.{published_as, may_purge, node_has, keeps_after, went_on}
use Rattle.btree_smo.proofs.purge.finish.Goals as goal

pub publish_as-requires-clause-event : goal.publish_as-requires-clause-event
publish_as-requires-clause-event g c =
    let z = g.R.Rows.shape c.args.rows.now in
    let it = c.requires.purged in
    let f1 = c.store.ensures.fits in
    let e = Purge c.args.event.now.worker c.args.event.now.page c.args.event.now.keys in (
      e,
      refl,
      may_publish_at z (g.R.Rows.shape c.store.new.rows) c.args.first.row c.store.new.hold.row e (g.R.Rows.view c.store.new.seat) f1.1 f1.2 (may_purge it c.store.ensures.wrote.waited (node_has it c.store.ensures.wrote)),
    )

pub release_places-requires-clause-places : goal.release_places-requires-clause-places
release_places-requires-clause-places g c =
    let z = g.R.Rows.shape c.args.rows.now in
    let it = c.requires.purged in
    let f1 = c.store.ensures.fits in
    let f2 = c.publish_as.ensures.fits in
    let u1 = g.R.Rows.view c.store.new.seat in
    let u2 = g.R.Rows.view c.publish_as.new.seat in
    let p = published_as (Purge c.args.event.now.worker c.args.event.now.page c.args.event.now.keys) f1.1 f1.2 c.publish_as.ensures.step in
    subst (λ (y : Shape). KeepsPlaces y u2 c.args.frames c.args.places.now) (sym (f2.1 ∙ f1.1)) (keeps_after it c.store.ensures.wrote p)

pub returns-clause-went : goal.returns-clause-went
returns-clause-went g c =
    let z = g.R.Rows.shape c.args.rows.now in
    let it = c.requires.purged in
    let f1 = c.store.ensures.fits in
    let f2 = c.publish_as.ensures.fits in
    let u1 = g.R.Rows.view c.store.new.seat in
    let u2 = g.R.Rows.view c.publish_as.new.seat in
    let w = g.R.Rows.view c.release_places.new.seat in
    let p = published_as (Purge c.args.event.now.worker c.args.event.now.page c.args.event.now.keys) f1.1 f1.2 c.publish_as.ensures.step in
    let m = subst (λ (y : Shape). MissedUpTo (length c.args.places.now) y.alone u2 w) (f2.1 ∙ f1.1) c.release_places.ensures.missed in
    went_on it c.store.ensures.wrote p c.requires.few m
