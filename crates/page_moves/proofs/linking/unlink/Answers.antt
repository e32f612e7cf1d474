use Rattle.std.proofs.Common.{◌∙◌, ◌^◌, ◌+◌, ◌*◌, set, refl, ap, subst}
use Rattle.lean_proto.specs.row_words.declared.event.Event.TheVariants.{Cool}
use Rattle.lean_proto.specs.rows_trait.Views.{held_at}
use Rattle.held_rows.specs.Rows.{Wrote}
use Rattle.held_rows.specs.Waits.{word_as, opens_two_as, may_as, changed_as, went_as, went_after}
use Rattle.page_moves.proofs.Swizzling.{both, both_open, own_changed, unlink_may}
use Rattle.page_moves.proofs.linking.unlink.Goals as goal

pub set_word-requires-2-clause-held : goal.set_word-requires-2-clause-held
set_word-requires-2-clause-held g c =
    let t = c.requires.two in
    let w = c.set_word.ensures.wrote in
    (w.waited.rows c.args.own.row ∙ t.second.mine, ap (λ h. h.done) (w.others c.args.own.row t.apart) ∙ t.second.done)

pub publish_two-requires-clause-two : goal.publish_two-requires-clause-two
publish_two-requires-clause-two g c =
    let z = g.R.Rows.shape c.args.rows.now in
    let v = g.R.Rows.view c.args.seat.now in
    let u1 = g.R.Rows.view c.set_word.new.seat in
    let u2 = g.R.Rows.view c.set_word-2.new.seat in
    let a = c.args.parent.row in
    let b = c.args.own.row in
    let t = c.requires.two in
    let r = c.requires.unlinks in
    let f1 = c.set_word.ensures.fits in
    let f2 = c.set_word-2.ensures.fits in
    let w1 = subst (λ n. Wrote z.alone a (set (held_at v.held a).now (7 + 2 * c.args.at) n) v u1) c.word.ensures.answer c.set_word.ensures.wrote in
    let w2 = word_as {z = z} 126 (2 ^ 63 + 1) f1.1 refl c.set_word-2.ensures.wrote in
    opens_two_as (f2.1 ∙ f1.1) f1.2 f2.2 (both_open t r.on r.link r.here c.args.page (2 ^ 63 + 1) w1 w2)

pub publish_two-requires-clause-event : goal.publish_two-requires-clause-event
publish_two-requires-clause-event g c =
    let z = g.R.Rows.shape c.args.rows.now in
    let v = g.R.Rows.view c.args.seat.now in
    let u1 = g.R.Rows.view c.set_word.new.seat in
    let u2 = g.R.Rows.view c.set_word-2.new.seat in
    let a = c.args.parent.row in
    let b = c.args.own.row in
    let t = c.requires.two in
    let r = c.requires.unlinks in
    let f1 = c.set_word.ensures.fits in
    let f2 = c.set_word-2.ensures.fits in
    let w1 = subst (λ n. Wrote z.alone a (set (held_at v.held a).now (7 + 2 * c.args.at) n) v u1) c.word.ensures.answer c.set_word.ensures.wrote in
    let w2 = word_as {z = z} 126 (2 ^ 63 + 1) f1.1 refl c.set_word-2.ensures.wrote in
    let e = Cool c.args.page in
    (e, refl, may_as (f2.1 ∙ f1.1) f1.2 (unlink_may t r (2 ^ 63 + 1) refl w1 w2), changed_as e (f2.1 ∙ f1.1) f2.2 (own_changed t r.on r.link r.here c.args.page (2 ^ 63 + 1) w1 w2 e (λ s q. refl)))

pub returns-clause-went : goal.returns-clause-went
returns-clause-went g c =
    let z = g.R.Rows.shape c.args.rows.now in
    let v = g.R.Rows.view c.args.seat.now in
    let u1 = g.R.Rows.view c.set_word.new.seat in
    let u2 = g.R.Rows.view c.set_word-2.new.seat in
    let a = c.args.parent.row in
    let b = c.args.own.row in
    let t = c.requires.two in
    let r = c.requires.unlinks in
    let f1 = c.set_word.ensures.fits in
    let f2 = c.set_word-2.ensures.fits in
    let w1 = subst (λ n. Wrote z.alone a (set (held_at v.held a).now (7 + 2 * c.args.at) n) v u1) c.word.ensures.answer c.set_word.ensures.wrote in
    let w2 = word_as {z = z} 126 (2 ^ 63 + 1) f1.1 refl c.set_word-2.ensures.wrote in
    went_after (both t r.on r.link r.here c.args.page (2 ^ 63 + 1) w1 w2) (went_as (f2.1 ∙ f1.1) (c.publish_two.ensures.went (Cool c.args.page) refl))
