use Rattle.std.proofs.Common.{◌≡◌, ◌∙◌, ◌^◌, ◌+◌, ◌*◌, true, false, set, refl, sym, ap, subst, arith}
use Rattle.lean_proto.specs.row_words.declared.event.Event.TheVariants.{Load}
use Rattle.lean_proto.specs.rows_trait.Views.{holds, held_at}
use Rattle.held_rows.specs.Rows.{Wrote}
use Rattle.held_rows.specs.Waits.{wrote_more, word_as, opens_two_as, may_as, changed_as, went_as, went_after}
use Rattle.swips.specs.Hints.{mark}
use Rattle.page_moves.proofs.Loading.{both, both_open, own_changed, fill_may}
use Rattle.page_moves.proofs.filling.fill.Goals as goal

pub set_word-requires-2-clause-held : goal.set_word-requires-2-clause-held
set_word-requires-2-clause-held g c =
    let z = g.R.Rows.shape c.args.rows.now in
    let t = c.requires.two in
    let v2 = g.R.Rows.view c.set_word.new.seat in
    let row0 = c.store.ensures.fits.2 in
    let k1 = wrote_more 126 c.from.result c.store.ensures.wrote (word_as {z = z} 126 c.from.result c.store.ensures.fits.1 row0 c.set_word.ensures.wrote) in
    subst (λ q. (holds v2.held q ≡ true) × ((held_at v2.held q).done ≡ false)) (sym (c.set_word.ensures.fits.2 ∙ row0)) (k1.waited.rows c.args.own.row ∙ t.second.mine, k1.done ∙ t.second.done)

pub set_word-requires-3-clause-held : goal.set_word-requires-3-clause-held
set_word-requires-3-clause-held g c =
    let z = g.R.Rows.shape c.args.rows.now in
    let t = c.requires.two in
    let a = c.args.parent.row in
    let e0 = c.store.ensures.fits.1 in
    let e1 = c.set_word.ensures.fits.1 ∙ e0 in
    let row0 = c.store.ensures.fits.2 in
    let row1 = c.set_word.ensures.fits.2 ∙ row0 in
    let k1 = wrote_more 126 c.from.result c.store.ensures.wrote (word_as {z = z} 126 c.from.result e0 row0 c.set_word.ensures.wrote) in
    let w1 = wrote_more 127 c.gsn.result k1 (word_as {z = z} 127 c.gsn.result e1 row1 c.set_word-2.ensures.wrote) in
    (w1.waited.rows a ∙ t.first.mine, ap (λ h. h.done) (w1.others a (λ e. t.apart (sym e))) ∙ t.first.done)

pub publish_two-requires-clause-two : goal.publish_two-requires-clause-two
publish_two-requires-clause-two g c =
    let z = g.R.Rows.shape c.args.rows.now in
    let v = g.R.Rows.view c.args.seat.now in
    let v3 = g.R.Rows.view c.set_word-2.new.seat in
    let u2 = g.R.Rows.view c.set_word-3.new.seat in
    let a = c.args.parent.row in
    let b = c.args.own.row in
    let t = c.requires.two in
    let r = c.requires.fills in
    let e0 = c.store.ensures.fits.1 in
    let e1 = c.set_word.ensures.fits.1 ∙ e0 in
    let e2 = c.set_word-2.ensures.fits.1 ∙ e1 in
    let e3 = c.set_word-3.ensures.fits.1 ∙ e2 in
    let row0 = c.store.ensures.fits.2 in
    let row1 = c.set_word.ensures.fits.2 ∙ row0 in
    let row2 = c.set_word-2.ensures.fits.2 ∙ row1 in
    let row3 = c.set_word-3.ensures.fits.2 in
    let hint = c.from.result in
    let unmarked : (hint ≡ mark → ⊥) = (λ e. (let small = r.few in let is = c.from.ensures in omega arith)) in
    let k1 = wrote_more 126 hint c.store.ensures.wrote (word_as {z = z} 126 hint e0 row0 c.set_word.ensures.wrote) in
    let w1 = wrote_more 127 c.args.node.now.gsn k1 (word_as {z = z} 127 c.args.node.now.gsn e1 row1 (subst (λ x. Wrote (g.R.Rows.shape c.set_word.new.rows).alone c.set_word.new.hold.row (set (held_at (g.R.Rows.view c.set_word.new.seat).held c.set_word.new.hold.row).now 127 x) (g.R.Rows.view c.set_word.new.seat) v3) c.gsn.ensures c.set_word-2.ensures.wrote)) in
    let w2 = word_as {z = z} (7 + 2 * c.args.at) (2 ^ 63 + b) e2 refl (subst (λ x. Wrote (g.R.Rows.shape c.set_word-2.new.rows).alone a (set (held_at v3.held a).now (7 + 2 * c.args.at) x) v3 u2) c.word.ensures.answer c.set_word-3.ensures.wrote) in
    opens_two_as e3 row3 row2 (both_open t r hint unmarked w1 w2)

pub publish_two-requires-clause-event : goal.publish_two-requires-clause-event
publish_two-requires-clause-event g c =
    let z = g.R.Rows.shape c.args.rows.now in
    let v = g.R.Rows.view c.args.seat.now in
    let v3 = g.R.Rows.view c.set_word-2.new.seat in
    let u2 = g.R.Rows.view c.set_word-3.new.seat in
    let a = c.args.parent.row in
    let b = c.args.own.row in
    let t = c.requires.two in
    let r = c.requires.fills in
    let e0 = c.store.ensures.fits.1 in
    let e1 = c.set_word.ensures.fits.1 ∙ e0 in
    let e2 = c.set_word-2.ensures.fits.1 ∙ e1 in
    let e3 = c.set_word-3.ensures.fits.1 ∙ e2 in
    let row0 = c.store.ensures.fits.2 in
    let row1 = c.set_word.ensures.fits.2 ∙ row0 in
    let row2 = c.set_word-2.ensures.fits.2 ∙ row1 in
    let row3 = c.set_word-3.ensures.fits.2 in
    let hint = c.from.result in
    let unmarked : (hint ≡ mark → ⊥) = (λ e. (let small = r.few in let is = c.from.ensures in omega arith)) in
    let k1 = wrote_more 126 hint c.store.ensures.wrote (word_as {z = z} 126 hint e0 row0 c.set_word.ensures.wrote) in
    let w1 = wrote_more 127 c.args.node.now.gsn k1 (word_as {z = z} 127 c.args.node.now.gsn e1 row1 (subst (λ x. Wrote (g.R.Rows.shape c.set_word.new.rows).alone c.set_word.new.hold.row (set (held_at (g.R.Rows.view c.set_word.new.seat).held c.set_word.new.hold.row).now 127 x) (g.R.Rows.view c.set_word.new.seat) v3) c.gsn.ensures c.set_word-2.ensures.wrote)) in
    let w2 = word_as {z = z} (7 + 2 * c.args.at) (2 ^ 63 + b) e2 refl (subst (λ x. Wrote (g.R.Rows.shape c.set_word-2.new.rows).alone a (set (held_at v3.held a).now (7 + 2 * c.args.at) x) v3 u2) c.word.ensures.answer c.set_word-3.ensures.wrote) in
    let e = Load c.args.page b in
    (e, refl, may_as e3 row3 (fill_may t r hint unmarked w1 w2), changed_as e e3 row2 (own_changed t r hint unmarked w1 w2))

pub returns-clause-went : goal.returns-clause-went
returns-clause-went g c =
    let z = g.R.Rows.shape c.args.rows.now in
    let v = g.R.Rows.view c.args.seat.now in
    let v3 = g.R.Rows.view c.set_word-2.new.seat in
    let u2 = g.R.Rows.view c.set_word-3.new.seat in
    let a = c.args.parent.row in
    let b = c.args.own.row in
    let t = c.requires.two in
    let r = c.requires.fills in
    let e0 = c.store.ensures.fits.1 in
    let e1 = c.set_word.ensures.fits.1 ∙ e0 in
    let e2 = c.set_word-2.ensures.fits.1 ∙ e1 in
    let e3 = c.set_word-3.ensures.fits.1 ∙ e2 in
    let row0 = c.store.ensures.fits.2 in
    let row1 = c.set_word.ensures.fits.2 ∙ row0 in
    let row2 = c.set_word-2.ensures.fits.2 ∙ row1 in
    let row3 = c.set_word-3.ensures.fits.2 in
    let hint = c.from.result in
    let unmarked : (hint ≡ mark → ⊥) = (λ e. (let small = r.few in let is = c.from.ensures in omega arith)) in
    let k1 = wrote_more 126 hint c.store.ensures.wrote (word_as {z = z} 126 hint e0 row0 c.set_word.ensures.wrote) in
    let w1 = wrote_more 127 c.args.node.now.gsn k1 (word_as {z = z} 127 c.args.node.now.gsn e1 row1 (subst (λ x. Wrote (g.R.Rows.shape c.set_word.new.rows).alone c.set_word.new.hold.row (set (held_at (g.R.Rows.view c.set_word.new.seat).held c.set_word.new.hold.row).now 127 x) (g.R.Rows.view c.set_word.new.seat) v3) c.gsn.ensures c.set_word-2.ensures.wrote)) in
    let w2 = word_as {z = z} (7 + 2 * c.args.at) (2 ^ 63 + b) e2 refl (subst (λ x. Wrote (g.R.Rows.shape c.set_word-2.new.rows).alone a (set (held_at v3.held a).now (7 + 2 * c.args.at) x) v3 u2) c.word.ensures.answer c.set_word-3.ensures.wrote) in
    went_after (both t r hint unmarked w1 w2) (went_as e3 (c.publish_two.ensures.went (Load c.args.page b) refl))
