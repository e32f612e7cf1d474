use Rattle.std.proofs.Common.{◌≡◌, ◌∙◌, ◌^◌, true, false, set, refl, sym, subst, arith}
use Rattle.lean_proto.specs.row_words.declared.event.Event.TheVariants.{Load}
use Rattle.lean_proto.specs.rows_trait.Views.{holds, held_at}
use Rattle.held_rows.specs.Rows.{Wrote}
use Rattle.held_rows.specs.Waits.{wrote_more, word_as, opens_one, opens_one_as, may_as, went_as, went_after}
use Rattle.page_moves.proofs.Unnamed.{fill_free_may}
use Rattle.page_moves.proofs.freeing.fill_free.Goals as goal

pub set_word-requires-2-clause-held : goal.set_word-requires-2-clause-held
set_word-requires-2-clause-held g c =
    let z = g.R.Rows.shape c.args.rows.now in
    let t = c.requires.one in
    let v2 = g.R.Rows.view c.set_word.new.seat in
    let row0 = c.store.ensures.fits.2 in
    let k1 = wrote_more 126 (2 ^ 63) c.store.ensures.wrote (word_as {z = z} 126 (2 ^ 63) c.store.ensures.fits.1 row0 c.set_word.ensures.wrote) in
    subst (λ q. (holds v2.held q ≡ true) × ((held_at v2.held q).done ≡ false)) (sym (c.set_word.ensures.fits.2 ∙ row0)) (k1.waited.rows c.args.own.row ∙ t.first.mine, k1.done ∙ t.first.done)

pub publish_one-requires-clause-one : goal.publish_one-requires-clause-one
publish_one-requires-clause-one g c =
    let z = g.R.Rows.shape c.args.rows.now in
    let b = c.args.own.row in
    let t = c.requires.one in
    let r = c.requires.fills in
    let e0 = c.store.ensures.fits.1 in
    let e1 = c.set_word.ensures.fits.1 ∙ e0 in
    let e2 = c.set_word-2.ensures.fits.1 ∙ e1 in
    let row0 = c.store.ensures.fits.2 in
    let row1 = c.set_word.ensures.fits.2 ∙ row0 in
    let row2 = c.set_word-2.ensures.fits.2 ∙ row1 in
    let number = c.args.node.now.gsn in
    let v2 = g.R.Rows.view c.set_word.new.seat in
    let k1 = wrote_more 126 (2 ^ 63) c.store.ensures.wrote (word_as {z = z} 126 (2 ^ 63) e0 row0 c.set_word.ensures.wrote) in
    let k = wrote_more 127 number k1 (word_as {z = z} 127 number e1 row1 (subst (λ x. Wrote (g.R.Rows.shape c.set_word.new.rows).alone c.set_word.new.hold.row (set (held_at v2.held c.set_word.new.hold.row).now 127 x) v2 (g.R.Rows.view c.set_word-2.new.seat)) c.gsn.ensures c.set_word-2.ensures.wrote)) in
    opens_one_as e2 row2 (opens_one k.waited.rows t k.done)

pub publish_one-requires-clause-event : goal.publish_one-requires-clause-event
publish_one-requires-clause-event g c =
    let z = g.R.Rows.shape c.args.rows.now in
    let b = c.args.own.row in
    let t = c.requires.one in
    let r = c.requires.fills in
    let e0 = c.store.ensures.fits.1 in
    let e1 = c.set_word.ensures.fits.1 ∙ e0 in
    let e2 = c.set_word-2.ensures.fits.1 ∙ e1 in
    let row0 = c.store.ensures.fits.2 in
    let row1 = c.set_word.ensures.fits.2 ∙ row0 in
    let row2 = c.set_word-2.ensures.fits.2 ∙ row1 in
    let number = c.args.node.now.gsn in
    let v2 = g.R.Rows.view c.set_word.new.seat in
    let k1 = wrote_more 126 (2 ^ 63) c.store.ensures.wrote (word_as {z = z} 126 (2 ^ 63) e0 row0 c.set_word.ensures.wrote) in
    let k = wrote_more 127 number k1 (word_as {z = z} 127 number e1 row1 (subst (λ x. Wrote (g.R.Rows.shape c.set_word.new.rows).alone c.set_word.new.hold.row (set (held_at v2.held c.set_word.new.hold.row).now 127 x) v2 (g.R.Rows.view c.set_word-2.new.seat)) c.gsn.ensures c.set_word-2.ensures.wrote)) in
    (Load c.args.page b, refl, may_as e2 row2 (fill_free_may b c.args.page (2 ^ 63) c.args.node.now t r (λ e. omega arith) k))

pub returns-clause-went : goal.returns-clause-went
returns-clause-went g c =
    let z = g.R.Rows.shape c.args.rows.now in
    let b = c.args.own.row in
    let t = c.requires.one in
    let r = c.requires.fills in
    let e0 = c.store.ensures.fits.1 in
    let e1 = c.set_word.ensures.fits.1 ∙ e0 in
    let e2 = c.set_word-2.ensures.fits.1 ∙ e1 in
    let row0 = c.store.ensures.fits.2 in
    let row1 = c.set_word.ensures.fits.2 ∙ row0 in
    let row2 = c.set_word-2.ensures.fits.2 ∙ row1 in
    let number = c.args.node.now.gsn in
    let v2 = g.R.Rows.view c.set_word.new.seat in
    let k1 = wrote_more 126 (2 ^ 63) c.store.ensures.wrote (word_as {z = z} 126 (2 ^ 63) e0 row0 c.set_word.ensures.wrote) in
    let k = wrote_more 127 number k1 (word_as {z = z} 127 number e1 row1 (subst (λ x. Wrote (g.R.Rows.shape c.set_word.new.rows).alone c.set_word.new.hold.row (set (held_at v2.held c.set_word.new.hold.row).now 127 x) v2 (g.R.Rows.view c.set_word-2.new.seat)) c.gsn.ensures c.set_word-2.ensures.wrote)) in
    went_after k.waited (went_as e2 (c.publish_one.ensures.went (Load c.args.page b) refl))
