use Rattle.std.proofs.Common.{◌^◌, refl, arith}
use Rattle.lean_proto.specs.row_words.declared.event.Event.TheVariants.{Rescue}
use Rattle.held_rows.specs.Waits.{opens_one, opens_one_as, may_as, went_as, went_after}
use Rattle.page_moves.proofs.Unnamed.{revive_may}
use Rattle.page_moves.proofs.freeing.revive.Goals as goal

pub publish_one-requires-clause-one : goal.publish_one-requires-clause-one
publish_one-requires-clause-one g c =
    let f = c.set_word.ensures.fits in
    let k = c.set_word.ensures.wrote in
    opens_one_as f.1 f.2 (opens_one k.waited.rows c.requires.one k.done)

pub publish_one-requires-clause-event : goal.publish_one-requires-clause-event
publish_one-requires-clause-event g c =
    let row = c.args.own.row in
    let f = c.set_word.ensures.fits in
    let k = c.set_word.ensures.wrote in
    (Rescue c.args.page, refl, may_as f.1 f.2 (revive_may row c.args.page (2 ^ 63) c.requires.one c.requires.revives (λ e. omega arith) k))

pub returns-clause-went : goal.returns-clause-went
returns-clause-went g c =
    let f = c.set_word.ensures.fits in
    went_after c.set_word.ensures.wrote.waited (went_as f.1 (c.publish_one.ensures.went (Rescue c.args.page) refl))
