use Rattle.std.proofs.Common.{◌∙◌, [], ◌∷◌, sym, ap}
use Rattle.lean_proto.specs.core_state.Needs.{holds_row}
use Rattle.lean_proto.specs.row_words.declared.event.Event.TheVariants.{Miss}
use Rattle.lean_proto.specs.row_words.Openings.{opening}
use Rattle.lean_proto.specs.rows_trait.Views.{after_all, may}
use Rattle.lean_proto.proofs.rows_trait.Runs.{ran_append}
use Rattle.lean_proto.specs.version_latch.Named.{checked}
use Rattle.lean_proto.proofs.version_latch.Naming.{checked_silent, checked_other}
use Rattle.lean_proto.proofs.version_latch.Keeping.{goes_ran}
use Rattle.key_locks.proofs.Taking.{known_said, checked_ran}
use Rattle.key_locks.proofs.seeing.answer.Goals as goal

pub check-requires-clause-event : goal.check-requires-clause-event
check-requires-clause-event g c n =
    let v = g.R.Rows.view c.args.seat.now in checked_silent (may (g.R.Rows.shape c.args.rows.now).alone v) v.given c.args.worker c.args.glimpse.now.version n c.requires.actor

pub returns-in-Ok-clause-ok : goal.returns-in-Ok-clause-ok
returns-in-Ok-clause-ok g c u r =
    let z = g.R.Rows.shape c.args.rows.now in
    let v = g.R.Rows.view c.args.seat.now in
    let w = g.R.Rows.view c.check.new.seat in
    let given = c.in-Ok.ensures.ok.goes.given in
    let said = known_said z v w c.args.glimpse.now.row c.args.index c.args.glimpse.now.version c.args.words.now c.requires.at given c.requires.known c.in-Ok.ensures.valid in record {
      ran = ran_append z.alone u [] v [] w r (checked_ran z c.args.worker c.args.glimpse.now.version v w c.in-Ok.ensures.ok.goes);
      is = c.say_held_by-says.ensures (opening v.given).workers ((after_all v.given w.seen).core.row c.args.index) c.requires.worker.1 said ∙ ap (λ y. holds_row ((after_all y w.seen).core.row c.args.index) c.args.worker) (sym given);
    }

pub returns-in-Err-clause-err : goal.returns-in-Err-clause-err
returns-in-Err-clause-err g c u r f =
    let z = g.R.Rows.shape c.args.rows.now in
    let v = g.R.Rows.view c.args.seat.now in
    let w = g.R.Rows.view c.check.new.seat in
    let worker = c.args.worker in
    let version = c.args.glimpse.now.version in
    let m = c.in-Err.moved in
    let e = c.in-Err.ensures.err in record {
      at = e.0;
      ran = ran_append z.alone u [] v (Miss worker ∷ []) w r (goes_ran z (checked worker version m.found) (Miss worker ∷ []) v w e.3.goes (checked_other worker version m.found (λ x. e.2 (x ∙ sym e.1))) (c.requires.actor, tt));
      cause = c.in-Err.ensures.cause u f;
    }
