use Rattle.std.proofs.Common.{◌∙◌, [], ◌∷◌, sym, subst, arith}
use Rattle.lean_proto.specs.row_words.declared.event.Event.TheVariants.{Miss}
use Rattle.lean_proto.specs.row_words.declared.given.Given.{Given}
use Rattle.lean_proto.specs.rows_trait.Views.{after_all, may}
use Rattle.lean_proto.proofs.rows_trait.Runs.{ran_append}
use Rattle.lean_proto.specs.version_latch.Named.{checked}
use Rattle.key_locks.specs.Rows.{IsBlocking, core_mode}
use Rattle.lean_proto.proofs.version_latch.Naming.{checked_silent, checked_other}
use Rattle.lean_proto.proofs.version_latch.Keeping.{goes_ran}
use Rattle.key_locks.proofs.Taking.{known_said, blocker_works, checked_ran}
use Rattle.key_locks.proofs.locking.refuse.Goals as goal

pub check-requires-clause-event : goal.check-requires-clause-event
check-requires-clause-event g c n =
    let v = g.R.Rows.view c.args.seat.now in checked_silent (may (g.R.Rows.shape c.args.rows.now).alone v) v.given c.args.locks.now.worker c.args.glimpse.now.version n c.requires.actor

pub overflow_cast-result : goal.overflow_cast-result
overflow_cast-result g c =
    let z = g.R.Rows.shape c.args.rows.now in
    let v = g.R.Rows.view c.args.seat.now in
    let w = g.R.Rows.view c.check.new.seat in
    let i = c.args.locks.now.row in
    let o = (after_all v.given w.seen).core.row i in
    let is = c.requires.sound.0 w.seen i in
    let said = known_said z v w c.args.glimpse.now.row i c.args.glimpse.now.version c.args.words.now c.requires.at c.in-Ok.ensures.ok.goes.given c.requires.known c.in-Ok.ensures.valid in
    let b = blocker_works (Rattle.lean_proto.specs.row_words.Openings.opening v.given).workers o c.args.locks.now.worker c.args.other (core_mode c.args.locks.now.mode) is (c.requires.blocked o is said) in
    record { fits = (let l = b.among in let few = c.requires.sound.1 in omega arith) }

pub returns-in-Ok-clause-refused : goal.returns-in-Ok-clause-refused
returns-in-Ok-clause-refused g c u r f =
    let z = g.R.Rows.shape c.args.rows.now in
    let v = g.R.Rows.view c.args.seat.now in
    let w = g.R.Rows.view c.check.new.seat in
    let i = c.args.locks.now.row in
    let o = (after_all v.given w.seen).core.row i in
    let is = c.requires.sound.0 w.seen i in
    let given = c.in-Ok.ensures.ok.goes.given in
    let said = known_said z v w c.args.glimpse.now.row i c.args.glimpse.now.version c.args.words.now c.requires.at given c.requires.known c.in-Ok.ensures.valid in record {
      ran = ran_append z.alone u [] v [] w r (checked_ran z c.args.locks.now.worker c.args.glimpse.now.version v w c.in-Ok.ensures.ok.goes);
      blocked = subst (λ (y : Given). IsBlocking ((after_all y w.seen).core.row i) c.args.locks.now.worker (core_mode c.args.locks.now.mode) c.args.other) (sym given) (c.requires.blocked o is said);
    }

pub returns-in-Err-clause-refused : goal.returns-in-Err-clause-refused
returns-in-Err-clause-refused g c u r f =
    let z = g.R.Rows.shape c.args.rows.now in
    let v = g.R.Rows.view c.args.seat.now in
    let w = g.R.Rows.view c.check.new.seat in
    let worker = c.args.locks.now.worker in
    let version = c.args.glimpse.now.version in
    let m = c.in-Err.moved in
    let e = c.in-Err.ensures.err in record {
      at = e.0;
      ran = ran_append z.alone u [] v (Miss worker ∷ []) w r (goes_ran z (checked worker version m.found) (Miss worker ∷ []) v w e.3.goes (checked_other worker version m.found (λ x. e.2 (x ∙ sym e.1))) (c.requires.actor, tt));
      cause = c.in-Err.ensures.cause u f;
    }
