use Rattle.std.proofs.Common.{◌%◌, ◌+◌, ◌∙◌, ap, sym, subst}
use Rattle.btree_descent.specs.rows_trait.Views.{Shape}
use Rattle.btree_descent.specs.Known.{IsSound}
use Rattle.key_locks.specs.Rows as keys
use Rattle.key_locks.specs.declared.mode.Mode.TheVariants as mode
use Rattle.shared_peeks.proofs.Looking.{sized_on}
use Rattle.shared_peeks.proofs.Locking.{keys_on, open_after, refused_ran}
use Rattle.shared_peeks.proofs.locks.take.Goals as goal

pub returns-in-Ok-clause-can : goal.returns-in-Ok-clause-can
returns-in-Ok-clause-can c =
    let k = c.requires.can.can in
    let e = c.in-Ok.ensures in
    let r = c.in-Ok.ensures.ok.published.ran in record {
      own = e.fits.0.0 ∙ ap (λ (s : Shape). s.place) e.fits.1;
      slots = e.fits.0.1;
      live = e.fits.0.2;
      low = e.fits.0.3;
      held = e.fits.2 ∙ k.held;
      actor = r.actor ∙ k.actor;
      sized = sized_on _ c.args.desk.now.seat.me.0 c.lock.new.seat.me.0 c.args.frames r.given k.sized;
      sound = subst IsSound (sym r.given) k.sound;
    }

pub returns-in-Ok-clause-more : goal.returns-in-Ok-clause-more
returns-in-Ok-clause-more c yes_is =
    let q = c.requires.can in
    let k = q.can in
    let e = c.in-Ok.ensures in
    let has = c.in-Ok.ensures.ok in
    let r = has.published.ran in record {
      can = record {
        own = e.fits.0.0 ∙ ap (λ (s : Shape). s.place) e.fits.1;
        slots = e.fits.0.1;
        live = e.fits.0.2;
        low = e.fits.0.3;
        held = e.fits.2 ∙ k.held;
        actor = r.actor ∙ k.actor;
        sized = sized_on _ c.args.desk.now.seat.me.0 c.lock.new.seat.me.0 c.args.frames r.given k.sized;
        sound = subst IsSound (sym r.given) k.sound;
      };
      sized = keys_on _ c.args.desk.now.seat.me.0 c.lock.new.seat.me.0 c.args.desk.now.worker c.args.frames c.args.locks r.given q.sized;
      sound = subst keys.IsSound (sym r.given) q.sound;
      is_open = open_after c.args.desk.now.worker (c.args.key % c.args.locks) _ c.args.desk.now.seat.me.0 c.lock.new.seat.me.0 has;
    }

pub returns-in-Err-clause-can : goal.returns-in-Err-clause-can
returns-in-Err-clause-can c =
    let k = c.requires.can.can in
    let e = c.in-Err.ensures in
    let r = (refused_ran c.args.desk.now.worker (c.args.frames + c.args.key % c.args.locks) (c.args.key % c.args.locks) mode.Alone c.args.desk.now.seat.me.0 c.lock.new.seat.me.0 _ c.in-Err.ensures.err).1 in record {
      own = e.fits.0.0 ∙ ap (λ (s : Shape). s.place) e.fits.1;
      slots = e.fits.0.1;
      live = e.fits.0.2;
      low = e.fits.0.3;
      held = e.fits.2 ∙ k.held;
      actor = r.actor ∙ k.actor;
      sized = sized_on _ c.args.desk.now.seat.me.0 c.lock.new.seat.me.0 c.args.frames r.given k.sized;
      sound = subst IsSound (sym r.given) k.sound;
    }
