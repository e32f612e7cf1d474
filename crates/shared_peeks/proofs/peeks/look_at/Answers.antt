use Rattle.std.proofs.Common.{◌∙◌, ap, sym, subst}
use Rattle.btree_descent.specs.rows_trait.Views.{Shape}
use Rattle.btree_descent.specs.Known.{IsSound}
use Rattle.shared_peeks.proofs.Looking.{looked_of, sized_on}
use Rattle.shared_peeks.proofs.peeks.look_at.Goals as goal

pub returns-clause-looked : goal.returns-clause-looked
returns-clause-looked c = looked_of c.args.desk.now.worker c.args.key c.args.desk.now.seat.me.0 c.peek-peeked.new.seat.me.0 c.peek-peeked.result c.is_own.result c.peek-peeked.ensures.went c.is_own.ensures

pub returns-clause-can : goal.returns-clause-can
returns-clause-can c =
    let k = c.requires.can in
    let e = c.peek-peeked.ensures in
    let l = looked_of c.args.desk.now.worker c.args.key c.args.desk.now.seat.me.0 c.peek-peeked.new.seat.me.0 c.peek-peeked.result c.is_own.result e.went c.is_own.ensures in record {
      own = e.fits.0.0 ∙ ap (λ (s : Shape). s.place) e.fits.1;
      slots = e.fits.0.1;
      live = e.fits.0.2;
      low = e.fits.0.3;
      held = e.fits.2 ∙ k.held;
      actor = l.ran.actor ∙ k.actor;
      sized = sized_on _ c.args.desk.now.seat.me.0 c.peek-peeked.new.seat.me.0 c.args.frames l.ran.given k.sized;
      sound = subst IsSound (sym l.ran.given) k.sound;
    }
