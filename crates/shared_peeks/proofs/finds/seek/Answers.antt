use Rattle.std.proofs.Common.{◌∙◌, ap, sym, subst}
use Rattle.btree_descent.specs.rows_trait.Views.{Shape}
use Rattle.btree_descent.specs.Known.{IsSound}
use Rattle.shared_peeks.proofs.Looking.{sized_on}
use Rattle.shared_peeks.proofs.Finding.{ran_of}
use Rattle.shared_peeks.proofs.finds.seek.Goals as goal

pub returns-clause-can : goal.returns-clause-can
returns-clause-can c =
    let k = c.requires.can in
    let e = c.find-answer.ensures in
    let r = (ran_of c.args.desk.now.worker c.args.key c.args.desk.now.seat.me.0 c.find-answer.new.seat.me.0 c.find-answer.result e.went).1 in record {
      own = e.fits.0.0 ∙ ap (λ (s : Shape). s.place) e.fits.1;
      slots = e.fits.0.1;
      live = e.fits.0.2;
      low = e.fits.0.3;
      held = e.fits.2 ∙ k.held;
      actor = r.actor ∙ k.actor;
      sized = sized_on _ c.args.desk.now.seat.me.0 c.find-answer.new.seat.me.0 c.args.frames r.given k.sized;
      sound = subst IsSound (sym r.given) k.sound;
    }
