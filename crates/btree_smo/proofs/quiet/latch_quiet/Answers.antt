use Rattle.std.proofs.Common.{◌∙◌, ◌+◌, [], sym, ap, subst, arith}
use Rattle.btree_descent.specs.rows_trait.Views.{Shape}
use Rattle.btree_descent.specs.rows_trait.Turns.{Looked, Taken}
use Rattle.btree_descent.specs.rows_trait.Causes.{HasFound}
use Rattle.btree_descent.specs.version_latch.declared.glimpse.Unheld.{Unheld}
use Rattle.btree_descent.specs.version_latch.Unheld.{NotHeld}
use Rattle.held_rows.specs.Rows.{Stood}
use Rattle.held_rows.specs.Latching.{Took}
use Rattle.held_rows.specs.Waits.{stood_then, stood_shape}
use Rattle.btree_smo.specs.Outcomes.{Found}
use Rattle.btree_smo.proofs.Quieting.{Three, three, lock_at, stood_look, taken_all, taken_grew, taken_quiet, found_busy}
use Rattle.btree_smo.proofs.quiet.latch_quiet.Goals as goal

pub returns-in_default-clause-quietly : goal.returns-in_default-clause-quietly
returns-in_default-clause-quietly g c = record {
  stood = stood_look c.in_default.ensures.err.2;
  busy = λ alone free q. let even = c.in_default.ensures.err.2.free alone free in let odd = c.in_default.ensures.err.1 in absurd (omega arith);
}

pub returns-in-Ok-check-clause-quietly : goal.returns-in-Ok-check-clause-quietly
returns-in-Ok-check-clause-quietly g c =
    let z = g.R.Rows.shape c.args.rows.now in
    let v = g.R.Rows.view c.args.seat.now in
    let row = c.in-Ok.glimpse.row in
    let version = c.in-Ok.glimpse.version in
    let u3 = g.R.Rows.view c.word-number.new.seat in
    let w = g.R.Rows.view c.check.new.seat in
    let e0 = c.in-Ok.ensures.fits.1 in
    let e1 = c.word-readers.ensures.fits.1 ∙ e0 in
    let e2 = c.word-holder.ensures.fits.1 ∙ e1 in
    let e3 = c.word-number.ensures.fits.1 ∙ e2 in
    let l = subst (λ q. Looked z q (λ _. []) v version (g.R.Rows.view c.start.new.seat)) (sym c.in-Ok.ensures.ok.0) c.in-Ok.ensures.ok.3 in
    let hf = subst (λ q. HasFound q version v (g.R.Rows.view c.start.new.seat)) (sym c.in-Ok.ensures.ok.0) c.in-Ok.ensures.since.1 in
    let t : Three z row version c.word-readers.result c.word-holder.result c.word-number.result v u3 = three z (g.R.Rows.shape c.start.new.rows) (g.R.Rows.shape c.word-readers.new.rows) (g.R.Rows.shape c.word-holder.new.rows) row version c.word-readers.result c.word-holder.result c.word-number.result v (g.R.Rows.view c.start.new.seat) (g.R.Rows.view c.word-readers.new.seat) (g.R.Rows.view c.word-holder.new.seat) u3 e0 e1 e2 l hf
    c.word-readers.ensures.step c.word-holder.ensures.step c.word-number.ensures.step c.word-readers.ensures.knows c.word-holder.ensures.knows c.word-number.ensures.knows in
    let s = stood_then t.stood (stood_shape e3 (stood_look c.in-Ok-check.ensures.ok)) in record {
      stood = s;
      busy = λ alone free q. found_busy u3 w version c.args.floor c.word-readers.result c.word-holder.result c.word-number.result (lock_at c.requires.sized c.requires.place c.in-Ok.ensures.ok.0) s.waited.ran.given c.in-Ok-check.ensures.valid (c.are_quiet.ensures.no c.if-not-are_quiet.true) t.readers t.holder t.number q;
    }

pub returns-in-Err-clause-quietly : goal.returns-in-Err-clause-quietly
returns-in-Err-clause-quietly g c =
    let z = g.R.Rows.shape c.args.rows.now in
    let v = g.R.Rows.view c.args.seat.now in
    let row = c.in-Ok.glimpse.row in
    let version = c.in-Ok.glimpse.version in
    let u3 = g.R.Rows.view c.word-number.new.seat in
    let e0 = c.in-Ok.ensures.fits.1 in
    let e1 = c.word-readers.ensures.fits.1 ∙ e0 in
    let e2 = c.word-holder.ensures.fits.1 ∙ e1 in
    let e3 = c.word-number.ensures.fits.1 ∙ e2 in
    let l = subst (λ q. Looked z q (λ _. []) v version (g.R.Rows.view c.start.new.seat)) (sym c.in-Ok.ensures.ok.0) c.in-Ok.ensures.ok.3 in
    let hf = subst (λ q. HasFound q version v (g.R.Rows.view c.start.new.seat)) (sym c.in-Ok.ensures.ok.0) c.in-Ok.ensures.since.1 in
    let t : Three z row version c.word-readers.result c.word-holder.result c.word-number.result v u3 = three z (g.R.Rows.shape c.start.new.rows) (g.R.Rows.shape c.word-readers.new.rows) (g.R.Rows.shape c.word-holder.new.rows) row version c.word-readers.result c.word-holder.result c.word-number.result v (g.R.Rows.view c.start.new.seat) (g.R.Rows.view c.word-readers.new.seat) (g.R.Rows.view c.word-holder.new.seat) u3 e0 e1 e2 l hf
    c.word-readers.ensures.step c.word-holder.ensures.step c.word-number.ensures.step c.word-readers.ensures.knows c.word-holder.ensures.knows c.word-number.ensures.knows in
    let e = c.in-Err.ensures.err in record {
      stood = stood_then t.stood (stood_shape e3 (stood_look e.3));
      busy = λ alone free q. absurd (e.2 (e.3.steady (ap (λ (y : Shape). y.alone) e3 ∙ alone) version t.last ∙ sym e.1));
    }

pub returns-in-Ok-upgrade-clause-quietly : goal.returns-in-Ok-upgrade-clause-quietly
returns-in-Ok-upgrade-clause-quietly g c =
    let z = g.R.Rows.shape c.args.rows.now in
    let v = g.R.Rows.view c.args.seat.now in
    let row = c.in-Ok.glimpse.row in
    let version = c.in-Ok.glimpse.version in
    let u3 = g.R.Rows.view c.word-number.new.seat in
    let w = g.R.Rows.view c.upgrade.new.seat in
    let e0 = c.in-Ok.ensures.fits.1 in
    let e1 = c.word-readers.ensures.fits.1 ∙ e0 in
    let e2 = c.word-holder.ensures.fits.1 ∙ e1 in
    let e3 = c.word-number.ensures.fits.1 ∙ e2 in
    let l = subst (λ q. Looked z q (λ _. []) v version (g.R.Rows.view c.start.new.seat)) (sym c.in-Ok.ensures.ok.0) c.in-Ok.ensures.ok.3 in
    let hf = subst (λ q. HasFound q version v (g.R.Rows.view c.start.new.seat)) (sym c.in-Ok.ensures.ok.0) c.in-Ok.ensures.since.1 in
    let t : Three z row version c.word-readers.result c.word-holder.result c.word-number.result v u3 = three z (g.R.Rows.shape c.start.new.rows) (g.R.Rows.shape c.word-readers.new.rows) (g.R.Rows.shape c.word-holder.new.rows) row version c.word-readers.result c.word-holder.result c.word-number.result v (g.R.Rows.view c.start.new.seat) (g.R.Rows.view c.word-readers.new.seat) (g.R.Rows.view c.word-holder.new.seat) u3 e0 e1 e2 l hf
    c.word-readers.ensures.step c.word-holder.ensures.step c.word-number.ensures.step c.word-readers.ensures.knows c.word-holder.ensures.knows c.word-number.ensures.knows in
    let k = subst (λ (y : Shape). Taken y row version (λ _. []) u3 w) e3 c.in-Ok-upgrade.ensures.ok.1 in record {
      took = subst (λ q. Took z q v w) c.in-Ok.ensures.ok.0 (taken_all t.stood k);
      grew = taken_grew t.stood k;
      quiet = taken_quiet (lock_at c.requires.sized c.requires.place c.in-Ok.ensures.ok.0) c.requires.sound t.stood k c.args.floor c.word-readers.result c.word-holder.result c.word-number.result (c.are_quiet.ensures.yes c.if-not-are_quiet.false) t.readers t.holder t.number;
    }

pub returns-in-Err-Moved-clause-quietly : goal.returns-in-Err-Moved-clause-quietly
returns-in-Err-Moved-clause-quietly g c =
    let z = g.R.Rows.shape c.args.rows.now in
    let v = g.R.Rows.view c.args.seat.now in
    let row = c.in-Ok.glimpse.row in
    let version = c.in-Ok.glimpse.version in
    let u3 = g.R.Rows.view c.word-number.new.seat in
    let w = g.R.Rows.view c.upgrade.new.seat in
    let e0 = c.in-Ok.ensures.fits.1 in
    let e1 = c.word-readers.ensures.fits.1 ∙ e0 in
    let e2 = c.word-holder.ensures.fits.1 ∙ e1 in
    let e3 = c.word-number.ensures.fits.1 ∙ e2 in
    let l = subst (λ q. Looked z q (λ _. []) v version (g.R.Rows.view c.start.new.seat)) (sym c.in-Ok.ensures.ok.0) c.in-Ok.ensures.ok.3 in
    let hf = subst (λ q. HasFound q version v (g.R.Rows.view c.start.new.seat)) (sym c.in-Ok.ensures.ok.0) c.in-Ok.ensures.since.1 in
    let t : Three z row version c.word-readers.result c.word-holder.result c.word-number.result v u3 = three z (g.R.Rows.shape c.start.new.rows) (g.R.Rows.shape c.word-readers.new.rows) (g.R.Rows.shape c.word-holder.new.rows) row version c.word-readers.result c.word-holder.result c.word-number.result v (g.R.Rows.view c.start.new.seat) (g.R.Rows.view c.word-readers.new.seat) (g.R.Rows.view c.word-holder.new.seat) u3 e0 e1 e2 l hf
    c.word-readers.ensures.step c.word-holder.ensures.step c.word-number.ensures.step c.word-readers.ensures.knows c.word-holder.ensures.knows c.word-number.ensures.knows in
    let e = subst (λ (x : Unheld). NotHeld (g.R.Rows.shape c.word-number.new.rows) row version (λ _. []) u3 x w) c.in-Err-Moved.field-0-is c.in-Err-Moved.ensures.err in record {
      stood = stood_then t.stood (stood_shape e3 (stood_look e.2.looked));
      busy = λ alone free q. absurd (e.2.other (e.2.looked.steady (ap (λ (y : Shape). y.alone) e3 ∙ alone) version t.last));
    }

pub returns-in-Err-RowSpent-clause-quietly : goal.returns-in-Err-RowSpent-clause-quietly
returns-in-Err-RowSpent-clause-quietly g c =
    let z = g.R.Rows.shape c.args.rows.now in
    let v = g.R.Rows.view c.args.seat.now in
    let row = c.in-Ok.glimpse.row in
    let version = c.in-Ok.glimpse.version in
    let u0 = g.R.Rows.view c.start.new.seat in
    let u3 = g.R.Rows.view c.word-number.new.seat in
    let w = g.R.Rows.view c.upgrade.new.seat in
    let e0 = c.in-Ok.ensures.fits.1 in
    let e1 = c.word-readers.ensures.fits.1 ∙ e0 in
    let e2 = c.word-holder.ensures.fits.1 ∙ e1 in
    let l = subst (λ q. Looked z q (λ _. []) v version u0) (sym c.in-Ok.ensures.ok.0) c.in-Ok.ensures.ok.3 in
    let hf = subst (λ q. HasFound q version v (g.R.Rows.view c.start.new.seat)) (sym c.in-Ok.ensures.ok.0) c.in-Ok.ensures.since.1 in
    let t : Three z row version c.word-readers.result c.word-holder.result c.word-number.result v u3 = three z (g.R.Rows.shape c.start.new.rows) (g.R.Rows.shape c.word-readers.new.rows) (g.R.Rows.shape c.word-holder.new.rows) row version c.word-readers.result c.word-holder.result c.word-number.result v u0 (g.R.Rows.view c.word-readers.new.seat) (g.R.Rows.view c.word-holder.new.seat) u3 e0 e1 e2 l hf
    c.word-readers.ensures.step c.word-holder.ensures.step c.word-number.ensures.step c.word-readers.ensures.knows c.word-holder.ensures.knows c.word-number.ensures.knows in
    let e = subst (λ (x : Unheld). NotHeld (g.R.Rows.shape c.word-number.new.rows) row version (λ _. []) u3 x w) c.in-Err-RowSpent.field-0-is c.in-Err-RowSpent.ensures.err in
    let stood = subst (λ x. Stood z.alone v x) (sym e.1) t.stood in record {
      stood = stood;
      version = version;
      last = e.0;
      found = subst (λ x. Found (c.args.frames + c.args.place) version v x) (sym e.1) (subst (λ q. Found q version v u3) c.in-Ok.ensures.ok.0 t.found);
    }
