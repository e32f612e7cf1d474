use Rattle.std.proofs.Common.{◌∙◌, refl, sym}
use Rattle.session_state.proofs.HoldLemmas.{holds_as}
use Rattle.row_ends.proofs.MissLemmas.{longer, missed_from, start_among, start_mine}
use Rattle.row_ends.proofs.latching.latch_held.Goals as goal

pub latch_rows-requires-clause-mine : goal.latch_rows-requires-clause-mine
latch_rows-requires-clause-mine g c = start_mine c.args.session.now.frames c.args.session.now.held.count c.args.latches.now (g.R.Rows.view c.args.seat.now).held c.requires.unmarked c.requires.holds.idle

pub latch_rows-requires-clause-among : goal.latch_rows-requires-clause-among
latch_rows-requires-clause-among g c = start_among c.args.session.now.held.count c.args.latches.now c.args.session.now.held.rows c.requires.unmarked

pub returns-then-latch_rows-clause-latched : goal.returns-then-latch_rows-clause-latched
returns-then-latch_rows-clause-latched g c _ =
    let x = c.args.session.now in
    let v = g.R.Rows.view c.args.seat.now in
    let l = c.latch_rows.ensures.latching in record {
      given = l.given;
      seen = l.seen;
      latched = record {
        before = v;
        holds = holds_as (g.R.Rows.shape c.args.rows.now) (g.R.Rows.shape c.latch_rows.new.rows) v x x c.args.log.now c.latch_rows.ensures.fits.1 refl c.requires.holds;
        room = c.next_fits.ensures;
        latching = l;
        all = c.latch_rows.ensures.all c.if-latch_rows.true;
      };
    }

pub returns-clause-missed : goal.returns-clause-missed
returns-clause-missed g c _ =
    let v = g.R.Rows.view c.args.seat.now in
    let u = g.R.Rows.view c.latch_rows.new.seat in
    let w = g.R.Rows.view c.unlatch_rows.new.seat in
    let l = c.latch_rows.ensures.latching in
    (missed_from _ v u w l.given l.seen c.unlatch_rows.ensures.missed, longer _ u w c.unlatch_rows.ensures.missed (c.latch_rows.ensures.spent c.if-latch_rows.false), c.unlatch_rows.ensures.unmarked ∙ sym c.requires.unmarked)
