use Rattle.std.proofs.Common.{◌≡◌, ◌≤◌, length, []}
use Rattle.row_changes.specs.session_state.Holds.{Holds}
use Rattle.row_scans.specs.Inside.{AreFirst, AreHeld}
use Rattle.row_scans.specs.Meets.{HasTaken, IsButRows}
use Rattle.row_scans.proofs.MeetLemmas.{rows_of}
use Rattle.row_scans.proofs.meets.meet.Given as goal

abbrev pub invariant-loop-turn : goal.invariant-loop-turn
invariant-loop-turn g l =
    let v = g.R.Rows.view l.fn.seat in
    let u = g.R.Rows.view l.seat in
    record {
      fits : g.R.Rows.fits l.rows l.seat;
      shape : g.R.Rows.shape l.rows ≡ g.R.Rows.shape l.fn.rows;
      holds : Holds (g.R.Rows.shape l.rows) u l.session l.fn.log;
      session : IsButRows l.fn.session l.session;
      count : length l.taken ≡ l._turn;
      few : length l.taken ≤ 60;
      rows : HasTaken l.fn.session.own (rows_of v l.taken) v u;
      held : AreHeld l.session l.taken;
      first : AreFirst u l.fn.key l.taken;
      none : l.taken ≡ [] → l.session ≡ l.fn.session;
    }
