use Rattle.std.proofs.Common.{arith}
use Rattle.paged_engine.proofs.seats.seat_sessions.Goals as goal

pub further_desks-requires-clause-workers : goal.further_desks-requires-clause-workers
further_desks-requires-clause-workers c =
    let e = c.in_ok-session.ensures.workers in
    let l = c.requires.valid.1.logs.0 in
    let h = c.requires.valid.1.logs.1 in
    (omega arith, omega arith)

pub returns : goal.returns
returns c = record { first = c.in_ok-session.ensures; log = c.in_ok-log.ensures; further = c.in_ok-desks.ensures; latches = c.in_ok-latches.ensures.none }
