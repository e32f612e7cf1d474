use Rattle.row_crashes.proofs.CarryLemmas.{flush_moments, flush_second}
use Rattle.row_crashes.proofs.calls.flush_second.Goals as goal

pub returns-in-Ok-clause-stands : goal.returns-in-Ok-clause-stands
returns-in-Ok-clause-stands g c first =
    let s = g.D.Disk.story in
    flush_second c.every_version.ensures first c.args.second.now c.flush.new.log (s c.args.disk.now) (s c.flush.new.disk) c.requires.last c.in-Ok.ensures.stands

pub returns-in-Ok-clause-any_moment : goal.returns-in-Ok-clause-any_moment
returns-in-Ok-clause-any_moment g c first =
    let s = g.D.Disk.story in
    flush_moments first c.args.second.now (s c.args.disk.now) (s c.flush.new.disk) c.flush.ensures.any_moment

pub returns-in-Err-clause-any_moment : goal.returns-in-Err-clause-any_moment
returns-in-Err-clause-any_moment g c first =
    let s = g.D.Disk.story in
    flush_moments first c.args.second.now (s c.args.disk.now) (s c.flush.new.disk) c.flush.ensures.any_moment
