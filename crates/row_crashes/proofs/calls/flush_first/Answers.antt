use Rattle.std.proofs.lemmas.Result.{on_ok_weaker}
use Rattle.row_crashes.proofs.CarryLemmas.{flush_first}
use Rattle.row_crashes.proofs.LeftLemmas.{left_moments}
use Rattle.row_crashes.proofs.calls.flush_first.Goals as goal

pub returns-clause-stands : goal.returns-clause-stands
returns-clause-stands g c =
    let s = g.D.Disk.story in
    on_ok_weaker c.flush.result (λ flushes second. flush_first c.every_version.ensures c.args.first.now c.flush.new.log second (s c.args.disk.now) (s c.flush.new.disk)
    c.requires.last flushes) c.flush.ensures.stands

pub returns-clause-any_moment : goal.returns-clause-any_moment
returns-clause-any_moment g c second =
    let s = g.D.Disk.story in
    left_moments c.every_held.ensures c.args.first.now second (s c.args.disk.now) (s c.flush.new.disk) c.flush.ensures.any_moment
