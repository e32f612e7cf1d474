use Rattle.std.proofs.lemmas.Result.{on_ok_weaker}
use Rattle.row_crashes.proofs.CarryLemmas.{change_first, change_first_moments}
use Rattle.row_crashes.proofs.calls.change_first.Goals as goal

pub returns-clause-stands : goal.returns-clause-stands
returns-clause-stands g c =
    let s = g.D.Disk.story in
    on_ok_weaker c.stage.result (λ stages second. change_first c.every_version.ensures c.args.first.now c.stage.new.log second (s c.args.disk.now) (s c.stage.new.disk) stages)
    c.stage.ensures.stands

pub returns-clause-any_moment : goal.returns-clause-any_moment
returns-clause-any_moment g c second =
    let s = g.D.Disk.story in
    change_first_moments c.every_version.ensures c.args.first.now second (s c.args.disk.now) (s c.stage.new.disk) c.stage.ensures.any_moment
