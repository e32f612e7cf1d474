use Rattle.row_crashes.proofs.CarryLemmas.{aborts, aborts_2, aborts_3, change_second_moments}
use Rattle.row_crashes.proofs.calls.abort_second.Goals as goal

pub returns-in_err-stage-clause-any_moment : goal.returns-in_err-stage-clause-any_moment
returns-in_err-stage-clause-any_moment g c first =
    let s = g.D.Disk.story in
    change_second_moments c.every_version.ensures first c.args.second.now (s c.args.disk.now) (s c.stage.new.disk) c.stage.ensures.any_moment

pub returns-in_err-stage-2-clause-any_moment : goal.returns-in_err-stage-2-clause-any_moment
returns-in_err-stage-2-clause-any_moment g c first =
    let s = g.D.Disk.story in
    aborts_2 c.every_version.ensures first c.args.second.now c.stage.new.log c.stage-2.new.log c.stage-2.new.log (s c.args.disk.now) (s c.stage.new.disk) (s c.stage-2.new.disk) (s
    c.stage-2.new.disk) c.in_ok-stage.ensures.stands c.stage.ensures.any_moment c.stage-2.ensures.any_moment

pub returns-in-Ok-clause-stands : goal.returns-in-Ok-clause-stands
returns-in-Ok-clause-stands g c first =
    let s = g.D.Disk.story in
    aborts c.every_version.ensures first c.args.second.now c.stage.new.log c.stage-2.new.log c.stage_end.new.log (s c.args.disk.now) (s c.stage.new.disk) (s c.stage-2.new.disk) (s
    c.stage_end.new.disk) c.in_ok-stage.ensures.stands c.in_ok-stage-2.ensures.stands c.in-Ok.ensures.stands

pub returns-in-Ok-clause-any_moment : goal.returns-in-Ok-clause-any_moment
returns-in-Ok-clause-any_moment g c first =
    let s = g.D.Disk.story in
    aborts_3 c.every_version.ensures first c.args.second.now c.stage.new.log c.stage-2.new.log c.stage_end.new.log (s c.args.disk.now) (s c.stage.new.disk) (s c.stage-2.new.disk)
    (s c.stage_end.new.disk) c.in_ok-stage.ensures.stands c.in_ok-stage-2.ensures.stands c.stage.ensures.any_moment c.stage-2.ensures.any_moment c.stage_end.ensures.any_moment

pub returns-in-Err-clause-any_moment : goal.returns-in-Err-clause-any_moment
returns-in-Err-clause-any_moment g c first =
    let s = g.D.Disk.story in
    aborts_3 c.every_version.ensures first c.args.second.now c.stage.new.log c.stage-2.new.log c.stage_end.new.log (s c.args.disk.now) (s c.stage.new.disk) (s c.stage-2.new.disk)
    (s c.stage_end.new.disk) c.in_ok-stage.ensures.stands c.in_ok-stage-2.ensures.stands c.stage.ensures.any_moment c.stage-2.ensures.any_moment c.stage_end.ensures.any_moment
