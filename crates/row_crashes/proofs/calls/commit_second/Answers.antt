use Rattle.std.proofs.lemmas.Result.{on_ok_weaker}
use Rattle.row_crashes.proofs.CarryLemmas.{change_again_moments, commits, commits_2, commits_3}
use Rattle.row_crashes.proofs.calls.commit_second.Goals as goal

pub returns-in_err-stage-clause-any_moment : goal.returns-in_err-stage-clause-any_moment
returns-in_err-stage-clause-any_moment g c first =
    let s = g.D.Disk.story in
    change_again_moments c.every_version.ensures first c.args.second.now (s c.args.disk.now) (s c.stage.new.disk) c.stage.ensures.any_moment

pub returns-in-Ok-clause-stands : goal.returns-in-Ok-clause-stands
returns-in-Ok-clause-stands g c =
    let s = g.D.Disk.story in
    on_ok_weaker c.flush_second.result (λ flushes first. commits c.every_version.ensures first c.args.second.now c.stage.new.log c.stage_end.new.log c.flush_second.new.second (s
    c.args.disk.now) (s c.stage.new.disk) (s c.stage_end.new.disk) (s c.flush_second.new.disk) c.in_ok-stage.ensures.stands c.in-Ok.ensures.stands (flushes first))
    c.flush_second.ensures.stands

pub returns-in-Ok-clause-any_moment : goal.returns-in-Ok-clause-any_moment
returns-in-Ok-clause-any_moment g c first =
    let s = g.D.Disk.story in
    commits_3 c.every_version.ensures first c.args.second.now c.stage.new.log c.stage_end.new.log c.flush_second.new.second (s c.args.disk.now) (s c.stage.new.disk) (s
    c.stage_end.new.disk) (s c.flush_second.new.disk) c.in_ok-stage.ensures.stands c.in-Ok.ensures.stands c.stage.ensures.any_moment c.stage_end.ensures.any_moment
    (c.flush_second.ensures.any_moment first)

pub returns-in-Err-clause-any_moment : goal.returns-in-Err-clause-any_moment
returns-in-Err-clause-any_moment g c first =
    let s = g.D.Disk.story in
    commits_2 c.every_version.ensures first c.args.second.now c.stage.new.log c.stage_end.new.log c.stage_end.new.log (s c.args.disk.now) (s c.stage.new.disk) (s
    c.stage_end.new.disk) (s c.stage_end.new.disk) c.in_ok-stage.ensures.stands c.stage.ensures.any_moment c.stage_end.ensures.any_moment
