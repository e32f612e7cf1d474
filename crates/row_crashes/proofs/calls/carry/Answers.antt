use Rattle.std.proofs.Common.{[]}
use Rattle.std.proofs.lemmas.Result.{on_ok_weaker}
use Rattle.row_crashes.proofs.CarryLemmas.{carried, lives, moments_2, moments_3}
use Rattle.row_crashes.proofs.calls.carry.Goals as goal

pub returns-in_err-change_first-clause-any_moment : goal.returns-in_err-change_first-clause-any_moment
returns-in_err-change_first-clause-any_moment g c =
    c.change_first.ensures.any_moment c.args.second.now

pub returns-in_err-change_first-clause-lives : goal.returns-in_err-change_first-clause-lives
returns-in_err-change_first-clause-lives g c =
    let s = g.D.Disk.story in
    lives c.every_survival.ensures [] c.args.first.now c.args.second.now (s c.args.disk.now) (s c.change_first.new.disk) (c.change_first.ensures.any_moment c.args.second.now)

pub returns-in_err-abort_second-clause-any_moment : goal.returns-in_err-abort_second-clause-any_moment
returns-in_err-abort_second-clause-any_moment g c =
    let s = g.D.Disk.story in
    moments_2 c.args.first.now c.change_first.new.first c.args.second.now c.abort_second.new.second c.abort_second.new.second (s c.args.disk.now) (s c.change_first.new.disk) (s c.abort_second.new.disk) (s c.abort_second.new.disk)
    (c.in_ok-change_first.ensures.stands c.args.second.now) (c.change_first.ensures.any_moment c.args.second.now) (c.abort_second.ensures.any_moment c.change_first.new.first)

pub returns-in_err-abort_second-clause-lives : goal.returns-in_err-abort_second-clause-lives
returns-in_err-abort_second-clause-lives g c =
    let s = g.D.Disk.story in
    lives c.every_survival.ensures [] c.args.first.now c.args.second.now (s c.args.disk.now) (s c.abort_second.new.disk) (moments_2 c.args.first.now c.change_first.new.first c.args.second.now c.abort_second.new.second c.abort_second.new.second (s c.args.disk.now) (s c.change_first.new.disk) (s c.abort_second.new.disk) (s c.abort_second.new.disk)
    (c.in_ok-change_first.ensures.stands c.args.second.now) (c.change_first.ensures.any_moment c.args.second.now) (c.abort_second.ensures.any_moment c.change_first.new.first))

pub returns-clause-stands : goal.returns-clause-stands
returns-clause-stands g c =
    let s = g.D.Disk.story in
    on_ok_weaker c.commit_second.result
    (λ commits. carried c.args.first.now c.change_first.new.first c.args.second.now c.abort_second.new.second c.commit_second.new.second (s c.args.disk.now) (s c.change_first.new.disk) (s c.abort_second.new.disk) (s c.commit_second.new.disk)
    (c.in_ok-change_first.ensures.stands c.args.second.now) (c.in_ok-abort_second.ensures.stands c.change_first.new.first) (commits c.change_first.new.first)) c.commit_second.ensures.stands

pub returns-clause-any_moment : goal.returns-clause-any_moment
returns-clause-any_moment g c =
    let s = g.D.Disk.story in
    let two = moments_2 c.args.first.now c.change_first.new.first c.args.second.now c.abort_second.new.second c.commit_second.new.second (s c.args.disk.now) (s c.change_first.new.disk) (s c.abort_second.new.disk) (s c.commit_second.new.disk)
    (c.in_ok-change_first.ensures.stands c.args.second.now) (c.change_first.ensures.any_moment c.args.second.now) (c.abort_second.ensures.any_moment c.change_first.new.first) in
    moments_3 c.args.first.now c.change_first.new.first c.args.second.now c.abort_second.new.second c.commit_second.new.second (s c.args.disk.now) (s c.change_first.new.disk) (s c.abort_second.new.disk) (s c.commit_second.new.disk)
    (c.in_ok-change_first.ensures.stands c.args.second.now) (c.in_ok-abort_second.ensures.stands c.change_first.new.first) two (c.commit_second.ensures.any_moment c.change_first.new.first)

pub returns-clause-lives : goal.returns-clause-lives
returns-clause-lives g c =
    let s = g.D.Disk.story in
    let two = moments_2 c.args.first.now c.change_first.new.first c.args.second.now c.abort_second.new.second c.commit_second.new.second (s c.args.disk.now) (s c.change_first.new.disk) (s c.abort_second.new.disk) (s c.commit_second.new.disk)
    (c.in_ok-change_first.ensures.stands c.args.second.now) (c.change_first.ensures.any_moment c.args.second.now) (c.abort_second.ensures.any_moment c.change_first.new.first) in
    lives c.every_survival.ensures [] c.args.first.now c.args.second.now (s c.args.disk.now) (s c.commit_second.new.disk)
    (moments_3 c.args.first.now c.change_first.new.first c.args.second.now c.abort_second.new.second c.commit_second.new.second (s c.args.disk.now) (s c.change_first.new.disk) (s c.abort_second.new.disk) (s c.commit_second.new.disk)
    (c.in_ok-change_first.ensures.stands c.args.second.now) (c.in_ok-abort_second.ensures.stands c.change_first.new.first) two (c.commit_second.ensures.any_moment c.change_first.new.first))
