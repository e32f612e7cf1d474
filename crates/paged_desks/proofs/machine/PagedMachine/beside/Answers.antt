use Rattle.std.proofs.Common.{◌*◌, ◌≤◌, arith, ap, refl, subst, ℕ, Option, Ok}
use Rattle.paged_rows.specs.declared.wanted.Wanted.TheVariants as want
use Rattle.paged_desks.specs.Inside.{Comes}
use Rattle.paged_desks.specs.Pages.{IsTightFor, goes_on, most_a_level}
use Rattle.paged_desks.specs.declared.warming.Unwarmed.TheVariants as refused
use Rattle.paged_desks.proofs.Breaking.{broken_up, failed_of}
use Rattle.paged_desks.proofs.Doing.{gone_of}
use Rattle.paged_desks.proofs.Late.{half_kept, spent_from}
use Rattle.paged_desks.proofs.Losses.{damaged_of}
use Rattle.paged_desks.proofs.Stops.{frame_same, frameless_by, refusing}
use Rattle.paged_desks.proofs.Warmth.{near_of}
use Rattle.paged_desks.proofs.machine.PagedMachine.beside.Goals as goal

pub returns-in-Ok-Some-clause-gone : goal.returns-in-Ok-Some-clause-gone
returns-in-Ok-Some-clause-gone g c _ =
    let m = c.args.self.now in
    gone_of g.D.Disk.story m c.requires.ready c.laws.ensures.frames (IsTightFor (want.Beside c.args.page) c.args.key) (most_a_level m.machine.work.session.workers) c.bring_or_sync.new.self (omega arith) (c.in-Ok-Some.ensures.done refl)

pub returns-in-Ok-Some-clause-near : goal.returns-in-Ok-Some-clause-near
returns-in-Ok-Some-clause-near g c =
    let d = c.in-Ok-Some.ensures.done refl in
    near_of c.args.key c.args.page c.in-Ok-Some.place c.requires.ready (c.in-Ok-Some.ensures.ready refl) d.paged.given (subst (λ (come : Option ℕ). Comes c.args.key (want.Beside c.args.page) come c.args.self.now c.bring_or_sync.new.self) c.in-Ok-Some.field-0-is c.in-Ok-Some.ensures.comes)

pub returns-in-Ok-Some-clause-damaged : goal.returns-in-Ok-Some-clause-damaged
returns-in-Ok-Some-clause-damaged g c page e = damaged_of g.D.Disk.story c.args.self.now (Ok c.in-Ok-Some.place) tt page e

pub returns-in-Err-clause-gone : goal.returns-in-Err-clause-gone
returns-in-Err-clause-gone g c on =
    let m = c.args.self.now in
    gone_of g.D.Disk.story m c.requires.ready c.laws.ensures.frames (IsTightFor (want.Beside c.args.page) c.args.key) (most_a_level m.machine.work.session.workers) c.bring_or_sync.new.self (omega arith) (c.in-Err.ensures.done on)

pub returns-in-Err-clause-failed : goal.returns-in-Err-clause-failed
returns-in-Err-clause-failed g c off =
    let m = c.args.self.now in
    let few : most_a_level m.machine.work.session.workers ≤ 9 * most_a_level m.machine.work.session.workers = omega arith in
    failed_of g.D.Disk.story m c.bring_or_sync.new.self c.requires.ready c.laws.ensures.frames (broken_up few (c.in-Err.ensures.broke off))

pub returns-in-Err-clause-tight : goal.returns-in-Err-clause-tight
returns-in-Err-clause-tight g c r = c.in-Err.ensures.stuck (ap refusing (frame_same c.in-Err.why refused.RowSpent r))

pub returns-in-Err-clause-spent : goal.returns-in-Err-clause-spent
returns-in-Err-clause-spent g c r =
    let why = frame_same c.in-Err.why refused.RowSpent r in
    let d = c.in-Err.ensures.done (ap (λ u. goes_on (refusing u)) why) in
    spent_from (IsTightFor (want.Beside c.args.page) c.args.key) c.args.self.now c.bring_or_sync.new.self (half_kept d.paged.same.0 d.paged.sessions) (c.in-Err.ensures.stuck (ap refusing why))

pub returns-in-Err-clause-damaged : goal.returns-in-Err-clause-damaged
returns-in-Err-clause-damaged g c page e = damaged_of g.D.Disk.story c.args.self.now (frameless_by c.in-Err.why) c.in-Err.ensures.unread page e
