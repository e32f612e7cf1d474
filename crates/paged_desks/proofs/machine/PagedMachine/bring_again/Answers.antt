use Rattle.std.proofs.Common.{◌≡◌, ◌∙◌, ap, refl, subst, sym, ℕ, Option, Err}
use Rattle.lean_disk.specs.Faults.{HasCause}
use Rattle.paged_desks.specs.Inside.{HasDone}
use Rattle.paged_desks.specs.Pages.{IsTightFor, goes_on}
use Rattle.paged_desks.specs.Parts.{IsLate}
use Rattle.paged_desks.specs.Machines.{IsReady, pages, view_of}
use Rattle.paged_desks.specs.declared.warming.Unwarmed.TheVariants as refused
use Rattle.paged_desks.proofs.Breaking.{stop_broken}
use Rattle.paged_desks.proofs.Late.{late_of}
use Rattle.paged_desks.proofs.Losses.{unread_of}
use Rattle.paged_desks.proofs.Stopping.{pages_refused, stop_keeps}
use Rattle.paged_desks.proofs.Stops.{err_same, refusing, stop_cause, stop_works, broken_is}
use Rattle.paged_desks.proofs.Warmth.{comes_of, paged_is, well_of}
use Rattle.paged_desks.proofs.machine.PagedMachine.bring_again.Goals as goal

pub stop-requires-clause-page : goal.stop-requires-clause-page
stop-requires-clause-page g c κs within =
    let m = c.args.self.now in
    let n = c.bring.new.self in
    pages_refused g.D.Disk.story c.args.key c.args.wanted m n c.in-Err.why c.laws.ensures.reached c.laws.ensures.low c.laws.ensures.sequel c.requires.ready c.requires.low c.in-Err.ensures.err

pub returns-in-Ok-clause-done : goal.returns-in-Ok-clause-done
returns-in-Ok-clause-done g c _ =
    c.in-Ok.ensures.done (well_of c.args.key c.args.wanted (pages c.args.self.now) (pages c.bring.new.self) c.in-Ok.come c.in-Ok.ensures.ok c.requires.ready.well)

pub returns-in-Ok-clause-comes : goal.returns-in-Ok-clause-comes
returns-in-Ok-clause-comes g c =
    let m = c.args.self.now in
    let n = c.bring.new.self in
    comes_of c.args.key c.args.wanted m n c.laws.ensures.warm c.laws.ensures.sequel (paged_is c.requires.ready) (paged_is (c.in-Ok.ensures.ready (well_of c.args.key c.args.wanted (pages m) (pages n) c.in-Ok.come c.in-Ok.ensures.ok c.requires.ready.well))) c.in-Ok.come c.in-Ok.ensures.ok

pub returns-in-Err-clause-works : goal.returns-in-Err-clause-works
returns-in-Err-clause-works g c =
    let m = c.args.self.now in
    let n = c.bring.new.self in
    let e = c.in-Err.ensures.err in
    let why = c.in-Err.why in
    stop_works (Option ℕ) why c.stop.result n.pager.broken n.machine.work.session.works c.stop.new.self.machine.work.session.works c.stop.ensures.why
    (pages_refused g.D.Disk.story c.args.key c.args.wanted m n why c.laws.ensures.reached c.laws.ensures.low c.laws.ensures.sequel c.requires.ready c.requires.low e)
    (broken_is c.args.key c.args.wanted (pages m) (pages n) why c.requires.ready.well e) (ap (λ s. s.works) c.in-Err.ensures.beside.session ∙ c.requires.ready.works)
    (λ b. ap (λ o. o.machine.work.session.works) (c.stop.ensures.goes_on b)) (λ b. (c.stop.ensures.stops b).works)

pub returns-in-Err-clause-ready : goal.returns-in-Err-clause-ready
returns-in-Err-clause-ready g c =
    let m = c.args.self.now in
    let n = c.bring.new.self in
    let e = c.in-Err.ensures.err in
    let why = c.in-Err.why in
    stop_keeps g.D.Disk.story c.args.key c.args.wanted m n c.stop.new.self why c.stop.result c.requires.ready e (pages_refused g.D.Disk.story c.args.key c.args.wanted m n why c.laws.ensures.reached c.laws.ensures.low c.laws.ensures.sequel c.requires.ready c.requires.low e)
    c.stop.ensures.why c.stop.ensures.goes_on (Option ℕ) (IsReady g.D.Disk.story) c.in-Err.ensures.ready

pub returns-in-Err-clause-done : goal.returns-in-Err-clause-done
returns-in-Err-clause-done g c =
    let m = c.args.self.now in
    let n = c.bring.new.self in
    let e = c.in-Err.ensures.err in
    let why = c.in-Err.why in
    stop_keeps g.D.Disk.story c.args.key c.args.wanted m n c.stop.new.self why c.stop.result c.requires.ready e (pages_refused g.D.Disk.story c.args.key c.args.wanted m n why c.laws.ensures.reached c.laws.ensures.low c.laws.ensures.sequel c.requires.ready c.requires.low e)
    c.stop.ensures.why c.stop.ensures.goes_on (Option ℕ) (HasDone g.D.Disk.story (IsTightFor c.args.wanted c.args.key) 15 m) c.in-Err.ensures.done

pub returns-in-Err-clause-cause_disk_fault : goal.returns-in-Err-clause-cause_disk_fault
returns-in-Err-clause-cause_disk_fault g c =
    let m = c.args.self.now in
    let n = c.bring.new.self in
    let e = c.in-Err.ensures.err in
    let why = c.in-Err.why in
    subst (λ d. HasCause (g.D.Disk.faults m.machine.work.disk) (g.D.Disk.faults d) (refusing c.stop.result ≡ refusing refused.DiskFault)) (sym c.stop.ensures.disk)
    (stop_cause (g.D.Disk.faults m.machine.work.disk) (g.D.Disk.faults n.machine.work.disk) (Err why) why c.stop.result refl c.stop.ensures.why
    (pages_refused g.D.Disk.story c.args.key c.args.wanted m n why c.laws.ensures.reached c.laws.ensures.low c.laws.ensures.sequel c.requires.ready c.requires.low e) c.in-Err.ensures.cause_disk_fault)

pub returns-in-Err-clause-broke : goal.returns-in-Err-clause-broke
returns-in-Err-clause-broke g c =
    let m = c.args.self.now in
    let n = c.bring.new.self in
    let e = c.in-Err.ensures.err in
    let why = c.in-Err.why in
    stop_broken m n c.stop.new.self (Option ℕ) why c.stop.result c.stop.ensures.why (pages_refused g.D.Disk.story c.args.key c.args.wanted m n why c.laws.ensures.reached c.laws.ensures.low c.laws.ensures.sequel c.requires.ready c.requires.low e)
    (broken_is c.args.key c.args.wanted (pages m) (pages n) why c.requires.ready.well e) c.in-Err.ensures.broke c.stop.ensures.stops

pub returns-in-Err-clause-spent : goal.returns-in-Err-clause-spent
returns-in-Err-clause-spent g c r =
    let m = c.args.self.now in
    let n = c.bring.new.self in
    let e = c.in-Err.ensures.err in
    let why = c.in-Err.why in
    let page = pages_refused g.D.Disk.story c.args.key c.args.wanted m n why c.laws.ensures.reached c.laws.ensures.low c.laws.ensures.sequel c.requires.ready c.requires.low e in
    let u = err_same (refusing c.stop.result) (refusing refused.RowSpent) c.stop.result refused.RowSpent refl refl r in
    stop_keeps g.D.Disk.story c.args.key c.args.wanted m n c.stop.new.self why c.stop.result c.requires.ready e page c.stop.ensures.why c.stop.ensures.goes_on (Option ℕ) (λ o. IsLate (view_of o))
    (λ _. late_of (view_of n) why page (sym c.stop.ensures.why ∙ u) c.in-Err.ensures.late) (ap (λ x. goes_on {A = Option ℕ} (refusing x)) u)

pub returns-in-Err-clause-unread : goal.returns-in-Err-clause-unread
returns-in-Err-clause-unread g c = unread_of g.D.Disk.story c.args.self.now c.in-Err.why c.stop.result c.stop.ensures.why c.in-Err.ensures.away
