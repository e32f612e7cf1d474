use Rattle.std.proofs.Common.{◌∙◌, ◌*◌, Err, ap, arith, refl, sym, subst, true≢false}
use Rattle.paged_desks.specs.engine_trait.declared.unserved.Unserved.{Unserved}
use Rattle.paged_desks.proofs.EndingLemmas.{Grounds}
use Rattle.paged_desks.specs.Pages.{most_a_level}
use Rattle.paged_desks.specs.declared.warming.Unwarmed.TheVariants as stopped
use Rattle.paged_desks.specs.session_state.Undo.{newest_of}
use Rattle.paged_aborts.specs.Backs.{OneLess, PutsBack, most_a_back}
use Rattle.paged_aborts.proofs.BackWarms.{come_refused, tried_err, tried_lost, tried_ok}
use Rattle.paged_aborts.proofs.CauseLemmas.{cause_at, cause_lost, cause_ok, cause_try, cause_warm, cold_never, fits_unwarmed, lost_never, lost_works, newest_as, ok_err, ready_unwarmed, same_then, same_unwarmed, some_left, tried_works, warm_newest, works_unwarmed}
use Rattle.paged_aborts.proofs.UndoneLemmas.{open_kept, undo_kept, undone_come}
use Rattle.paged_aborts.proofs.backs.put_back_behind.Goals as goal

pub returns-in-Err-clause-backs : goal.returns-in-Err-clause-backs
returns-in-Err-clause-backs g c =
    let e = c.laws.ensures in
    let l : Grounds = record { reached = e.reached; needs = e.needs; versions = e.versions; kept = e.kept; prefixes = e.prefixes; seals = e.seals } in
    let lawful = (g.met.D.Disk g.world.𝓛 g.world.𝓜 g.world.𝓡 ((λ s x. x), (λ x. x), (λ x. x), (λ x. x))).lawful in
    let story = g.D.Disk.story in
    let m = c.args.machine.now in
    let w = c.in-Err.ensures in
    subst (λ (why : Unserved). PutsBack story (most_a_back m.machine.work.session.workers) OneLess (Err why) m c.warm.new.self) (sym c.unserved_of.ensures)
    (come_refused l e.places story lawful c.args.key m c.warm.new.self c.requires.ready OneLess c.in-Err.why w.gone w.failed w.tight w.damaged)

pub returns-in-Err-clause-works : goal.returns-in-Err-clause-works
returns-in-Err-clause-works g c = works_unwarmed g.D.Disk.story c.args.key 0 c.args.machine.now c.warm.new.self c.in-Err.why c.unserved_of.result c.unserved_of.ensures c.in-Err.ensures.works

pub returns-in-Err-clause-ready : goal.returns-in-Err-clause-ready
returns-in-Err-clause-ready g c = ready_unwarmed g.D.Disk.story c.args.key 0 c.args.machine.now c.warm.new.self c.in-Err.why c.unserved_of.result c.unserved_of.ensures c.in-Err.ensures.ready

pub returns-in-Err-clause-fits : goal.returns-in-Err-clause-fits
returns-in-Err-clause-fits g c = fits_unwarmed g.D.Disk.story c.args.key 0 c.args.machine.now c.warm.new.self c.in-Err.why c.in-Err.ensures.ready c.in-Err.ensures.failed

pub returns-in-Err-clause-session : goal.returns-in-Err-clause-session
returns-in-Err-clause-session g c = same_unwarmed g.D.Disk.story c.args.key _ c.args.machine.now c.warm.new.self c.in-Err.why c.in-Err.ensures.gone c.in-Err.ensures.failed

pub returns-in-Err-clause-cause_disk_fault : goal.returns-in-Err-clause-cause_disk_fault
returns-in-Err-clause-cause_disk_fault g c = cause_warm _ _ c.in-Err.why c.unserved_of.result c.unserved_of.ensures c.in-Err.ensures.cause_disk_fault

pub put_back_in_leaf-requires-clause-is_open : goal.put_back_in_leaf-requires-clause-is_open
put_back_in_leaf-requires-clause-is_open g c κs within =
    let e = c.laws.ensures in
    let l : Grounds = record { reached = e.reached; needs = e.needs; versions = e.versions; kept = e.kept; prefixes = e.prefixes; seals = e.seals } in
    let lawful = (g.met.D.Disk g.world.𝓛 g.world.𝓜 g.world.𝓡 ((λ s x. x), (λ x. x), (λ x. x), (λ x. x))).lawful in
    let story = g.D.Disk.story in
    let m = c.args.machine.now in
    open_kept l e.places story lawful m c.warm.new.self c.requires.ready (c.in_default.ensures.gone refl).paged ∙ c.requires.is_open

pub put_back_in_leaf-requires-clause-left : goal.put_back_in_leaf-requires-clause-left
put_back_in_leaf-requires-clause-left g c κs within =
    let e = c.laws.ensures in
    let l : Grounds = record { reached = e.reached; needs = e.needs; versions = e.versions; kept = e.kept; prefixes = e.prefixes; seals = e.seals } in
    let lawful = (g.met.D.Disk g.world.𝓛 g.world.𝓜 g.world.𝓡 ((λ s x. x), (λ x. x), (λ x. x), (λ x. x))).lawful in
    let story = g.D.Disk.story in
    let m = c.args.machine.now in
    some_left c.warm.new.self.machine.work.session.undo c.requires.newest.0 (ap newest_of (undo_kept l e.places story lawful m c.warm.new.self c.requires.ready (c.in_default.ensures.gone refl).paged) ∙ c.requires.newest.1)

pub returns-in-Ok-clause-backs : goal.returns-in-Ok-clause-backs
returns-in-Ok-clause-backs g c =
    let e = c.laws.ensures in
    let l : Grounds = record { reached = e.reached; needs = e.needs; versions = e.versions; kept = e.kept; prefixes = e.prefixes; seals = e.seals } in
    let lawful = (g.met.D.Disk g.world.𝓛 g.world.𝓜 g.world.𝓡 ((λ s x. x), (λ x. x), (λ x. x), (λ x. x))).lawful in
    let story = g.D.Disk.story in
    let m = c.args.machine.now in
    let k = c.warm.new.self in
    let n = c.put_back_in_leaf.new.machine in
    let w = c.in_default.ensures in
    let t = c.in-Ok.ensures in
    tried_ok l e.places story lawful m k n (9 * most_a_level m.machine.work.session.workers) (omega arith) (undone_come l e.places story lawful m k c.requires.ready (w.gone refl)) (w.ready refl) t.aside t.session (undo_kept l e.places story lawful m k c.requires.ready (w.gone refl).paged) t.backs

pub returns-in-Err-Unserved-clause-backs : goal.returns-in-Err-Unserved-clause-backs
returns-in-Err-Unserved-clause-backs g c =
    let e = c.laws.ensures in
    let l : Grounds = record { reached = e.reached; needs = e.needs; versions = e.versions; kept = e.kept; prefixes = e.prefixes; seals = e.seals } in
    let lawful = (g.met.D.Disk g.world.𝓛 g.world.𝓜 g.world.𝓡 ((λ s x. x), (λ x. x), (λ x. x), (λ x. x))).lawful in
    let story = g.D.Disk.story in
    let m = c.args.machine.now in
    let k = c.warm.new.self in
    let n = c.put_back_in_leaf.new.machine in
    let w = c.in_default.ensures in
    let t = c.in-Err-Unserved.ensures in
    tried_err l e.places story lawful m k n (9 * most_a_level m.machine.work.session.workers) (omega arith) (undone_come l e.places story lawful m k c.requires.ready (w.gone refl)) (w.ready refl) t.aside t.session t.fits c.in-Err-Unserved.why c.in-Err-Unserved.field-0 c.in-Err-Unserved.field-0-is t.backs

pub returns-in-Err-Lost-clause-backs : goal.returns-in-Err-Lost-clause-backs
returns-in-Err-Lost-clause-backs g c =
    let e = c.laws.ensures in
    let l : Grounds = record { reached = e.reached; needs = e.needs; versions = e.versions; kept = e.kept; prefixes = e.prefixes; seals = e.seals } in
    let lawful = (g.met.D.Disk g.world.𝓛 g.world.𝓜 g.world.𝓡 ((λ s x. x), (λ x. x), (λ x. x), (λ x. x))).lawful in
    let story = g.D.Disk.story in
    let m = c.args.machine.now in
    let k = c.warm.new.self in
    let n = c.put_back_in_leaf.new.machine in
    let w = c.in_default.ensures in
    let t = c.in-Err-Lost.ensures in
    tried_lost l e.places story lawful m k n (9 * most_a_level m.machine.work.session.workers) (omega arith) (undone_come l e.places story lawful m k c.requires.ready (w.gone refl)) (w.ready refl) t.aside t.session c.lose.new.machine c.lose.ensures.given_up c.in-Err-Lost.field-0 c.in-Err-Lost.field-0-is t.backs
    (λ faithful. lost_never c.in-Err-Lost.field-0 c.in-Err-Lost.field-0-is (t.cause_lost faithful)) c.lose.result c.lose.ensures.damaged

-- the way is hot
pub unreachable-requires : goal.unreachable-requires
unreachable-requires g c =
    let e = c.laws.ensures in
    let l : Grounds = record { reached = e.reached; needs = e.needs; versions = e.versions; kept = e.kept; prefixes = e.prefixes; seals = e.seals } in
    let lawful = (g.met.D.Disk g.world.𝓛 g.world.𝓜 g.world.𝓡 ((λ s x. x), (λ x. x), (λ x. x), (λ x. x))).lawful in
    let story = g.D.Disk.story in
    let m = c.args.machine.now in
    let k = c.warm.new.self in
    let w = c.in_default.ensures in
    cold_never c.in-Err-Cold.field-0 _ c.in-Err-Cold.field-0-is (c.in-Err-Cold.ensures.cause_cold (warm_newest c.args.key k (newest_as c.args.key m k (undo_kept l e.places story lawful m k c.requires.ready (w.gone refl).paged) c.requires.newest) w.warm))

pub returns-in-Ok-clause-session : goal.returns-in-Ok-clause-session
returns-in-Ok-clause-session g c = same_then c.args.machine.now c.warm.new.self c.put_back_in_leaf.new.machine (c.in_default.ensures.gone refl).paged.same c.in-Ok.ensures.session

pub returns-in-Err-Unserved-clause-session : goal.returns-in-Err-Unserved-clause-session
returns-in-Err-Unserved-clause-session g c = same_then c.args.machine.now c.warm.new.self c.put_back_in_leaf.new.machine (c.in_default.ensures.gone refl).paged.same c.in-Err-Unserved.ensures.session

pub returns-in-Err-Lost-clause-session : goal.returns-in-Err-Lost-clause-session
returns-in-Err-Lost-clause-session g c =
    let a = same_then c.args.machine.now c.warm.new.self c.put_back_in_leaf.new.machine (c.in_default.ensures.gone refl).paged.same c.in-Err-Lost.ensures.session in
    let b = c.lose.ensures.given_up.same in
    (b.0 ∙ a.0, b.1 ∙ a.1)

pub returns-in-Ok-clause-cause_disk_fault : goal.returns-in-Ok-clause-cause_disk_fault
returns-in-Ok-clause-cause_disk_fault g c = cause_at _ _ _ _ _ (sym (c.in_default.ensures.cause_disk_fault.calm (ok_err stopped.DiskFault))) refl (cause_ok _ _ c.in-Ok.ensures.cause_disk_fault)

pub returns-in-Err-Unserved-clause-cause_disk_fault : goal.returns-in-Err-Unserved-clause-cause_disk_fault
returns-in-Err-Unserved-clause-cause_disk_fault g c =
    cause_at _ _ _ _ _ (sym (c.in_default.ensures.cause_disk_fault.calm (ok_err stopped.DiskFault))) refl (cause_try _ _ c.in-Err-Unserved.field-0 c.in-Err-Unserved.why c.in-Err-Unserved.field-0-is c.in-Err-Unserved.ensures.cause_disk_fault)

pub returns-in-Err-Lost-clause-cause_disk_fault : goal.returns-in-Err-Lost-clause-cause_disk_fault
returns-in-Err-Lost-clause-cause_disk_fault g c =
    cause_at _ _ _ _ _ (sym (c.in_default.ensures.cause_disk_fault.calm (ok_err stopped.DiskFault))) refl
    (cause_lost _ _ _ c.in-Err-Lost.field-0 c.lose.result c.in-Err-Lost.field-0-is c.lose.ensures.damaged c.in-Err-Lost.ensures.cause_disk_fault (ap g.D.Disk.faults c.lose.ensures.given_up.disk))

pub returns-in-Err-Unserved-clause-works : goal.returns-in-Err-Unserved-clause-works
returns-in-Err-Unserved-clause-works g c = let t = c.in-Err-Unserved.ensures in t.works ∙ tried_works g.D.Disk.story c.warm.new.self c.put_back_in_leaf.new.machine c.in-Err-Unserved.field-0 c.in-Err-Unserved.why c.in-Err-Unserved.field-0-is t.backs

pub returns-in-Err-Unserved-clause-ready : goal.returns-in-Err-Unserved-clause-ready
returns-in-Err-Unserved-clause-ready g c works =
    let t = c.in-Err-Unserved.ensures in
    t.ready (tried_works g.D.Disk.story c.warm.new.self c.put_back_in_leaf.new.machine c.in-Err-Unserved.field-0 c.in-Err-Unserved.why c.in-Err-Unserved.field-0-is t.backs ∙ works)

pub returns-in-Err-Lost-clause-works : goal.returns-in-Err-Lost-clause-works
returns-in-Err-Lost-clause-works g c = c.lose.ensures.given_up.works ∙ sym (lost_works c.lose.result c.lose.ensures.damaged)

pub returns-in-Err-Lost-clause-ready : goal.returns-in-Err-Lost-clause-ready
returns-in-Err-Lost-clause-ready g c works = absurd (true≢false (sym works ∙ lost_works c.lose.result c.lose.ensures.damaged))
