use Rattle.std.proofs.Common.{◌∙◌, ap, arith, refl, sym, true≢false}
use Rattle.paged_desks.proofs.EndingLemmas.{Grounds}
use Rattle.paged_aborts.proofs.BackWarms.{backs_on, tried_err, tried_lost, tried_ok, work_cold}
use Rattle.paged_aborts.proofs.CauseLemmas.{calm_cold, cause_at, cause_lost, cause_ok, cause_try, lost_never, lost_works, newest_as, tried_works}
use Rattle.paged_desks.specs.session_state.declared.work.Work.{Work}
use Rattle.paged_aborts.proofs.UndoneLemmas.{undone_self}
use Rattle.paged_aborts.proofs.backs.put_back_newest.Goals as goal

pub returns-in-Ok-clause-backs : goal.returns-in-Ok-clause-backs
returns-in-Ok-clause-backs g c =
    let e = c.laws.ensures in
    let l : Grounds = record { reached = e.reached; needs = e.needs; versions = e.versions; kept = e.kept; prefixes = e.prefixes; seals = e.seals } in
    let lawful = (g.met.D.Disk g.world.𝓛 g.world.𝓜 g.world.𝓡 ((λ s x. x), (λ x. x), (λ x. x), (λ x. x))).lawful in
    let story = g.D.Disk.story in
    let m = c.args.machine.now in
    let t = c.in-Ok.ensures in
    tried_ok l e.places story lawful m m c.put_back_in_leaf.new.machine 0 (omega arith) (undone_self l e.places story lawful m) c.requires.ready t.aside t.session refl t.backs

pub returns-in-Err-Unserved-clause-backs : goal.returns-in-Err-Unserved-clause-backs
returns-in-Err-Unserved-clause-backs g c =
    let e = c.laws.ensures in
    let l : Grounds = record { reached = e.reached; needs = e.needs; versions = e.versions; kept = e.kept; prefixes = e.prefixes; seals = e.seals } in
    let lawful = (g.met.D.Disk g.world.𝓛 g.world.𝓜 g.world.𝓡 ((λ s x. x), (λ x. x), (λ x. x), (λ x. x))).lawful in
    let story = g.D.Disk.story in
    let m = c.args.machine.now in
    let t = c.in-Err-Unserved.ensures in
    tried_err l e.places story lawful m m c.put_back_in_leaf.new.machine 0 (omega arith) (undone_self l e.places story lawful m) c.requires.ready t.aside t.session t.fits c.in-Err-Unserved.why c.in-Err-Unserved.field-0 c.in-Err-Unserved.field-0-is t.backs

pub returns-in-Err-Lost-clause-backs : goal.returns-in-Err-Lost-clause-backs
returns-in-Err-Lost-clause-backs g c =
    let e = c.laws.ensures in
    let l : Grounds = record { reached = e.reached; needs = e.needs; versions = e.versions; kept = e.kept; prefixes = e.prefixes; seals = e.seals } in
    let lawful = (g.met.D.Disk g.world.𝓛 g.world.𝓜 g.world.𝓡 ((λ s x. x), (λ x. x), (λ x. x), (λ x. x))).lawful in
    let story = g.D.Disk.story in
    let m = c.args.machine.now in
    let t = c.in-Err-Lost.ensures in
    tried_lost l e.places story lawful m m c.put_back_in_leaf.new.machine 0 (omega arith) (undone_self l e.places story lawful m) c.requires.ready t.aside t.session c.lose.new.machine c.lose.ensures.given_up c.in-Err-Lost.field-0 c.in-Err-Lost.field-0-is t.backs
    (λ faithful. lost_never c.in-Err-Lost.field-0 c.in-Err-Lost.field-0-is (t.cause_lost faithful)) c.lose.result c.lose.ensures.damaged

pub returns-in-Err-Cold-clause-backs : goal.returns-in-Err-Cold-clause-backs
returns-in-Err-Cold-clause-backs g c =
    let e = c.laws.ensures in
    let l : Grounds = record { reached = e.reached; needs = e.needs; versions = e.versions; kept = e.kept; prefixes = e.prefixes; seals = e.seals } in
    let lawful = (g.met.D.Disk g.world.𝓛 g.world.𝓜 g.world.𝓡 ((λ s x. x), (λ x. x), (λ x. x), (λ x. x))).lawful in
    let story = g.D.Disk.story in
    let m = c.args.machine.now in
    let t = c.in-Err-Cold.ensures in
    backs_on l e.places story lawful m c.put_back_in_leaf.new.machine t.aside c.in-Err-Cold.field-0 _ c.in-Err-Cold.field-0-is t.backs c.put_back_behind.new.machine c.put_back_behind.result c.put_back_behind.ensures.backs

pub put_back_behind-requires-clause-is_open : goal.put_back_behind-requires-clause-is_open
put_back_behind-requires-clause-is_open g c κs within =
    let e = c.laws.ensures in
    let l : Grounds = record { reached = e.reached; needs = e.needs; versions = e.versions; kept = e.kept; prefixes = e.prefixes; seals = e.seals } in
    let lawful = (g.met.D.Disk g.world.𝓛 g.world.𝓜 g.world.𝓡 ((λ s x. x), (λ x. x), (λ x. x), (λ x. x))).lawful in
    let story = g.D.Disk.story in
    let m = c.args.machine.now in
    ap (λ (k : Work g.row.D.Denot). k.session.is_open) (work_cold l e.places story lawful m c.put_back_in_leaf.new.machine c.in-Err-Cold.ensures.aside c.in-Err-Cold.field-0 _ c.in-Err-Cold.field-0-is c.in-Err-Cold.ensures.backs) ∙ c.requires.is_open

pub put_back_behind-requires-clause-newest : goal.put_back_behind-requires-clause-newest
put_back_behind-requires-clause-newest g c κs within =
    let e = c.laws.ensures in
    let l : Grounds = record { reached = e.reached; needs = e.needs; versions = e.versions; kept = e.kept; prefixes = e.prefixes; seals = e.seals } in
    let lawful = (g.met.D.Disk g.world.𝓛 g.world.𝓜 g.world.𝓡 ((λ s x. x), (λ x. x), (λ x. x), (λ x. x))).lawful in
    let story = g.D.Disk.story in
    let m = c.args.machine.now in
    newest_as c.newest_left-undone.result.key m c.put_back_in_leaf.new.machine (ap (λ (k : Work g.row.D.Denot). k.session.undo) (work_cold l e.places story lawful m c.put_back_in_leaf.new.machine c.in-Err-Cold.ensures.aside c.in-Err-Cold.field-0 _ c.in-Err-Cold.field-0-is c.in-Err-Cold.ensures.backs)) (c.newest_left-undone.result, c.newest_left-undone.ensures.newest, refl)

pub returns-in-Ok-clause-session : goal.returns-in-Ok-clause-session
returns-in-Ok-clause-session g c = let d = c.in-Ok.ensures.session in (d.1, d.2)

pub returns-in-Err-Unserved-clause-session : goal.returns-in-Err-Unserved-clause-session
returns-in-Err-Unserved-clause-session g c = let d = c.in-Err-Unserved.ensures.session in (d.1, d.2)

pub returns-in-Err-Lost-clause-session : goal.returns-in-Err-Lost-clause-session
returns-in-Err-Lost-clause-session g c = let d = c.in-Err-Lost.ensures.session in let b = c.lose.ensures.given_up.same in (b.0 ∙ d.1, b.1 ∙ d.2)

pub returns-in-Err-Cold-clause-session : goal.returns-in-Err-Cold-clause-session
returns-in-Err-Cold-clause-session g c = let d = c.in-Err-Cold.ensures.session in let b = c.put_back_behind.ensures.session in (b.0 ∙ d.1, b.1 ∙ d.2)

pub returns-in-Ok-clause-cause_disk_fault : goal.returns-in-Ok-clause-cause_disk_fault
returns-in-Ok-clause-cause_disk_fault g c = cause_ok _ _ c.in-Ok.ensures.cause_disk_fault

pub returns-in-Err-Unserved-clause-cause_disk_fault : goal.returns-in-Err-Unserved-clause-cause_disk_fault
returns-in-Err-Unserved-clause-cause_disk_fault g c = cause_try _ _ c.in-Err-Unserved.field-0 c.in-Err-Unserved.why c.in-Err-Unserved.field-0-is c.in-Err-Unserved.ensures.cause_disk_fault

pub returns-in-Err-Lost-clause-cause_disk_fault : goal.returns-in-Err-Lost-clause-cause_disk_fault
returns-in-Err-Lost-clause-cause_disk_fault g c =
    cause_lost _ _ _ c.in-Err-Lost.field-0 c.lose.result c.in-Err-Lost.field-0-is c.lose.ensures.damaged c.in-Err-Lost.ensures.cause_disk_fault (ap g.D.Disk.faults c.lose.ensures.given_up.disk)

pub returns-in-Err-Cold-clause-cause_disk_fault : goal.returns-in-Err-Cold-clause-cause_disk_fault
returns-in-Err-Cold-clause-cause_disk_fault g c =
    cause_at _ _ _ _ _ (sym (calm_cold _ _ c.in-Err-Cold.field-0 _ c.in-Err-Cold.field-0-is c.in-Err-Cold.ensures.cause_disk_fault)) refl c.put_back_behind.ensures.cause_disk_fault

pub returns-in-Err-Unserved-clause-works : goal.returns-in-Err-Unserved-clause-works
returns-in-Err-Unserved-clause-works g c = let t = c.in-Err-Unserved.ensures in t.works ∙ tried_works g.D.Disk.story c.args.machine.now c.put_back_in_leaf.new.machine c.in-Err-Unserved.field-0 c.in-Err-Unserved.why c.in-Err-Unserved.field-0-is t.backs

pub returns-in-Err-Unserved-clause-ready : goal.returns-in-Err-Unserved-clause-ready
returns-in-Err-Unserved-clause-ready g c works =
    let t = c.in-Err-Unserved.ensures in
    t.ready (tried_works g.D.Disk.story c.args.machine.now c.put_back_in_leaf.new.machine c.in-Err-Unserved.field-0 c.in-Err-Unserved.why c.in-Err-Unserved.field-0-is t.backs ∙ works)

pub returns-in-Err-Lost-clause-works : goal.returns-in-Err-Lost-clause-works
returns-in-Err-Lost-clause-works g c = c.lose.ensures.given_up.works ∙ sym (lost_works c.lose.result c.lose.ensures.damaged)

pub returns-in-Err-Lost-clause-ready : goal.returns-in-Err-Lost-clause-ready
returns-in-Err-Lost-clause-ready g c works = absurd (true≢false (sym works ∙ lost_works c.lose.result c.lose.ensures.damaged))
