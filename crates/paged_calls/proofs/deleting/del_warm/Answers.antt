use Rattle.std.proofs.Common.{◌∙◌, Option, ℕ, ap, refl, sym, subst}
use Rattle.row_room.specs.row_changes.Ways.{IsLost}
use Rattle.row_walks.specs.declared.at_once.AtOnce.{AtOnce}
use Rattle.row_walks.specs.declared.at_once.AtOnce.TheVariants as at_once
use Rattle.row_walks.specs.declared.steps.At.TheVariants as begun
use Rattle.paged_desks.specs.session_state.declared.work.Work.{Work}
use Rattle.paged_desks.proofs.EndingLemmas.{Grounds}
use Rattle.paged_calls.specs.Tidyings.{most_a_del}
use Rattle.paged_calls.proofs.ChangeWarms.{cause_try}
use Rattle.paged_calls.proofs.TidyCalls.{ok_try}
use Rattle.paged_calls.proofs.TidyWarms.{at_once_done, at_once_refused, cold_missed, may_begin, may_missed, once_as, once_cold, once_lost, once_then, once_unserved, once_works_on, small_missed, undone_missed}
use Rattle.paged_calls.proofs.WarmLemmas.{cause_at}
use Rattle.paged_calls.proofs.deleting.del_warm.Goals as goal

pub del_thick-requires-clause-may : goal.del_thick-requires-clause-may
del_thick-requires-clause-may g c κs within = may_begin c.args.key c.args.machine.now c.requires.may

-- ## At once

pub returns-in-Ok-Done-clause-dels : goal.returns-in-Ok-Done-clause-dels
returns-in-Ok-Done-clause-dels g c =
    let b = c.laws.ensures in
    let l : Grounds = record { reached = b.reached; needs = b.needs; versions = b.versions; kept = b.kept; prefixes = b.prefixes; seals = b.seals } in
    let lawful = (g.met.D.Disk g.world.𝓛 g.world.𝓜 g.world.𝓡 ((λ s x. x), (λ x. x), (λ x. x), (λ x. x))).lawful in
    let story = g.D.Disk.story in
    let m = c.args.machine.now in
    let n = c.del_thick.new.machine in
    let d = c.in-Ok-Done.ensures in
    at_once_done l story lawful c.args.key most_a_del m n c.requires.ready d.aside d.session (may_begin c.args.key m c.requires.may) c.in-Ok-Done.was (d.is_half_aborted d.works)
    (once_as l story lawful c.args.key most_a_del m n c.requires.ready d.aside d.session c.in-Ok-Done.field-0 (at_once.Done c.in-Ok-Done.was) c.in-Ok-Done.field-0-is d.dels)

pub returns-in-Ok-Done-clause-session : goal.returns-in-Ok-Done-clause-session
returns-in-Ok-Done-clause-session g c = let d = c.in-Ok-Done.ensures.session in (d.1, d.2)

pub returns-in-Ok-Done-clause-turn : goal.returns-in-Ok-Done-clause-turn
returns-in-Ok-Done-clause-turn g c works = c.in-Ok-Done.ensures.session.0

pub returns-in-Ok-Done-clause-cause_disk_fault : goal.returns-in-Ok-Done-clause-cause_disk_fault
returns-in-Ok-Done-clause-cause_disk_fault g c = ok_try AtOnce (Option ℕ) _ _ _ _ c.in-Ok-Done.ensures.cause_disk_fault

-- ## The leaf may be thin

pub del_tidied-requires-clause-may : goal.del_tidied-requires-clause-may
del_tidied-requires-clause-may g c κs within =
    let b = c.laws.ensures in
    let l : Grounds = record { reached = b.reached; needs = b.needs; versions = b.versions; kept = b.kept; prefixes = b.prefixes; seals = b.seals } in
    let lawful = (g.met.D.Disk g.world.𝓛 g.world.𝓜 g.world.𝓡 ((λ s x. x), (λ x. x), (λ x. x), (λ x. x))).lawful in
    let story = g.D.Disk.story in
    let m = c.args.machine.now in
    let n = c.del_thick.new.machine in
    let d = c.in-Ok-MayBeThin.ensures in
    let t = once_as l story lawful c.args.key most_a_del m n c.requires.ready d.aside d.session c.in-Ok-MayBeThin.field-0 at_once.MayBeThin c.in-Ok-MayBeThin.field-0-is d.dels in
    may_missed c.args.key begun.Before m n (undone_missed m n _ t 61) t.unchanged (may_begin c.args.key m c.requires.may)

pub del_tidied-requires-clause-small : goal.del_tidied-requires-clause-small
del_tidied-requires-clause-small g c κs within =
    let b = c.laws.ensures in
    let l : Grounds = record { reached = b.reached; needs = b.needs; versions = b.versions; kept = b.kept; prefixes = b.prefixes; seals = b.seals } in
    let lawful = (g.met.D.Disk g.world.𝓛 g.world.𝓜 g.world.𝓡 ((λ s x. x), (λ x. x), (λ x. x), (λ x. x))).lawful in
    let story = g.D.Disk.story in
    let m = c.args.machine.now in
    let n = c.del_thick.new.machine in
    let d = c.in-Ok-MayBeThin.ensures in
    let t = once_as l story lawful c.args.key most_a_del m n c.requires.ready d.aside d.session c.in-Ok-MayBeThin.field-0 at_once.MayBeThin c.in-Ok-MayBeThin.field-0-is d.dels in
    small_missed c.args.key begun.Before m n (undone_missed m n _ t 61) t.unchanged c.requires.small

pub returns-in-Ok-MayBeThin-clause-dels : goal.returns-in-Ok-MayBeThin-clause-dels
returns-in-Ok-MayBeThin-clause-dels g c =
    let b = c.laws.ensures in
    let l : Grounds = record { reached = b.reached; needs = b.needs; versions = b.versions; kept = b.kept; prefixes = b.prefixes; seals = b.seals } in
    let lawful = (g.met.D.Disk g.world.𝓛 g.world.𝓜 g.world.𝓡 ((λ s x. x), (λ x. x), (λ x. x), (λ x. x))).lawful in
    let story = g.D.Disk.story in
    let m = c.args.machine.now in
    let n = c.del_thick.new.machine in
    let d = c.in-Ok-MayBeThin.ensures in
    let t = once_as l story lawful c.args.key most_a_del m n c.requires.ready d.aside d.session c.in-Ok-MayBeThin.field-0 at_once.MayBeThin c.in-Ok-MayBeThin.field-0-is d.dels in
    once_then l story lawful c.args.key most_a_del m n c.requires.ready d.aside d.session (undone_missed m n _ t 0) t.unchanged c.del_tidied.new.machine c.del_tidied.result c.del_tidied.ensures.dels

pub returns-in-Ok-MayBeThin-clause-session : goal.returns-in-Ok-MayBeThin-clause-session
returns-in-Ok-MayBeThin-clause-session g c = let d = c.in-Ok-MayBeThin.ensures.session in let b = c.del_tidied.ensures.session in (b.0 ∙ d.1, b.1 ∙ d.2)

pub returns-in-Ok-MayBeThin-clause-turn : goal.returns-in-Ok-MayBeThin-clause-turn
returns-in-Ok-MayBeThin-clause-turn g c works = c.del_tidied.ensures.turn works ∙ c.in-Ok-MayBeThin.ensures.session.0

pub returns-in-Ok-MayBeThin-clause-cause_disk_fault : goal.returns-in-Ok-MayBeThin-clause-cause_disk_fault
returns-in-Ok-MayBeThin-clause-cause_disk_fault g c =
    let b = c.laws.ensures in
    let l : Grounds = record { reached = b.reached; needs = b.needs; versions = b.versions; kept = b.kept; prefixes = b.prefixes; seals = b.seals } in
    let lawful = (g.met.D.Disk g.world.𝓛 g.world.𝓜 g.world.𝓡 ((λ s x. x), (λ x. x), (λ x. x), (λ x. x))).lawful in
    let story = g.D.Disk.story in
    let m = c.args.machine.now in
    let n = c.del_thick.new.machine in
    let d = c.in-Ok-MayBeThin.ensures in
    let t = once_as l story lawful c.args.key most_a_del m n c.requires.ready d.aside d.session c.in-Ok-MayBeThin.field-0 at_once.MayBeThin c.in-Ok-MayBeThin.field-0-is d.dels in
    cause_at _ _ _ _ _ (sym (ap (λ (k : Work g.row.D.Denot). g.D.Disk.faults k.disk) t.unchanged)) refl c.del_tidied.ensures.cause_disk_fault

-- ## A page of the way is not hot

pub del_tidied-requires-in-Err-Cold-clause-may : goal.del_tidied-requires-in-Err-Cold-clause-may
del_tidied-requires-in-Err-Cold-clause-may g c κs within =
    let b = c.laws.ensures in
    let l : Grounds = record { reached = b.reached; needs = b.needs; versions = b.versions; kept = b.kept; prefixes = b.prefixes; seals = b.seals } in
    let lawful = (g.met.D.Disk g.world.𝓛 g.world.𝓜 g.world.𝓡 ((λ s x. x), (λ x. x), (λ x. x), (λ x. x))).lawful in
    let story = g.D.Disk.story in
    let m = c.args.machine.now in
    let n = c.del_thick.new.machine in
    let d = c.in-Err-Cold.ensures in
    let t = once_cold l story lawful c.args.key most_a_del m n c.requires.ready d.aside d.session c.in-Err-Cold.field-0 _ c.in-Err-Cold.field-0-is d.dels in
    may_missed c.args.key begun.Before m n (cold_missed c.args.key _ m n t.0 61) t.1 (may_begin c.args.key m c.requires.may)

pub del_tidied-requires-in-Err-Cold-clause-small : goal.del_tidied-requires-in-Err-Cold-clause-small
del_tidied-requires-in-Err-Cold-clause-small g c κs within =
    let b = c.laws.ensures in
    let l : Grounds = record { reached = b.reached; needs = b.needs; versions = b.versions; kept = b.kept; prefixes = b.prefixes; seals = b.seals } in
    let lawful = (g.met.D.Disk g.world.𝓛 g.world.𝓜 g.world.𝓡 ((λ s x. x), (λ x. x), (λ x. x), (λ x. x))).lawful in
    let story = g.D.Disk.story in
    let m = c.args.machine.now in
    let n = c.del_thick.new.machine in
    let d = c.in-Err-Cold.ensures in
    let t = once_cold l story lawful c.args.key most_a_del m n c.requires.ready d.aside d.session c.in-Err-Cold.field-0 _ c.in-Err-Cold.field-0-is d.dels in
    small_missed c.args.key begun.Before m n (cold_missed c.args.key _ m n t.0 61) t.1 c.requires.small

pub returns-in-Err-Cold-clause-dels : goal.returns-in-Err-Cold-clause-dels
returns-in-Err-Cold-clause-dels g c =
    let b = c.laws.ensures in
    let l : Grounds = record { reached = b.reached; needs = b.needs; versions = b.versions; kept = b.kept; prefixes = b.prefixes; seals = b.seals } in
    let lawful = (g.met.D.Disk g.world.𝓛 g.world.𝓜 g.world.𝓡 ((λ s x. x), (λ x. x), (λ x. x), (λ x. x))).lawful in
    let story = g.D.Disk.story in
    let m = c.args.machine.now in
    let n = c.del_thick.new.machine in
    let d = c.in-Err-Cold.ensures in
    let t = once_cold l story lawful c.args.key most_a_del m n c.requires.ready d.aside d.session c.in-Err-Cold.field-0 _ c.in-Err-Cold.field-0-is d.dels in
    once_then l story lawful c.args.key most_a_del m n c.requires.ready d.aside d.session (cold_missed c.args.key _ m n t.0 0) t.1 c.del_tidied-in-Err-Cold.new.machine c.del_tidied-in-Err-Cold.result c.del_tidied-in-Err-Cold.ensures.dels

pub returns-in-Err-Cold-clause-session : goal.returns-in-Err-Cold-clause-session
returns-in-Err-Cold-clause-session g c = let d = c.in-Err-Cold.ensures.session in let b = c.del_tidied-in-Err-Cold.ensures.session in (b.0 ∙ d.1, b.1 ∙ d.2)

pub returns-in-Err-Cold-clause-turn : goal.returns-in-Err-Cold-clause-turn
returns-in-Err-Cold-clause-turn g c works = c.del_tidied-in-Err-Cold.ensures.turn works ∙ c.in-Err-Cold.ensures.session.0

pub returns-in-Err-Cold-clause-cause_disk_fault : goal.returns-in-Err-Cold-clause-cause_disk_fault
returns-in-Err-Cold-clause-cause_disk_fault g c =
    let b = c.laws.ensures in
    let l : Grounds = record { reached = b.reached; needs = b.needs; versions = b.versions; kept = b.kept; prefixes = b.prefixes; seals = b.seals } in
    let lawful = (g.met.D.Disk g.world.𝓛 g.world.𝓜 g.world.𝓡 ((λ s x. x), (λ x. x), (λ x. x), (λ x. x))).lawful in
    let story = g.D.Disk.story in
    let m = c.args.machine.now in
    let n = c.del_thick.new.machine in
    let d = c.in-Err-Cold.ensures in
    let t = once_cold l story lawful c.args.key most_a_del m n c.requires.ready d.aside d.session c.in-Err-Cold.field-0 _ c.in-Err-Cold.field-0-is d.dels in
    cause_at _ _ _ _ _ (sym (ap (λ (k : Work g.row.D.Denot). g.D.Disk.faults k.disk) t.1)) refl c.del_tidied-in-Err-Cold.ensures.cause_disk_fault

-- ## It was refused

pub returns-in-Err-Unserved-clause-dels : goal.returns-in-Err-Unserved-clause-dels
returns-in-Err-Unserved-clause-dels g c =
    let b = c.laws.ensures in
    let l : Grounds = record { reached = b.reached; needs = b.needs; versions = b.versions; kept = b.kept; prefixes = b.prefixes; seals = b.seals } in
    let lawful = (g.met.D.Disk g.world.𝓛 g.world.𝓜 g.world.𝓡 ((λ s x. x), (λ x. x), (λ x. x), (λ x. x))).lawful in
    let story = g.D.Disk.story in
    let m = c.args.machine.now in
    let n = c.del_thick.new.machine in
    let d = c.in-Err-Unserved.ensures in
    at_once_refused l story lawful c.args.key most_a_del m n c.requires.ready d.aside d.session c.in-Err-Unserved.why (once_unserved l story lawful c.args.key most_a_del m n c.requires.ready d.aside d.session c.in-Err-Unserved.field-0 c.in-Err-Unserved.why c.in-Err-Unserved.field-0-is d.dels)

pub returns-in-Err-Unserved-clause-works : goal.returns-in-Err-Unserved-clause-works
returns-in-Err-Unserved-clause-works g c =
    let b = c.laws.ensures in
    let l : Grounds = record { reached = b.reached; needs = b.needs; versions = b.versions; kept = b.kept; prefixes = b.prefixes; seals = b.seals } in
    let lawful = (g.met.D.Disk g.world.𝓛 g.world.𝓜 g.world.𝓡 ((λ s x. x), (λ x. x), (λ x. x), (λ x. x))).lawful in
    let story = g.D.Disk.story in
    let m = c.args.machine.now in
    let n = c.del_thick.new.machine in
    let d = c.in-Err-Unserved.ensures in
    d.works ∙ once_works_on l story lawful c.args.key most_a_del m n c.requires.ready d.aside d.session c.in-Err-Unserved.field-0 c.in-Err-Unserved.why c.in-Err-Unserved.field-0-is d.dels

pub returns-in-Err-Unserved-clause-ready : goal.returns-in-Err-Unserved-clause-ready
returns-in-Err-Unserved-clause-ready g c works =
    let b = c.laws.ensures in
    let l : Grounds = record { reached = b.reached; needs = b.needs; versions = b.versions; kept = b.kept; prefixes = b.prefixes; seals = b.seals } in
    let lawful = (g.met.D.Disk g.world.𝓛 g.world.𝓜 g.world.𝓡 ((λ s x. x), (λ x. x), (λ x. x), (λ x. x))).lawful in
    let story = g.D.Disk.story in
    let m = c.args.machine.now in
    let n = c.del_thick.new.machine in
    let d = c.in-Err-Unserved.ensures in
    d.ready (once_works_on l story lawful c.args.key most_a_del m n c.requires.ready d.aside d.session c.in-Err-Unserved.field-0 c.in-Err-Unserved.why c.in-Err-Unserved.field-0-is d.dels ∙ works)

pub returns-in-Err-Unserved-clause-session : goal.returns-in-Err-Unserved-clause-session
returns-in-Err-Unserved-clause-session g c = let d = c.in-Err-Unserved.ensures.session in (d.1, d.2)

pub returns-in-Err-Unserved-clause-turn : goal.returns-in-Err-Unserved-clause-turn
returns-in-Err-Unserved-clause-turn g c works = c.in-Err-Unserved.ensures.session.0

pub returns-in-Err-Unserved-clause-cause_disk_fault : goal.returns-in-Err-Unserved-clause-cause_disk_fault
returns-in-Err-Unserved-clause-cause_disk_fault g c = cause_try AtOnce (Option ℕ) _ _ c.in-Err-Unserved.field-0 c.in-Err-Unserved.why c.in-Err-Unserved.field-0-is c.in-Err-Unserved.ensures.cause_disk_fault

pub unreachable-requires : goal.unreachable-requires
unreachable-requires g c =
    let b = c.laws.ensures in
    let l : Grounds = record { reached = b.reached; needs = b.needs; versions = b.versions; kept = b.kept; prefixes = b.prefixes; seals = b.seals } in
    let lawful = (g.met.D.Disk g.world.𝓛 g.world.𝓜 g.world.𝓡 ((λ s x. x), (λ x. x), (λ x. x), (λ x. x))).lawful in
    let story = g.D.Disk.story in
    let m = c.args.machine.now in
    let n = c.del_thick.new.machine in
    let d = c.in-Err-Lost.ensures in
    once_lost l story lawful c.args.key most_a_del m n c.requires.ready d.aside d.session c.in-Err-Lost.field-0 d.dels (subst IsLost (sym c.in-Err-Lost.field-0-is) tt)
