use Rattle.std.proofs.Common.{◌≡◌, ◌∙◌, Ok, Err, ap, refl, sym, subst}
use Rattle.paged_calls.specs.engine_trait.declared.unserved.Unserved.{Unserved}
use Rattle.paged_calls.specs.session_state.declared.session.Session.{Session}
use Rattle.row_scans.specs.declared.meets.Met.{Met}
use Rattle.row_scans.specs.declared.meets.Unmet.TheVariants as unmet
use Rattle.paged_calls.specs.paged_desks.Machines.{view_of}
use Rattle.paged_calls.specs.paged_desks.declared.warming.Unwarmed.TheVariants as stopped
use Rattle.paged_calls.proofs.paged_desks.EndingLemmas.{Grounds}
use Rattle.paged_calls.proofs.ChangeWarms.{cause_warm}
use Rattle.paged_calls.proofs.WarmLemmas.{cause_at, cause_none, come_from, come_none, err_reads, kept_own, ok_err, still_of}
use Rattle.paged_scans.specs.Steps.{MeetsWarm}
use Rattle.paged_scans.proofs.WalkLemmas.{cut_is, few_come, few_none, meets_as, meets_why, met_as, met_then, no_fault, ready_as, refused_then, unwarmed_as}
use Rattle.paged_scans.proofs.walks.walk_warm.Goals as goal

pub returns-in-Ok-clause-meets : goal.returns-in-Ok-clause-meets
returns-in-Ok-clause-meets g c =
    let e = c.laws.ensures in
    let l : Grounds = record { reached = e.reached; needs = e.needs; versions = e.versions; kept = e.kept; prefixes = e.prefixes; seals = e.seals } in
    let lawful = (g.met.D.Disk g.world.𝓛 g.world.𝓜 g.world.𝓡 ((λ s x. x), (λ x. x), (λ x. x), (λ x. x))).lawful in
    let m = c.args.machine.now in
    met_then g.D.Disk.story c.args.key m m c.walk.new.machine (come_none l g.D.Disk.story lawful c.args.key m) (few_none g.D.Disk.story c.args.key m (come_none l g.D.Disk.story lawful c.args.key m)) c.requires.ready c.walk.ensures.beside c.walk.ensures.session c.in-Ok.met c.in-Ok.ensures.meets

pub returns-in-Err-Refused-clause-meets : goal.returns-in-Err-Refused-clause-meets
returns-in-Err-Refused-clause-meets g c =
    let e = c.laws.ensures in
    let l : Grounds = record { reached = e.reached; needs = e.needs; versions = e.versions; kept = e.kept; prefixes = e.prefixes; seals = e.seals } in
    let lawful = (g.met.D.Disk g.world.𝓛 g.world.𝓜 g.world.𝓡 ((λ s x. x), (λ x. x), (λ x. x), (λ x. x))).lawful in
    let m = c.args.machine.now in
    refused_then g.D.Disk.story c.args.key m m c.walk.new.machine (come_none l g.D.Disk.story lawful c.args.key m) (few_none g.D.Disk.story c.args.key m (come_none l g.D.Disk.story lawful c.args.key m)) c.requires.ready c.walk.ensures.beside c.walk.ensures.session c.in-Err-Refused.why (c.walk.new.machine.machine.work.session ≡ m.machine.work.session)
    (meets_why c.in-Err-Refused.field-0 (unmet.Refused c.in-Err-Refused.why) m.machine.work.session.own (view_of m) (view_of c.walk.new.machine) c.args.key _ c.in-Err-Refused.field-0-is c.in-Err-Refused.ensures.meets)

pub returns-in-Err-clause-ready : goal.returns-in-Err-clause-ready
returns-in-Err-clause-ready g c = subst (λ (why : Unserved). Rattle.paged_calls.specs.paged_desks.Calls.works_behind {A = Met} (Err why) ≡ Rattle.std.proofs.Common.true → Rattle.paged_calls.specs.paged_desks.Machines.IsReady g.D.Disk.story c.warm.new.self) (sym c.unserved_of.ensures)
    (ready_as Met g.D.Disk.story c.warm.new.self c.in-Err.why c.in-Err.ensures.ready)

pub returns-in-Err-clause-meets : goal.returns-in-Err-clause-meets
returns-in-Err-clause-meets g c =
    let e = c.laws.ensures in
    let l : Grounds = record { reached = e.reached; needs = e.needs; versions = e.versions; kept = e.kept; prefixes = e.prefixes; seals = e.seals } in
    let lawful = (g.met.D.Disk g.world.𝓛 g.world.𝓜 g.world.𝓡 ((λ s x. x), (λ x. x), (λ x. x), (λ x. x))).lawful in
    let story = g.D.Disk.story in
    let m = c.args.machine.now in
    let met = meets_why c.in-Err-Cold.field-0 (unmet.Cold c.in-Err-Cold.field-0-0) c.args.machine.now.machine.work.session.own (view_of c.args.machine.now) (view_of c.walk.new.machine) c.args.key (c.walk.new.machine.machine.work.session ≡ c.args.machine.now.machine.work.session) c.in-Err-Cold.field-0-is c.in-Err-Cold.ensures.meets in
    let w = c.in-Err.ensures in
    subst (λ (why : Unserved). MeetsWarm story c.args.key (Err why) m c.warm.new.self) (sym c.unserved_of.ensures)
    (unwarmed_as story c.args.key m c.warm.new.self c.in-Err.why
    (err_reads l story lawful c.args.key m c.walk.new.machine (still_of story m c.walk.new.machine c.args.key c.in-Err-Cold.field-0-0.page c.walk.ensures.beside met.0 met.1) _ c.warm.new.self c.in-Err.why w.gone w.failed w.spent w.damaged))

pub returns-in-Err-clause-cause_disk_fault : goal.returns-in-Err-clause-cause_disk_fault
returns-in-Err-clause-cause_disk_fault g c =
    cause_at _ _ _ _ _ (ap g.D.Disk.faults (sym c.walk.ensures.beside.disk)) refl (cause_warm _ Met _ _ c.in-Err.why c.unserved_of.result c.unserved_of.ensures c.in-Err.ensures.cause_disk_fault)

pub walk-requires-2-clause-open_is : goal.walk-requires-2-clause-open_is
walk-requires-2-clause-open_is g c κs within =
    let met = meets_why c.in-Err-Cold.field-0 (unmet.Cold c.in-Err-Cold.field-0-0) c.args.machine.now.machine.work.session.own (view_of c.args.machine.now) (view_of c.walk.new.machine) c.args.key (c.walk.new.machine.machine.work.session ≡ c.args.machine.now.machine.work.session) c.in-Err-Cold.field-0-is c.in-Err-Cold.ensures.meets in
    let k = kept_own g.D.Disk.story c.args.key _ c.walk.new.machine c.warm.new.self c.walk.ensures.ready (c.in_default.ensures.gone refl).paged in
    ap (λ (x : Session). x.is_open) k.session ∙ (ap (λ (x : Session). x.is_open) met.1 ∙ c.requires.open_is)

pub unreachable-requires : goal.unreachable-requires
unreachable-requires g c = c.in-Err-Cold-walk.ensures.cause_cold c.in_default.ensures.warm (cut_is c.in-Err-Cold-walk.field-0 c.in-Err-Cold-walk.field-0-0 c.in-Err-Cold-walk.field-0-is)

pub returns-in-Ok-walk-clause-meets : goal.returns-in-Ok-walk-clause-meets
returns-in-Ok-walk-clause-meets g c =
    let e = c.laws.ensures in
    let l : Grounds = record { reached = e.reached; needs = e.needs; versions = e.versions; kept = e.kept; prefixes = e.prefixes; seals = e.seals } in
    let lawful = (g.met.D.Disk g.world.𝓛 g.world.𝓜 g.world.𝓡 ((λ s x. x), (λ x. x), (λ x. x), (λ x. x))).lawful in
    let story = g.D.Disk.story in
    let m = c.args.machine.now in
    let met = meets_why c.in-Err-Cold.field-0 (unmet.Cold c.in-Err-Cold.field-0-0) c.args.machine.now.machine.work.session.own (view_of c.args.machine.now) (view_of c.walk.new.machine) c.args.key (c.walk.new.machine.machine.work.session ≡ c.args.machine.now.machine.work.session) c.in-Err-Cold.field-0-is c.in-Err-Cold.ensures.meets in
    let gone = c.in_default.ensures.gone refl in
    let still = still_of story m c.walk.new.machine c.args.key c.in-Err-Cold.field-0-0.page c.walk.ensures.beside met.0 met.1 in
    met_then story c.args.key m c.warm.new.self c.walk-2.new.machine (come_from l story lawful c.args.key m c.walk.new.machine still _ c.warm.new.self gone) (few_come story c.args.key m c.walk.new.machine c.warm.new.self still gone (come_from l story lawful c.args.key m c.walk.new.machine still _ c.warm.new.self gone)) (c.in_default.ensures.ready refl) c.walk-2.ensures.beside c.walk-2.ensures.session c.in-Ok-walk.met
    (met_as _ _ _ _ c.args.key c.in-Ok-walk.met (gone.paged.turn ∙ ap (λ (x : Session). x.own) met.1) c.in-Ok-walk.ensures.meets)

pub returns-in-Err-Refused-walk-clause-meets : goal.returns-in-Err-Refused-walk-clause-meets
returns-in-Err-Refused-walk-clause-meets g c =
    let e = c.laws.ensures in
    let l : Grounds = record { reached = e.reached; needs = e.needs; versions = e.versions; kept = e.kept; prefixes = e.prefixes; seals = e.seals } in
    let lawful = (g.met.D.Disk g.world.𝓛 g.world.𝓜 g.world.𝓡 ((λ s x. x), (λ x. x), (λ x. x), (λ x. x))).lawful in
    let story = g.D.Disk.story in
    let m = c.args.machine.now in
    let met = meets_why c.in-Err-Cold.field-0 (unmet.Cold c.in-Err-Cold.field-0-0) c.args.machine.now.machine.work.session.own (view_of c.args.machine.now) (view_of c.walk.new.machine) c.args.key (c.walk.new.machine.machine.work.session ≡ c.args.machine.now.machine.work.session) c.in-Err-Cold.field-0-is c.in-Err-Cold.ensures.meets in
    let gone = c.in_default.ensures.gone refl in
    let still = still_of story m c.walk.new.machine c.args.key c.in-Err-Cold.field-0-0.page c.walk.ensures.beside met.0 met.1 in
    refused_then story c.args.key m c.warm.new.self c.walk-2.new.machine (come_from l story lawful c.args.key m c.walk.new.machine still _ c.warm.new.self gone) (few_come story c.args.key m c.walk.new.machine c.warm.new.self still gone (come_from l story lawful c.args.key m c.walk.new.machine still _ c.warm.new.self gone)) (c.in_default.ensures.ready refl) c.walk-2.ensures.beside c.walk-2.ensures.session c.in-Err-Refused-walk.why (c.walk-2.new.machine.machine.work.session ≡ c.warm.new.self.machine.work.session)
    (meets_as (Err (unmet.Refused c.in-Err-Refused-walk.why)) c.warm.new.self.machine.work.session.own m.machine.work.session.own (view_of c.warm.new.self) (view_of c.walk-2.new.machine) c.args.key _ (gone.paged.turn ∙ ap (λ (x : Session). x.own) met.1)
    (meets_why c.in-Err-Refused-walk.field-0 (unmet.Refused c.in-Err-Refused-walk.why) c.warm.new.self.machine.work.session.own (view_of c.warm.new.self) (view_of c.walk-2.new.machine) c.args.key _ c.in-Err-Refused-walk.field-0-is c.in-Err-Refused-walk.ensures.meets))

pub returns-in-Err-Refused-walk-clause-cause_disk_fault : goal.returns-in-Err-Refused-walk-clause-cause_disk_fault
returns-in-Err-Refused-walk-clause-cause_disk_fault g c =
    let faults = g.D.Disk.faults in
    cause_none _ _ _ (ap faults c.walk-2.ensures.beside.disk ∙ (c.in_default.ensures.cause_disk_fault.calm (ok_err _ _ stopped.DiskFault) ∙ ap faults c.walk.ensures.beside.disk))
    (no_fault Met c.in-Err-Refused-walk.why c.warm.new.self.machine.work.session.own c.args.key (view_of c.warm.new.self) (view_of c.walk-2.new.machine) (c.walk-2.new.machine.machine.work.session ≡ c.warm.new.self.machine.work.session)
    (meets_why c.in-Err-Refused-walk.field-0 (unmet.Refused c.in-Err-Refused-walk.why) c.warm.new.self.machine.work.session.own (view_of c.warm.new.self) (view_of c.walk-2.new.machine) c.args.key _ c.in-Err-Refused-walk.field-0-is c.in-Err-Refused-walk.ensures.meets))

pub returns-in-Ok-clause-open_is : goal.returns-in-Ok-clause-open_is
returns-in-Ok-clause-open_is g c = ap (λ (x : Session). x.is_open) c.walk.ensures.session ∙ c.requires.open_is

pub returns-in-Ok-walk-clause-open_is : goal.returns-in-Ok-walk-clause-open_is
returns-in-Ok-walk-clause-open_is g c =
    let met = meets_why c.in-Err-Cold.field-0 (unmet.Cold c.in-Err-Cold.field-0-0) c.args.machine.now.machine.work.session.own (view_of c.args.machine.now) (view_of c.walk.new.machine) c.args.key (c.walk.new.machine.machine.work.session ≡ c.args.machine.now.machine.work.session) c.in-Err-Cold.field-0-is c.in-Err-Cold.ensures.meets in
    let k = kept_own g.D.Disk.story c.args.key _ c.walk.new.machine c.warm.new.self c.walk.ensures.ready (c.in_default.ensures.gone refl).paged in
    ap (λ (x : Session). x.is_open) c.walk-2.ensures.session ∙ (ap (λ (x : Session). x.is_open) k.session ∙ (ap (λ (x : Session). x.is_open) met.1 ∙ c.requires.open_is))
