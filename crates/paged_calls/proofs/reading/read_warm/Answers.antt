use Rattle.std.proofs.Common.{◌∙◌, Option, ℕ, ap, refl, sym}
use Rattle.paged_desks.specs.declared.warming.Unwarmed.TheVariants as stopped
use Rattle.paged_desks.specs.session_state.declared.session.Session.{Session}
use Rattle.paged_desks.proofs.EndingLemmas.{Grounds}
use Rattle.paged_calls.proofs.WarmLemmas.{cause_as, cause_at, cause_none, err_reads, err_to, holds_on, kept_own, ok_err, read_at_once, read_behind, still_of}
use Rattle.paged_calls.proofs.reading.read_warm.Goals as goal

pub returns-in-Ok-clause-reads : goal.returns-in-Ok-clause-reads
returns-in-Ok-clause-reads g c =
    let e = c.laws.ensures in
    let l : Grounds = record { reached = e.reached; needs = e.needs; versions = e.versions; kept = e.kept; prefixes = e.prefixes; seals = e.seals } in
    let lawful = (g.met.D.Disk g.world.𝓛 g.world.𝓜 g.world.𝓡 ((λ s x. x), (λ x. x), (λ x. x), (λ x. x))).lawful in
    read_at_once l g.D.Disk.story lawful c.args.key c.args.machine.now c.read.new.machine c.in-Ok.value c.in-Ok.ensures.reads c.read.ensures.beside c.read.ensures.session

pub returns-in-Err-clause-reads : goal.returns-in-Err-clause-reads
returns-in-Err-clause-reads g c =
    let e = c.laws.ensures in
    let l : Grounds = record { reached = e.reached; needs = e.needs; versions = e.versions; kept = e.kept; prefixes = e.prefixes; seals = e.seals } in
    let lawful = (g.met.D.Disk g.world.𝓛 g.world.𝓜 g.world.𝓡 ((λ s x. x), (λ x. x), (λ x. x), (λ x. x))).lawful in
    let met = c.in_default.ensures.reads in
    let w = c.in-Err.ensures in
    err_reads l g.D.Disk.story lawful c.args.key c.args.machine.now c.read.new.machine (still_of g.D.Disk.story c.args.machine.now c.read.new.machine c.args.key c.in_default.field-0.page c.read.ensures.beside met.0 met.1) _ c.warm.new.self c.in-Err.why w.gone w.failed w.spent w.damaged

pub returns-in-Err-clause-cause_disk_fault : goal.returns-in-Err-clause-cause_disk_fault
returns-in-Err-clause-cause_disk_fault g c =
    let faults = g.D.Disk.faults in
    cause_as _ _ _ _ (err_to _ _ c.in-Err.why stopped.DiskFault) (err_to _ _ c.in-Err.why stopped.DiskFault) (cause_at _ _ _ _ _ (ap faults (sym c.read.ensures.beside.disk)) refl c.in-Err.ensures.cause_disk_fault)

pub read-requires-2-clause-holds : goal.read-requires-2-clause-holds
read-requires-2-clause-holds g c κs within =
    let story = g.D.Disk.story in
    let met = c.in_default.ensures.reads in
    let w = c.in_default-warm.ensures in
    let k = kept_own story c.args.key _ c.read.new.machine c.warm.new.self c.read.ensures.ready (w.gone refl).paged in
    holds_on story c.args.machine.now c.warm.new.self c.requires.ready (w.ready refl) c.args.key
    (ap (λ (x : Session). x.own) k.session ∙ ap (λ (x : Session). x.own) met.1) (ap (λ (x : Session). x.is_open) k.session ∙ ap (λ (x : Session). x.is_open) met.1) (ap (λ (x : Session). x.held) k.session ∙ ap (λ (x : Session). x.held) met.1) c.requires.holds

pub returns-clause-reads : goal.returns-clause-reads
returns-clause-reads g c =
    let e = c.laws.ensures in
    let l : Grounds = record { reached = e.reached; needs = e.needs; versions = e.versions; kept = e.kept; prefixes = e.prefixes; seals = e.seals } in
    let lawful = (g.met.D.Disk g.world.𝓛 g.world.𝓜 g.world.𝓡 ((λ s x. x), (λ x. x), (λ x. x), (λ x. x))).lawful in
    let met = c.in_default.ensures.reads in
    let w = c.in_default-warm.ensures in
    let r = c.in-Ok-read.ensures in
    read_behind l g.D.Disk.story lawful c.args.key c.args.machine.now c.read.new.machine (still_of g.D.Disk.story c.args.machine.now c.read.new.machine c.args.key c.in_default.field-0.page c.read.ensures.beside met.0 met.1) _ c.warm.new.self c.read-2.new.machine c.in-Ok-read.value (w.gone refl) r.reads r.beside r.session

pub returns-clause-cause_disk_fault : goal.returns-clause-cause_disk_fault
returns-clause-cause_disk_fault g c =
    let faults = g.D.Disk.faults in
    cause_none _ _ _ (ap faults c.in-Ok-read.ensures.beside.disk ∙ (c.in_default-warm.ensures.cause_disk_fault.calm (ok_err _ _ stopped.DiskFault) ∙ ap faults c.read.ensures.beside.disk)) (ok_err (Option ℕ) c.in-Ok-read.value stopped.DiskFault)

pub unreachable-requires : goal.unreachable-requires
unreachable-requires g c = c.in-Err-read.ensures.cause_cold c.in_default-warm.ensures.warm refl
