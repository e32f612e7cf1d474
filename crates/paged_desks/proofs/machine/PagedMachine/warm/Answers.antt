use Rattle.std.proofs.Common.{ap, ◌≡◌, ◌∙◌, ◌+◌, ◌*◌, ◌-◌, ◌≤◌, arith, refl, subst, Ok}
use Rattle.lean_disk.specs.Story.{IsLawful}
use Rattle.paged_rows.specs.Paged.{IsWarm}
use Rattle.paged_rows.specs.declared.wanted.Wanted.TheVariants as want
use Rattle.paged_desks.specs.Machines.{pages}
use Rattle.paged_desks.specs.Pages.{IsTightFor, goes_on, most_a_level}
use Rattle.paged_desks.proofs.Breaking.{broken_then, failed_of, nine_levels}
use Rattle.paged_desks.proofs.Doing.{done_more, done_nine, done_none, done_up, gone_of}
use Rattle.paged_desks.proofs.Late.{half_kept, spent_from}
use Rattle.paged_desks.proofs.Losses.{damaged_of, unread_before}
use Rattle.paged_desks.proofs.Stops.{refusing, unwarmed_by, warm_same}
use Rattle.paged_desks.specs.declared.warming.Unwarmed.TheVariants as refused
use Rattle.paged_desks.proofs.Warmth.{warm_first, warmer_of}
use Rattle.paged_desks.proofs.machine.PagedMachine.warm.Goals as goal

pub bring_or_sync-requires-clause-ready : goal.bring_or_sync-requires-clause-ready
bring_or_sync-requires-clause-ready g c κs within = c.loop-come.invariant.ready

pub loop-come-init : goal.loop-come-init
loop-come-init g c =
    let l = c.laws.ensures in
    let lawful : (d : g.row.D.Denot) → IsLawful (g.D.Disk.story d) = λ d. (g.met.D.Disk g.world.𝓛 g.world.𝓜 g.world.𝓡 ((λ s x. x), (λ x. x), (λ x. x), (λ x. x))).lawful d in
    record {
      ready = c.requires.ready;
      few = omega arith;
      done = done_up (let none : 0 ≤ 0 * most_a_level c.args.self.now.machine.work.session.workers = omega arith in none) (done_none g.D.Disk.story (IsTightFor want.Way c.args.key) l.kept l.prefixes l.seals l.versions lawful l.reached l.needs c.args.self.now);
      warm = warm_first c.args.key c.laws.ensures.warm c.requires.ready;
      faults = refl;
    }

pub loop-come-preserved : goal.loop-come-preserved
loop-come-preserved g c =
    let l = c.laws.ensures in
    let lawful : (d : g.row.D.Denot) → IsLawful (g.D.Disk.story d) = λ d. (g.met.D.Disk g.world.𝓛 g.world.𝓜 g.world.𝓡 ((λ s x. x), (λ x. x), (λ x. x), (λ x. x))).lawful d in
    let i = c.loop-come.invariant in
    let m = c.args.self.now in
    let p = c.loop-come.self in
    let q = c.bring_or_sync.new.self in
    let o = c.in-Ok-Some.ensures in
    let w = warmer_of c.args.key p q c.in-Ok-Some.field-0-is o.comes (8 - c.loop-come._come) i.warm in
    let less = w.0 in
    let e : (8 - c.loop-come._come) - 1 ≡ 8 - (c.loop-come._come + 1) = omega arith in record {
      ready = o.ready refl;
      few = omega arith;
      done = done_more g.D.Disk.story (IsTightFor want.Way c.args.key) l.kept l.prefixes l.seals l.versions lawful m p q c.loop-come._come i.done (o.done refl);
      warm = subst (λ l. IsWarm (pages q) c.args.key l) e w.1;
      faults = o.cause_disk_fault.calm (λ x. cc) ∙ i.faults;
    }

pub returns-in-Ok-None-clause-gone : goal.returns-in-Ok-None-clause-gone
returns-in-Ok-None-clause-gone g c _ =
    let i = c.loop-come.invariant in
    let m = c.args.self.now in
    let l = c.laws.ensures in
    let lawful : (d : g.row.D.Denot) → IsLawful (g.D.Disk.story d) = λ d. (g.met.D.Disk g.world.𝓛 g.world.𝓜 g.world.𝓡 ((λ s x. x), (λ x. x), (λ x. x), (λ x. x))).lawful d in
    gone_of g.D.Disk.story m c.requires.ready l.frames (IsTightFor want.Way c.args.key) (9 * most_a_level m.machine.work.session.workers) c.bring_or_sync.new.self (omega arith)
    (done_nine c.loop-come._come i.few (done_more g.D.Disk.story (IsTightFor want.Way c.args.key) l.kept l.prefixes l.seals l.versions lawful m c.loop-come.self c.bring_or_sync.new.self c.loop-come._come i.done (c.in-Ok-None.ensures.done refl)))

pub returns-in-Err-clause-gone : goal.returns-in-Err-clause-gone
returns-in-Err-clause-gone g c on =
    let i = c.loop-come.invariant in
    let m = c.args.self.now in
    let l = c.laws.ensures in
    let lawful : (d : g.row.D.Denot) → IsLawful (g.D.Disk.story d) = λ d. (g.met.D.Disk g.world.𝓛 g.world.𝓜 g.world.𝓡 ((λ s x. x), (λ x. x), (λ x. x), (λ x. x))).lawful d in
    gone_of g.D.Disk.story m c.requires.ready l.frames (IsTightFor want.Way c.args.key) (9 * most_a_level m.machine.work.session.workers) c.bring_or_sync.new.self (omega arith)
    (done_nine c.loop-come._come i.few (done_more g.D.Disk.story (IsTightFor want.Way c.args.key) l.kept l.prefixes l.seals l.versions lawful m c.loop-come.self c.bring_or_sync.new.self c.loop-come._come i.done (c.in-Err.ensures.done on)))

pub returns-in-Err-clause-failed : goal.returns-in-Err-clause-failed
returns-in-Err-clause-failed g c off =
    let i = c.loop-come.invariant in
    let m = c.args.self.now in
    let p = c.loop-come.self in
    let few = i.few in
    let same = i.done.paged.same.0 in
    let l = c.laws.ensures in
    let lawful : (d : g.row.D.Denot) → IsLawful (g.D.Disk.story d) = λ d. (g.met.D.Disk g.world.𝓛 g.world.𝓜 g.world.𝓡 ((λ s x. x), (λ x. x), (λ x. x), (λ x. x))).lawful d in
    failed_of g.D.Disk.story m c.bring_or_sync.new.self c.requires.ready l.frames
    (broken_then g.D.Disk.story (IsTightFor want.Way c.args.key) l.kept l.prefixes l.seals l.versions lawful (nine_levels c.loop-come._come m.machine.work.session.workers p.machine.work.session.workers few same) i.done (c.in-Err.ensures.broke off))

pub returns-in-Err-clause-tight : goal.returns-in-Err-clause-tight
returns-in-Err-clause-tight g c r = c.in-Err.ensures.stuck (ap refusing (warm_same c.in-Err.why refused.RowSpent r))

pub returns-in-Err-clause-spent : goal.returns-in-Err-clause-spent
returns-in-Err-clause-spent g c r =
    let i = c.loop-come.invariant in
    let why = warm_same c.in-Err.why refused.RowSpent r in
    let d = c.in-Err.ensures.done (ap (λ u. goes_on (refusing u)) why) in
    spent_from (IsTightFor want.Way c.args.key) c.args.self.now c.bring_or_sync.new.self (λ h. half_kept {n = c.loop-come.self} i.done.paged.same.0 i.done.paged.sessions (half_kept {n = c.bring_or_sync.new.self} d.paged.same.0 d.paged.sessions h)) (c.in-Err.ensures.stuck (ap refusing why))

pub unreachable-requires : goal.unreachable-requires
unreachable-requires g c =
    let few = c.loop-come.invariant.few in
    let last = c.loop-come-test.false in
    let e = c.loop-come.auto._come-end in
    omega arith

pub returns-in-Err-clause-damaged : goal.returns-in-Err-clause-damaged
returns-in-Err-clause-damaged g c page e =
    let m = c.args.self.now in
    let d = c.loop-come.invariant.done in
    damaged_of g.D.Disk.story m (unwarmed_by c.in-Err.why) (unread_before g.D.Disk.story m c.loop-come.self d.paged.events d.paged.behind d.part c.in-Err.why c.in-Err.ensures.unread) page e

pub returns-in-Ok-None-clause-damaged : goal.returns-in-Ok-None-clause-damaged
returns-in-Ok-None-clause-damaged g c page e = damaged_of g.D.Disk.story c.args.self.now (Ok tt) tt page e
