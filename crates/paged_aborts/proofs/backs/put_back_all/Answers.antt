use Rattle.std.proofs.Common.{◌∙◌, refl, sym}
use Rattle.paged_desks.proofs.EndingLemmas.{Grounds}
use Rattle.paged_aborts.proofs.BackWarms.{all_back, not_back, so_far_next, so_far_none}
use Rattle.paged_aborts.proofs.CauseLemmas.{cause_at}
use Rattle.paged_aborts.proofs.backs.put_back_all.Goals as goal

pub left-init : goal.left-init
left-init g c =
    let e = c.laws.ensures in
    let l : Grounds = record { reached = e.reached; needs = e.needs; versions = e.versions; kept = e.kept; prefixes = e.prefixes; seals = e.seals } in
    let lawful = (g.met.D.Disk g.world.𝓛 g.world.𝓜 g.world.𝓡 ((λ s x. x), (λ x. x), (λ x. x), (λ x. x))).lawful in
    let story = g.D.Disk.story in
    let m = c.args.machine.now in
    record { ready = c.requires.ready; is_open = c.requires.is_open; so_far = so_far_none l e.places story lawful m c.requires.ready; faults = refl }

pub left-preserved : goal.left-preserved
left-preserved g c =
    let e = c.laws.ensures in
    let l : Grounds = record { reached = e.reached; needs = e.needs; versions = e.versions; kept = e.kept; prefixes = e.prefixes; seals = e.seals } in
    let lawful = (g.met.D.Disk g.world.𝓛 g.world.𝓜 g.world.𝓡 ((λ s x. x), (λ x. x), (λ x. x), (λ x. x))).lawful in
    let story = g.D.Disk.story in
    let m = c.args.machine.now in
    let i = c.left.invariant in
    let t = c.in_default.ensures in
    let n = c.put_back_newest.new.machine in
    record {
      ready = t.ready refl;
      is_open = t.backs.0.is_open ∙ i.is_open;
      so_far = so_far_next l e.places story lawful m c.requires.ready c.left.machine n i.so_far t.backs;
      faults = t.cause_disk_fault.calm (λ q. absurd (cc)) ∙ i.faults;
    }

pub returns-in-Err-clause-backs : goal.returns-in-Err-clause-backs
returns-in-Err-clause-backs g c =
    let e = c.laws.ensures in
    let l : Grounds = record { reached = e.reached; needs = e.needs; versions = e.versions; kept = e.kept; prefixes = e.prefixes; seals = e.seals } in
    let lawful = (g.met.D.Disk g.world.𝓛 g.world.𝓜 g.world.𝓡 ((λ s x. x), (λ x. x), (λ x. x), (λ x. x))).lawful in
    let story = g.D.Disk.story in
    let m = c.args.machine.now in
    not_back l e.places story lawful m c.requires.ready c.left.machine c.put_back_newest.new.machine c.left.invariant.so_far c.in-Err.why c.in-Err.ensures.backs

-- none is left
pub returns-then-len-eq0-clause-backs : goal.returns-then-len-eq0-clause-backs
returns-then-len-eq0-clause-backs g c =
    let e = c.laws.ensures in
    let l : Grounds = record { reached = e.reached; needs = e.needs; versions = e.versions; kept = e.kept; prefixes = e.prefixes; seals = e.seals } in
    let lawful = (g.met.D.Disk g.world.𝓛 g.world.𝓜 g.world.𝓡 ((λ s x. x), (λ x. x), (λ x. x), (λ x. x))).lawful in
    let story = g.D.Disk.story in
    let m = c.args.machine.now in
    all_back l e.places story lawful m c.requires.ready c.left.machine c.left.machine c.left.invariant.so_far (sym c.len.ensures ∙ c.if-len-eq0.true)

pub returns-in-Err-clause-session : goal.returns-in-Err-clause-session
returns-in-Err-clause-session g c = let a = c.left.invariant.so_far.undone.same in let b = c.in-Err.ensures.session in (b.0 ∙ a.0, b.1 ∙ a.1)

pub returns-in-Err-clause-cause_disk_fault : goal.returns-in-Err-clause-cause_disk_fault
returns-in-Err-clause-cause_disk_fault g c = cause_at _ _ _ _ _ (sym c.left.invariant.faults) refl c.in-Err.ensures.cause_disk_fault
