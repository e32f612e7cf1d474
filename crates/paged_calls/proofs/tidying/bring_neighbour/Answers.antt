use Rattle.std.proofs.Common.{◌∙◌, inr, Err, ap, refl, sym, subst}
use Rattle.paged_desks.specs.core_calls.LogEvents.{IsTightAround, IsTightBeside}
use Rattle.map_model.specs.declared.call.Refusal.{Refusal}
use Rattle.paged_desks.specs.engine_trait.declared.unserved.Unserved.{Unserved}
use Rattle.paged_desks.specs.engine_trait.declared.unserved.Unserved.TheVariants as unserved
use Rattle.paged_desks.specs.core_state.States.{is_hot}
use Rattle.paged_desks.specs.image_model.Entries.{Contents}
use Rattle.paged_desks.specs.Pages.{most_a_level}
use Rattle.paged_desks.specs.declared.warming.Unwarmed.TheVariants as stopped
use Rattle.row_room.proofs.row_changes.StepLemmas.{clock_at_end, clock_below, not_fault}
use Rattle.paged_desks.proofs.EndingLemmas.{Grounds}
use Rattle.paged_calls.specs.Tidyings.{BringsNeighbour, most_a_coming}
use Rattle.paged_calls.proofs.ChangeWarms.{cause_warm, fits_unwarmed, ready_unwarmed, same_unwarmed, turn_unwarmed, works_unwarmed}
use Rattle.paged_calls.proofs.DelCalls.{clock_works}
use Rattle.paged_calls.proofs.PutCalls.{ok_round}
use Rattle.paged_calls.proofs.PutWarms.{damaged_as, spent_as}
use Rattle.paged_calls.proofs.TidyStands.{tidied_come, tidied_up}
use Rattle.paged_calls.proofs.TidyWarms.{coming_few, going_of, gone_weaker, may_come, neighbour_came, unwarmed_ends, wants_named}
use Rattle.paged_calls.proofs.WarmLemmas.{cause_none, ok_err}
use Rattle.paged_calls.proofs.tidying.bring_neighbour.Goals as goal

pub beside-requires-clause-named : goal.beside-requires-clause-named
beside-requires-clause-named g c κs within = wants_named g.D.Disk.story c.args.key c.args.page c.args.level c.args.machine.now c.requires.ready c.requires.wants

-- ## It did not come

pub returns-in-Err-clause-brings : goal.returns-in-Err-clause-brings
returns-in-Err-clause-brings g c =
    let b = c.laws.ensures in
    let l : Grounds = record { reached = b.reached; needs = b.needs; versions = b.versions; kept = b.kept; prefixes = b.prefixes; seals = b.seals } in
    let lawful = (g.met.D.Disk g.world.𝓛 g.world.𝓜 g.world.𝓡 ((λ s x. x), (λ x. x), (λ x. x), (λ x. x))).lawful in
    let story = g.D.Disk.story in
    let m = c.args.machine.now in
    let n = c.beside.new.self in
    let w = c.in-Err.ensures in
    subst (λ (why : Unserved). BringsNeighbour story c.args.key c.args.at c.args.level most_a_coming (Err why) m n) (sym c.unserved_of.ensures)
    (unwarmed_ends l story lawful c.args.key c.args.at m n (most_a_level m.machine.work.session.workers) most_a_coming (coming_few story m c.requires.ready) c.in-Err.why
    (λ on. gone_weaker story (IsTightBeside c.args.key c.args.page) (IsTightAround c.args.key) (λ h s t. inr (c.args.page, t)) _ m n (w.gone on)) w.failed (spent_as _ _ c.in-Err.why w.spent) (damaged_as _ _ c.in-Err.why w.damaged))

pub returns-in-Err-clause-works : goal.returns-in-Err-clause-works
returns-in-Err-clause-works g c = works_unwarmed g.D.Disk.story c.args.key 0 c.args.machine.now c.beside.new.self c.in-Err.why c.unserved_of.result c.unserved_of.ensures c.in-Err.ensures.works

pub returns-in-Err-clause-ready : goal.returns-in-Err-clause-ready
returns-in-Err-clause-ready g c = ready_unwarmed g.D.Disk.story c.args.key 0 c.args.machine.now c.beside.new.self c.in-Err.why c.unserved_of.result c.unserved_of.ensures c.in-Err.ensures.ready

pub returns-in-Err-clause-fits : goal.returns-in-Err-clause-fits
returns-in-Err-clause-fits g c = fits_unwarmed g.D.Disk.story c.args.key 0 c.args.machine.now c.beside.new.self c.in-Err.why c.in-Err.ensures.ready c.in-Err.ensures.failed

pub returns-in-Err-clause-session : goal.returns-in-Err-clause-session
returns-in-Err-clause-session g c = same_unwarmed g.D.Disk.story c.args.key _ c.args.machine.now c.beside.new.self c.in-Err.why c.in-Err.ensures.gone c.in-Err.ensures.failed

pub returns-in-Err-clause-turn : goal.returns-in-Err-clause-turn
returns-in-Err-clause-turn g c = turn_unwarmed g.D.Disk.story c.args.key _ c.args.machine.now c.beside.new.self c.in-Err.why c.unserved_of.result c.unserved_of.ensures c.in-Err.ensures.gone

pub returns-in-Err-clause-cause_disk_fault : goal.returns-in-Err-clause-cause_disk_fault
returns-in-Err-clause-cause_disk_fault g c = cause_warm _ (Unit {0}) _ _ c.in-Err.why c.unserved_of.result c.unserved_of.ensures c.in-Err.ensures.cause_disk_fault

-- ## The clock

pub returns-in-Some-clause-brings : goal.returns-in-Some-clause-brings
returns-in-Some-clause-brings g c =
    let b = c.laws.ensures in
    let l : Grounds = record { reached = b.reached; needs = b.needs; versions = b.versions; kept = b.kept; prefixes = b.prefixes; seals = b.seals } in
    let lawful = (g.met.D.Disk g.world.𝓛 g.world.𝓜 g.world.𝓡 ((λ s x. x), (λ x. x), (λ x. x), (λ x. x))).lawful in
    let story = g.D.Disk.story in
    let m = c.args.machine.now in
    let n = c.beside.new.self in
    let gone = c.in_default.ensures.gone refl in
    let q = clock_at_end n.machine.work.session.clock.clock c.in-Some.why (sym c.clock_refusal.ensures ∙ c.in-Some.is) in
    subst (λ (why : Refusal). BringsNeighbour story c.args.key c.args.at c.args.level most_a_coming (Err (unserved.Refused why)) m n) (sym q.is)
    (record {
      there = c.args.at;
      made = tidied_up story c.args.key c.args.at c.args.at (most_a_level m.machine.work.session.workers) most_a_coming m n (coming_few story m c.requires.ready)
          (tidied_come l story lawful c.args.key c.args.at _ m n (gone_weaker story (IsTightBeside c.args.key c.args.page) (IsTightAround c.args.key) (λ h s t. inr (c.args.page, t)) _ m n gone));
      going = going_of c.args.key c.args.at n (may_come story c.args.key c.args.at _ (IsTightBeside c.args.key c.args.page) m n c.requires.ready gone.paged c.requires.may);
      spent = q.spent;
    })

pub returns-in-Some-clause-works : goal.returns-in-Some-clause-works
returns-in-Some-clause-works g c = c.in_default.ensures.works ∙ sym (clock_works (Unit {0}) c.beside.new.self.machine.work.session.clock.clock c.in-Some.why (sym c.clock_refusal.ensures ∙ c.in-Some.is))

pub returns-in-Some-clause-ready : goal.returns-in-Some-clause-ready
returns-in-Some-clause-ready g c works = c.in_default.ensures.ready refl

pub returns-in-Some-clause-cause_disk_fault : goal.returns-in-Some-clause-cause_disk_fault
returns-in-Some-clause-cause_disk_fault g c = cause_none _ _ _ (c.in_default.ensures.cause_disk_fault.calm (ok_err _ _ stopped.DiskFault)) (not_fault (Unit {0}) c.beside.new.self.machine.work.session.clock.clock c.in-Some.why (sym c.clock_refusal.ensures ∙ c.in-Some.is))

-- ## It came

pub returns-in-None-clause-brings : goal.returns-in-None-clause-brings
returns-in-None-clause-brings g c =
    let b = c.laws.ensures in
    let l : Grounds = record { reached = b.reached; needs = b.needs; versions = b.versions; kept = b.kept; prefixes = b.prefixes; seals = b.seals } in
    let lawful = (g.met.D.Disk g.world.𝓛 g.world.𝓜 g.world.𝓡 ((λ s x. x), (λ x. x), (λ x. x), (λ x. x))).lawful in
    let story = g.D.Disk.story in
    let m = c.args.machine.now in
    let n = c.beside.new.self in
    let w = c.in_default.ensures in
    let gone = w.gone refl in
    neighbour_came story c.args.key c.args.at (most_a_level m.machine.work.session.workers) (IsTightBeside c.args.key c.args.page) m n c.requires.ready gone.paged c.args.page c.args.level c.requires.passed c.requires.wants c.requires.warm w.near.warm (ap is_hot w.near.hot) (λ q other. ap (λ (x : Contents). x.node) (w.near.others q other))
    l lawful (gone_weaker story (IsTightBeside c.args.key c.args.page) (IsTightAround c.args.key) (λ h s t. inr (c.args.page, t)) _ m n gone) (coming_few story m c.requires.ready) c.requires.may c.requires.live (clock_below n.machine.work.session.clock.clock (sym c.clock_refusal.ensures ∙ c.in-None.is))

pub returns-in-None-clause-cause_disk_fault : goal.returns-in-None-clause-cause_disk_fault
returns-in-None-clause-cause_disk_fault g c = cause_none _ _ _ (c.in_default.ensures.cause_disk_fault.calm (ok_err _ _ stopped.DiskFault)) (ok_round _ _)
