use Rattle.std.proofs.Common.{refl, inl, ◌∙◌, ◌+◌, ◌≤◌, arith, ap, sym, suc, ℕ, Option}
use Rattle.lean_disk.specs.Story.{IsLawful}
use Rattle.desk_parts.specs.session_state.declared.session.Session.{Session}
use Rattle.paged_desks.specs.Inside.{HasDone}
use Rattle.paged_desks.specs.Parts.{IsLate}
use Rattle.paged_desks.specs.declared.warming.Unwarmed.TheVariants as refused
use Rattle.paged_desks.specs.Machines.{pages, view_of}
use Rattle.paged_desks.specs.Pages.{IsTightFor, goes_on, most_a_level}
use Rattle.paged_desks.proofs.Breaking.{broken_then, broken_up, stop_broken}
use Rattle.paged_desks.proofs.Doing.{done_then, done_up}
use Rattle.paged_desks.proofs.Late.{late_of}
use Rattle.paged_desks.proofs.Losses.{unread_err, unread_of}
use Rattle.paged_desks.proofs.Stopping.{stop_keeps}
use Rattle.paged_desks.proofs.Stops.{err_same, refusing, full_calm, full_rest, broken_is, of_page, stop_works, too_full}
use Rattle.paged_desks.proofs.Warmth.{can_after, comes_behind, comes_of, paged_is, warm_refused, well_of}
use Rattle.paged_desks.proofs.machine.PagedMachine.bring_or_sync.Goals as goal

pub stop-requires-clause-page : goal.stop-requires-clause-page
stop-requires-clause-page g c κs within =
    let m = c.args.self.now in
    let n = c.bring.new.self in
    of_page c.args.key c.args.wanted (pages m) (pages n) c.in-Err.why (paged_is c.requires.ready) c.requires.ready.well (sym c.is_full.ensures ∙ c.if-is_full.false) c.in-Err.ensures.err

pub returns-in-Ok-clause-done : goal.returns-in-Ok-clause-done
returns-in-Ok-clause-done g c _ =
    let m = c.args.self.now in
    done_up (let few : 15 ≤ most_a_level m.machine.work.session.workers = omega arith in few)
    (c.in-Ok.ensures.done (well_of c.args.key c.args.wanted (pages m) (pages c.bring.new.self) c.in-Ok.come c.in-Ok.ensures.ok c.requires.ready.well))

pub returns-in-Ok-clause-comes : goal.returns-in-Ok-clause-comes
returns-in-Ok-clause-comes g c =
    let m = c.args.self.now in
    let n = c.bring.new.self in
    comes_of c.args.key c.args.wanted m n c.laws.ensures.warm c.laws.ensures.sequel (paged_is c.requires.ready) (paged_is (c.in-Ok.ensures.ready (well_of c.args.key c.args.wanted (pages m) (pages n) c.in-Ok.come c.in-Ok.ensures.ok c.requires.ready.well))) c.in-Ok.come c.in-Ok.ensures.ok

pub returns-then-is_full-clause-done : goal.returns-then-is_full-clause-done
returns-then-is_full-clause-done g c on =
    let m = c.args.self.now in
    let n = c.bring.new.self in
    let l = c.laws.ensures in
    let e = c.in-Err.ensures in
    let many = ap (λ (s : Session). s.workers) e.beside.session in
    let lawful : (d : g.row.D.Denot) → IsLawful (g.D.Disk.story d) = λ d. (g.met.D.Disk g.world.𝓛 g.world.𝓜 g.world.𝓡 ((λ s x. x), (λ x. x), (λ x. x), (λ x. x))).lawful d in
    done_then g.D.Disk.story (IsTightFor c.args.wanted c.args.key) l.kept l.prefixes l.seals l.versions lawful (let few : 15 + (15 + suc n.machine.work.session.workers) ≤ most_a_level m.machine.work.session.workers = omega arith in few)
    (e.done (broken_is c.args.key c.args.wanted (pages m) (pages n) c.in-Err.why c.requires.ready.well e.err ∙ full_calm c.in-Err.why (sym c.is_full.ensures ∙ c.if-is_full.true))) (c.sync_and_bring.ensures.done on)

pub returns-then-is_full-clause-comes : goal.returns-then-is_full-clause-comes
returns-then-is_full-clause-comes g c =
    comes_behind c.args.key c.args.wanted c.args.self.now c.bring.new.self c.sync_and_bring.new.self (warm_refused c.args.key c.args.wanted c.args.self.now c.bring.new.self c.in-Err.why c.laws.ensures.sequel (paged_is c.requires.ready) c.in-Err.ensures.err)
    (full_rest c.args.wanted (pages c.args.self.now) (pages c.bring.new.self) c.in-Err.why (sym c.is_full.ensures ∙ c.if-is_full.true) c.in-Err.ensures.err.rest) c.requires.can c.sync_and_bring.result c.sync_and_bring.ensures.comes

pub sync_and_bring-requires-clause-can : goal.sync_and_bring-requires-clause-can
sync_and_bring-requires-clause-can g c κs within =
    can_after c.args.key c.args.wanted c.args.self.now c.bring.new.self (warm_refused c.args.key c.args.wanted c.args.self.now c.bring.new.self c.in-Err.why c.laws.ensures.sequel (paged_is c.requires.ready) c.in-Err.ensures.err) c.requires.can

pub sync_and_bring-requires-clause-crowded : goal.sync_and_bring-requires-clause-crowded
sync_and_bring-requires-clause-crowded g c κs within = too_full c.args.key c.args.wanted c.bring.new.self c.in-Err.why (sym c.is_full.ensures ∙ c.if-is_full.true) c.in-Err.ensures.err.crowded

pub returns-clause-done : goal.returns-clause-done
returns-clause-done g c =
    let m = c.args.self.now in
    let n = c.bring.new.self in
    let e = c.in-Err.ensures.err in
    let why = c.in-Err.why in
    let most = most_a_level m.machine.work.session.workers in
    stop_keeps g.D.Disk.story c.args.key c.args.wanted m n c.stop.new.self why c.stop.result c.requires.ready e (of_page c.args.key c.args.wanted (pages m) (pages n) why (paged_is c.requires.ready) c.requires.ready.well (sym c.is_full.ensures ∙ c.if-is_full.false) e)
    c.stop.ensures.why c.stop.ensures.goes_on (Option ℕ) (HasDone g.D.Disk.story (IsTightFor c.args.wanted c.args.key) most m) (λ well. done_up (let few : 15 ≤ most_a_level m.machine.work.session.workers = omega arith in few) (c.in-Err.ensures.done well))

pub returns-then-is_full-clause-broke : goal.returns-then-is_full-clause-broke
returns-then-is_full-clause-broke g c off =
    let m = c.args.self.now in
    let n = c.bring.new.self in
    let e = c.in-Err.ensures in
    let many = ap (λ (s : Session). s.workers) e.beside.session in
    let l = c.laws.ensures in
    let lawful : (d : g.row.D.Denot) → IsLawful (g.D.Disk.story d) = λ d. (g.met.D.Disk g.world.𝓛 g.world.𝓜 g.world.𝓡 ((λ s x. x), (λ x. x), (λ x. x), (λ x. x))).lawful d in
    broken_then g.D.Disk.story (IsTightFor c.args.wanted c.args.key) l.kept l.prefixes l.seals l.versions lawful (let few : 15 + (15 + suc n.machine.work.session.workers) ≤ most_a_level m.machine.work.session.workers = omega arith in few)
    (e.done (broken_is c.args.key c.args.wanted (pages m) (pages n) c.in-Err.why c.requires.ready.well e.err ∙ full_calm c.in-Err.why (sym c.is_full.ensures ∙ c.if-is_full.true))) (c.sync_and_bring.ensures.broke off)

pub returns-clause-broke : goal.returns-clause-broke
returns-clause-broke g c off =
    let m = c.args.self.now in
    let n = c.bring.new.self in
    let e = c.in-Err.ensures.err in
    let why = c.in-Err.why in
    broken_up (let few : 15 ≤ most_a_level m.machine.work.session.workers = omega arith in few)
    (stop_broken m n c.stop.new.self (Option ℕ) why c.stop.result c.stop.ensures.why (of_page c.args.key c.args.wanted (pages m) (pages n) why (paged_is c.requires.ready) c.requires.ready.well (sym c.is_full.ensures ∙ c.if-is_full.false) e)
    (broken_is c.args.key c.args.wanted (pages m) (pages n) why c.requires.ready.well e) c.in-Err.ensures.broke c.stop.ensures.stops off)

pub returns-clause-works : goal.returns-clause-works
returns-clause-works g c =
    let m = c.args.self.now in
    let n = c.bring.new.self in
    let e = c.in-Err.ensures.err in
    let why = c.in-Err.why in
    stop_works (Option ℕ) why c.stop.result n.pager.broken n.machine.work.session.works c.stop.new.self.machine.work.session.works c.stop.ensures.why
    (of_page c.args.key c.args.wanted (pages m) (pages n) why (paged_is c.requires.ready) c.requires.ready.well (sym c.is_full.ensures ∙ c.if-is_full.false) e)
    (broken_is c.args.key c.args.wanted (pages m) (pages n) why c.requires.ready.well e) (ap (λ s. s.works) c.in-Err.ensures.beside.session ∙ c.requires.ready.works)
    (λ b. ap (λ o. o.machine.work.session.works) (c.stop.ensures.goes_on b)) (λ b. (c.stop.ensures.stops b).works)

pub returns-clause-stuck : goal.returns-clause-stuck
returns-clause-stuck g c r =
    let m = c.args.self.now in
    let n = c.bring.new.self in
    let e = c.in-Err.ensures.err in
    let why = c.in-Err.why in
    let page = of_page c.args.key c.args.wanted (pages m) (pages n) why (paged_is c.requires.ready) c.requires.ready.well (sym c.is_full.ensures ∙ c.if-is_full.false) e in
    let u = err_same (refusing c.stop.result) (refusing refused.RowSpent) c.stop.result refused.RowSpent refl refl r in
    inl (stop_keeps g.D.Disk.story c.args.key c.args.wanted m n c.stop.new.self why c.stop.result c.requires.ready e page c.stop.ensures.why c.stop.ensures.goes_on (Option ℕ) (λ o. IsLate (view_of o))
    (λ _. late_of (view_of n) why page (sym c.stop.ensures.why ∙ u) c.in-Err.ensures.late) (ap (λ x. goes_on {A = Option ℕ} (refusing x)) u))

pub returns-then-is_full-clause-unread : goal.returns-then-is_full-clause-unread
returns-then-is_full-clause-unread g c =
    let m = c.args.self.now in
    let n = c.bring.new.self in
    let e = c.in-Err.ensures in
    let d = e.done (broken_is c.args.key c.args.wanted (pages m) (pages n) c.in-Err.why c.requires.ready.well e.err ∙ full_calm c.in-Err.why (sym c.is_full.ensures ∙ c.if-is_full.true)) in
    unread_err g.D.Disk.story m n d.paged.events d.paged.behind d.part c.sync_and_bring.result c.sync_and_bring.ensures.unread

pub returns-clause-unread : goal.returns-clause-unread
returns-clause-unread g c = unread_of g.D.Disk.story c.args.self.now c.in-Err.why c.stop.result c.stop.ensures.why c.in-Err.ensures.away
