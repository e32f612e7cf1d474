use Rattle.std.proofs.Common.{◌≡◌, ◌∙◌, false, Ok, Err, sym, subst}
use Rattle.row_growth.specs.row_changes.Paths.{LeadsToFull}
use Rattle.row_growth.specs.row_changes.Puts.{MayChange}
use Rattle.row_growth.proofs.row_changes.DelLemmas.{same_then}
use Rattle.row_growth.proofs.row_changes.SeenLemmas.{still}
use Rattle.row_growth.proofs.row_changes.StepLemmas.{calm_then, ok_calm}
use Rattle.row_room.specs.Rooms.{IsRoomed, MadeSpace}
use Rattle.row_growth.specs.declared.room.Growth.TheVariants as growth
use Rattle.row_growth.proofs.RoomLemmas.{may_on, placed_on}
use Rattle.row_growth.proofs.StepLemmas.{tried_full}
use Rattle.row_room.proofs.StepLemmas.{may_after, refused_told, roomed_from, space_as, step_needs, step_refused, step_stopped, stopped_calm, stopped_goes, tried_as, try_told}
use Rattle.row_room.proofs.steps.put_step.Goals as goal

pub returns-in-Err-clause-steps : goal.returns-in-Err-clause-steps
returns-in-Err-clause-steps g c =
    tried_as c.in-Err.unmade c.args.placed (g.R.Rows.view c.args.seat.now) (g.R.Rows.view c.put_in_leaf.new.seat) c.args.key c.args.value c.args.work.now.session c.put_in_leaf.new.work.session c.args.work.now.log c.put_in_leaf.new.work.log
    (g.D.Disk.story c.args.work.now.disk) (g.D.Disk.story c.put_in_leaf.new.work.disk) c.put_in_leaf.new.path (c.put_in_leaf.new.work ≡ c.args.work.now) (c.put_in_leaf.new.work.session.works ≡ false) c.in-Err.ensures.tries

pub make_space-requires-clause-may : goal.make_space-requires-clause-may
make_space-requires-clause-may g c κs lives =
    let v = g.R.Rows.view c.args.seat.now in
    let w = g.R.Rows.view c.put_in_leaf.new.seat in
    let t = tried_full c.in-Ok-Full.field-0 c.in-Ok-Full.field-0-is (g.R.Rows.view c.args.seat.now) (g.R.Rows.view c.put_in_leaf.new.seat) c.args.key c.args.value c.args.work.now.session c.put_in_leaf.new.work.session c.args.work.now.log c.put_in_leaf.new.work.log
    (g.D.Disk.story c.args.work.now.disk) (g.D.Disk.story c.put_in_leaf.new.work.disk) c.put_in_leaf.new.path (c.put_in_leaf.new.work ≡ c.args.work.now) (c.put_in_leaf.new.work.session.works ≡ false) c.in-Ok-Full.ensures.tries in
    subst (λ k. MayChange w k.session k.log c.args.key) (sym t.1) (may_on v w c.args.work.now.session c.args.work.now.log c.args.key t.0.given (still v w t.0.given t.0.seen) c.requires.may)

pub make_space-requires-clause-placed : goal.make_space-requires-clause-placed
make_space-requires-clause-placed g c κs lives =
    let v = g.R.Rows.view c.args.seat.now in
    let w = g.R.Rows.view c.put_in_leaf.new.seat in
    let t = tried_full c.in-Ok-Full.field-0 c.in-Ok-Full.field-0-is (g.R.Rows.view c.args.seat.now) (g.R.Rows.view c.put_in_leaf.new.seat) c.args.key c.args.value c.args.work.now.session c.put_in_leaf.new.work.session c.args.work.now.log c.put_in_leaf.new.work.log
    (g.D.Disk.story c.args.work.now.disk) (g.D.Disk.story c.put_in_leaf.new.work.disk) c.put_in_leaf.new.path (c.put_in_leaf.new.work ≡ c.args.work.now) (c.put_in_leaf.new.work.session.works ≡ false) c.in-Ok-Full.ensures.tries in
    placed_on v w c.args.placed (still v w t.0.given t.0.seen) c.requires.placed

pub make_space-requires-clause-leads : goal.make_space-requires-clause-leads
make_space-requires-clause-leads g c κs lives =
    let t = tried_full c.in-Ok-Full.field-0 c.in-Ok-Full.field-0-is (g.R.Rows.view c.args.seat.now) (g.R.Rows.view c.put_in_leaf.new.seat) c.args.key c.args.value c.args.work.now.session c.put_in_leaf.new.work.session c.args.work.now.log c.put_in_leaf.new.work.log
    (g.D.Disk.story c.args.work.now.disk) (g.D.Disk.story c.put_in_leaf.new.work.disk) c.put_in_leaf.new.path (c.put_in_leaf.new.work ≡ c.args.work.now) (c.put_in_leaf.new.work.session.works ≡ false) c.in-Ok-Full.ensures.tries in
    subst (λ k. LeadsToFull (g.R.Rows.view c.put_in_leaf.new.seat) k.session.frames c.args.key c.put_in_leaf.new.path) (sym t.1) t.0.full

pub returns-in-Err-make_space-clause-steps : goal.returns-in-Err-make_space-clause-steps
returns-in-Err-make_space-clause-steps g c =
    let t = tried_full c.in-Ok-Full.field-0 c.in-Ok-Full.field-0-is (g.R.Rows.view c.args.seat.now) (g.R.Rows.view c.put_in_leaf.new.seat) c.args.key c.args.value c.args.work.now.session c.put_in_leaf.new.work.session c.args.work.now.log c.put_in_leaf.new.work.log
    (g.D.Disk.story c.args.work.now.disk) (g.D.Disk.story c.put_in_leaf.new.work.disk) c.put_in_leaf.new.path (c.put_in_leaf.new.work ≡ c.args.work.now) (c.put_in_leaf.new.work.session.works ≡ false) c.in-Ok-Full.ensures.tries in
    step_refused c.args.key c.args.value t.0.full.leaf c.args.placed (g.R.Rows.view c.args.seat.now) (g.R.Rows.view c.put_in_leaf.new.seat) (g.R.Rows.view c.make_space.new.seat)
    c.args.work.now.session c.make_space.new.work.session c.args.work.now.log c.make_space.new.work.log (g.D.Disk.story c.args.work.now.disk) (g.D.Disk.story c.make_space.new.work.disk)
    (c.make_space.new.work ≡ c.args.work.now) (c.make_space.new.work.session.works ≡ false) t.0.given t.0.seen c.requires.may t.0.full.unfit c.in-Err-make_space.why
    (subst (λ k. MadeSpace (Err c.in-Err-make_space.why) c.args.key c.args.placed (g.R.Rows.view c.put_in_leaf.new.seat) (g.R.Rows.view c.make_space.new.seat) k.session c.make_space.new.work.session k.log c.make_space.new.work.log (g.D.Disk.story k.disk) (g.D.Disk.story c.make_space.new.work.disk) (c.make_space.new.work ≡ k) (c.make_space.new.work.session.works ≡ false))
    t.1 c.in-Err-make_space.ensures.space)

pub returns-in-Err-clause-cause_disk_fault : goal.returns-in-Err-clause-cause_disk_fault
returns-in-Err-clause-cause_disk_fault g c =
    try_told (g.D.Disk.faults c.args.work.now.disk) (g.D.Disk.faults c.put_in_leaf.new.work.disk) c.in-Err.unmade c.in-Err.ensures.cause_disk_fault

pub returns-in-Err-make_space-clause-session : goal.returns-in-Err-make_space-clause-session
returns-in-Err-make_space-clause-session g c = same_then c.args.work.now.session c.put_in_leaf.new.work.session c.make_space.new.work.session c.in-Ok-Full.ensures.session c.in-Err-make_space.ensures.session

pub returns-in-Err-make_space-clause-cause_disk_fault : goal.returns-in-Err-make_space-clause-cause_disk_fault
returns-in-Err-make_space-clause-cause_disk_fault g c =
    refused_told (g.D.Disk.faults c.args.work.now.disk) (g.D.Disk.faults c.put_in_leaf.new.work.disk) (g.D.Disk.faults c.make_space.new.work.disk) _ c.in-Err-make_space.why c.in-Ok-Full.ensures.cause_disk_fault (ok_calm _ _) c.in-Err-make_space.ensures.cause_disk_fault

pub returns-in-Ok-Needs-clause-steps : goal.returns-in-Ok-Needs-clause-steps
returns-in-Ok-Needs-clause-steps g c =
    let t = tried_full c.in-Ok-Full.field-0 c.in-Ok-Full.field-0-is (g.R.Rows.view c.args.seat.now) (g.R.Rows.view c.put_in_leaf.new.seat) c.args.key c.args.value c.args.work.now.session c.put_in_leaf.new.work.session c.args.work.now.log c.put_in_leaf.new.work.log
    (g.D.Disk.story c.args.work.now.disk) (g.D.Disk.story c.put_in_leaf.new.work.disk) c.put_in_leaf.new.path (c.put_in_leaf.new.work ≡ c.args.work.now) (c.put_in_leaf.new.work.session.works ≡ false) c.in-Ok-Full.ensures.tries in
    step_needs c.args.key c.args.value c.in-Ok-Needs.page c.args.placed (g.R.Rows.view c.args.seat.now) (g.R.Rows.view c.put_in_leaf.new.seat) (g.R.Rows.view c.make_space.new.seat)
    c.args.work.now.session c.make_space.new.work.session c.args.work.now.log c.make_space.new.work.log (g.D.Disk.story c.args.work.now.disk) (g.D.Disk.story c.make_space.new.work.disk)
    (c.make_space.new.work ≡ c.args.work.now) (c.make_space.new.work.session.works ≡ false) t.0.given t.0.seen t.0.full.leaf t.0.full.unfit
    (subst (λ k. MadeSpace (Ok (growth.Needs c.in-Ok-Needs.page)) c.args.key c.args.placed (g.R.Rows.view c.put_in_leaf.new.seat) (g.R.Rows.view c.make_space.new.seat) k.session c.make_space.new.work.session k.log c.make_space.new.work.log (g.D.Disk.story k.disk) (g.D.Disk.story c.make_space.new.work.disk) (c.make_space.new.work ≡ k) (c.make_space.new.work.session.works ≡ false))
    t.1
    (space_as c.in-Ok-Needs.field-0 (growth.Needs c.in-Ok-Needs.page) c.in-Ok-Needs.field-0-is c.args.key c.args.placed (g.R.Rows.view c.put_in_leaf.new.seat) (g.R.Rows.view c.make_space.new.seat) c.put_in_leaf.new.work.session c.make_space.new.work.session c.put_in_leaf.new.work.log c.make_space.new.work.log
    (g.D.Disk.story c.put_in_leaf.new.work.disk) (g.D.Disk.story c.make_space.new.work.disk) (c.make_space.new.work ≡ c.put_in_leaf.new.work) (c.make_space.new.work.session.works ≡ false) c.in-Ok-Needs.ensures.space))

pub returns-in-Ok-Needs-clause-session : goal.returns-in-Ok-Needs-clause-session
returns-in-Ok-Needs-clause-session g c = same_then c.args.work.now.session c.put_in_leaf.new.work.session c.make_space.new.work.session c.in-Ok-Full.ensures.session c.in-Ok-Needs.ensures.session

pub returns-in-Ok-Needs-clause-cause_disk_fault : goal.returns-in-Ok-Needs-clause-cause_disk_fault
returns-in-Ok-Needs-clause-cause_disk_fault g c =
    calm_then (g.D.Disk.faults c.args.work.now.disk) (g.D.Disk.faults c.put_in_leaf.new.work.disk) (g.D.Disk.faults c.make_space.new.work.disk) _ _ _ c.in-Ok-Full.ensures.cause_disk_fault (ok_calm _ _) c.in-Ok-Needs.ensures.cause_disk_fault (ok_calm _ _) (ok_calm _ _)

pub returns-in-Some-clause-steps : goal.returns-in-Some-clause-steps
returns-in-Some-clause-steps g c =
    let t = tried_full c.in-Ok-Full.field-0 c.in-Ok-Full.field-0-is (g.R.Rows.view c.args.seat.now) (g.R.Rows.view c.put_in_leaf.new.seat) c.args.key c.args.value c.args.work.now.session c.put_in_leaf.new.work.session c.args.work.now.log c.put_in_leaf.new.work.log
    (g.D.Disk.story c.args.work.now.disk) (g.D.Disk.story c.put_in_leaf.new.work.disk) c.put_in_leaf.new.path (c.put_in_leaf.new.work ≡ c.args.work.now) (c.put_in_leaf.new.work.session.works ≡ false) c.in-Ok-Full.ensures.tries in
    step_stopped c.args.key c.args.value c.args.placed (g.R.Rows.view c.args.seat.now) (g.R.Rows.view c.make_space.new.seat) c.args.work.now.session c.make_space.new.work.session c.args.work.now.log c.make_space.new.work.log
    (g.D.Disk.story c.args.work.now.disk) (g.D.Disk.story c.make_space.new.work.disk) _
    (roomed_from (g.R.Rows.view c.args.seat.now) (g.R.Rows.view c.put_in_leaf.new.seat) t.0.given t.0.seen c.args.key (g.R.Rows.view c.make_space.new.seat) c.args.work.now.session c.make_space.new.work.session c.args.work.now.log c.make_space.new.work.log
    (g.D.Disk.story c.args.work.now.disk) (g.D.Disk.story c.make_space.new.work.disk)
    (subst (λ k. IsRoomed c.args.key (g.R.Rows.view c.put_in_leaf.new.seat) (g.R.Rows.view c.make_space.new.seat) k.session c.make_space.new.work.session k.log c.make_space.new.work.log (g.D.Disk.story k.disk) (g.D.Disk.story c.make_space.new.work.disk)) t.1
    (space_as c.in-Ok-Grown.field-0 growth.Grown c.in-Ok-Grown.field-0-is c.args.key c.args.placed (g.R.Rows.view c.put_in_leaf.new.seat) (g.R.Rows.view c.make_space.new.seat) c.put_in_leaf.new.work.session c.make_space.new.work.session c.put_in_leaf.new.work.log c.make_space.new.work.log
    (g.D.Disk.story c.put_in_leaf.new.work.disk) (g.D.Disk.story c.make_space.new.work.disk) (c.make_space.new.work ≡ c.put_in_leaf.new.work) (c.make_space.new.work.session.works ≡ false) c.in-Ok-Grown.ensures.space)))
    c.in-Some.why (sym c.clock_refusal.ensures ∙ c.in-Some.is)

pub returns-in-Some-clause-works : goal.returns-in-Some-clause-works
returns-in-Some-clause-works g c = c.in-Ok-Grown.ensures.works ∙ sym (stopped_goes c.make_space.new.work.session.clock.clock c.in-Some.why (sym c.clock_refusal.ensures ∙ c.in-Some.is))

pub returns-in-Some-clause-cause_disk_fault : goal.returns-in-Some-clause-cause_disk_fault
returns-in-Some-clause-cause_disk_fault g c =
    calm_then (g.D.Disk.faults c.args.work.now.disk) (g.D.Disk.faults c.put_in_leaf.new.work.disk) (g.D.Disk.faults c.make_space.new.work.disk) _ _ _ c.in-Ok-Full.ensures.cause_disk_fault (ok_calm _ _) c.in-Ok-Grown.ensures.cause_disk_fault (ok_calm _ _)
    (stopped_calm c.make_space.new.work.session.clock.clock c.in-Some.why (sym c.clock_refusal.ensures ∙ c.in-Some.is))

pub returns-in-None-clause-steps : goal.returns-in-None-clause-steps
returns-in-None-clause-steps g c =
    let t = tried_full c.in-Ok-Full.field-0 c.in-Ok-Full.field-0-is (g.R.Rows.view c.args.seat.now) (g.R.Rows.view c.put_in_leaf.new.seat) c.args.key c.args.value c.args.work.now.session c.put_in_leaf.new.work.session c.args.work.now.log c.put_in_leaf.new.work.log
    (g.D.Disk.story c.args.work.now.disk) (g.D.Disk.story c.put_in_leaf.new.work.disk) c.put_in_leaf.new.path (c.put_in_leaf.new.work ≡ c.args.work.now) (c.put_in_leaf.new.work.session.works ≡ false) c.in-Ok-Full.ensures.tries in
    let grown = (roomed_from (g.R.Rows.view c.args.seat.now) (g.R.Rows.view c.put_in_leaf.new.seat) t.0.given t.0.seen c.args.key (g.R.Rows.view c.make_space.new.seat) c.args.work.now.session c.make_space.new.work.session c.args.work.now.log c.make_space.new.work.log
    (g.D.Disk.story c.args.work.now.disk) (g.D.Disk.story c.make_space.new.work.disk)
    (subst (λ k. IsRoomed c.args.key (g.R.Rows.view c.put_in_leaf.new.seat) (g.R.Rows.view c.make_space.new.seat) k.session c.make_space.new.work.session k.log c.make_space.new.work.log (g.D.Disk.story k.disk) (g.D.Disk.story c.make_space.new.work.disk)) t.1
    (space_as c.in-Ok-Grown.field-0 growth.Grown c.in-Ok-Grown.field-0-is c.args.key c.args.placed (g.R.Rows.view c.put_in_leaf.new.seat) (g.R.Rows.view c.make_space.new.seat) c.put_in_leaf.new.work.session c.make_space.new.work.session c.put_in_leaf.new.work.log c.make_space.new.work.log
    (g.D.Disk.story c.put_in_leaf.new.work.disk) (g.D.Disk.story c.make_space.new.work.disk) (c.make_space.new.work ≡ c.put_in_leaf.new.work) (c.make_space.new.work.session.works ≡ false) c.in-Ok-Grown.ensures.space))) in (
      grown,
      may_after c.args.key (g.R.Rows.view c.args.seat.now) (g.R.Rows.view c.make_space.new.seat) c.args.work.now.session c.make_space.new.work.session c.args.work.now.log c.make_space.new.work.log
          (g.D.Disk.story c.args.work.now.disk) (g.D.Disk.story c.make_space.new.work.disk) c.requires.holds.numbers.hand c.requires.may grown (sym c.clock_refusal.ensures ∙ c.in-None.is),
    )

pub returns-in-None-clause-cause_disk_fault : goal.returns-in-None-clause-cause_disk_fault
returns-in-None-clause-cause_disk_fault g c =
    calm_then (g.D.Disk.faults c.args.work.now.disk) (g.D.Disk.faults c.put_in_leaf.new.work.disk) (g.D.Disk.faults c.make_space.new.work.disk) _ _ _ c.in-Ok-Full.ensures.cause_disk_fault (ok_calm _ _) c.in-Ok-Grown.ensures.cause_disk_fault (ok_calm _ _) (ok_calm _ _)
