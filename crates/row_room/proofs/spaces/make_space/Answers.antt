use Rattle.std.proofs.Common.{◌≡◌, ◌∙◌, false, refl, sym, subst}
use Rattle.row_growth.specs.row_changes.Paths.{LeadsToFull}
use Rattle.row_growth.specs.row_changes.Puts.{MayChange}
use Rattle.row_growth.proofs.row_changes.DelLemmas.{same_then}
use Rattle.row_growth.proofs.row_changes.StepLemmas.{cause_from, ok_calm}
use Rattle.row_growth.specs.Rooms.{Grew}
use Rattle.row_room.proofs.FullLemmas.{can_purge, path_end, path_some}
use Rattle.row_room.proofs.SpaceLemmas.{behind_told, cleared_done, cleared_spared, leads_same, may_same, may_tidy, missed_core, placed_same, purge_told, roomed_by, space_behind, space_refused}
use Rattle.row_room.proofs.spaces.make_space.Goals as goal

pub end_of-leaf-requires : goal.end_of-leaf-requires
end_of-leaf-requires g c = record { some = path_some c.requires.leads }

pub purge_leaf-requires-clause-may : goal.purge_leaf-requires-clause-may
purge_leaf-requires-clause-may g c κs lives = may_tidy (g.R.Rows.view c.args.seat.now) c.args.work.now.session c.args.work.now.log c.args.key c.requires.may

pub purge_leaf-requires-clause-can : goal.purge_leaf-requires-clause-can
purge_leaf-requires-clause-can g c κs lives =
    can_purge (g.R.Rows.shape c.args.rows.now) (g.R.Rows.view c.args.seat.now) c.args.work.now.session c.args.work.now.log c.requires.holds c.args.key c.args.path.now c.requires.leads c.end_of-leaf.result c.end_of-leaf.ensures

pub returns-in-Err-clause-space : goal.returns-in-Err-clause-space
returns-in-Err-clause-space g c =
    space_refused c.args.key c.end_of-leaf.result c.args.placed (g.R.Rows.view c.args.seat.now) (g.R.Rows.view c.purge_leaf.new.seat) c.args.work.now.session c.purge_leaf.new.work.session c.args.work.now.log c.purge_leaf.new.work.log
    (g.D.Disk.story c.args.work.now.disk) (g.D.Disk.story c.purge_leaf.new.work.disk) _ _ c.in-Err.why c.in-Err.ensures.clears

pub returns-in-Err-clause-cause_disk_fault : goal.returns-in-Err-clause-cause_disk_fault
returns-in-Err-clause-cause_disk_fault g c = purge_told (g.D.Disk.faults c.args.work.now.disk) (g.D.Disk.faults c.purge_leaf.new.work.disk) c.in-Err.why c.in-Err.ensures.cause_disk_fault

pub returns-in-Ok-Done-clause-space : goal.returns-in-Ok-Done-clause-space
returns-in-Ok-Done-clause-space g c =
    let z = g.R.Rows.shape c.args.rows.now in
    let v = g.R.Rows.view c.args.seat.now in
    let x = c.args.work.now in
    let y = c.purge_leaf.new.work in
    roomed_by c.every_purged.ensures c.every_room.ensures z v x.session x.log c.requires.holds c.args.key c.args.path.now c.requires.leads c.end_of-leaf.result (path_end c.requires.leads c.end_of-leaf.result c.end_of-leaf.ensures)
    (g.R.Rows.view c.purge_leaf.new.seat) y.session y.log (g.D.Disk.story x.disk) (g.D.Disk.story y.disk)
    (cleared_done c.in-Ok-Done.field-0 c.in-Ok-Done.field-0-is c.end_of-leaf.result 60 v (g.R.Rows.view c.purge_leaf.new.seat) x.session y.session x.log y.log (g.D.Disk.story x.disk) (g.D.Disk.story y.disk) _ _ c.in-Ok-Done.ensures.clears)

pub returns-in-Ok-Done-clause-cause_disk_fault : goal.returns-in-Ok-Done-clause-cause_disk_fault
returns-in-Ok-Done-clause-cause_disk_fault g c =
    cause_from (g.D.Disk.faults c.args.work.now.disk) (g.D.Disk.faults c.args.work.now.disk) (g.D.Disk.faults c.purge_leaf.new.work.disk) _ _ refl c.in-Ok-Done.ensures.cause_disk_fault (λ q. absurd (ok_calm _ _ q)) (λ p. absurd (ok_calm _ _ p))

pub make_room-requires-clause-may : goal.make_room-requires-clause-may
make_room-requires-clause-may g c κs lives =
    let v = g.R.Rows.view c.args.seat.now in
    let u = g.R.Rows.view c.purge_leaf.new.seat in
    let x = c.args.work.now in
    let t = cleared_spared c.in-Ok-Spared.field-0 _ c.in-Ok-Spared.field-0-is c.end_of-leaf.result 60 v u x.session c.purge_leaf.new.work.session x.log c.purge_leaf.new.work.log
    (g.D.Disk.story x.disk) (g.D.Disk.story c.purge_leaf.new.work.disk) (c.purge_leaf.new.work ≡ x) (c.purge_leaf.new.work.session.works ≡ false) c.in-Ok-Spared.ensures.clears in
    subst (λ k. MayChange u k.session k.log c.args.key) (sym t.1) (may_same v u t.0.given (missed_core v u t.0.misses t.0.are_misses t.0.given t.0.seen) x.session x.log c.args.key c.requires.may)

pub make_room-requires-clause-leads : goal.make_room-requires-clause-leads
make_room-requires-clause-leads g c κs lives =
    let v = g.R.Rows.view c.args.seat.now in
    let u = g.R.Rows.view c.purge_leaf.new.seat in
    let x = c.args.work.now in
    let t = cleared_spared c.in-Ok-Spared.field-0 _ c.in-Ok-Spared.field-0-is c.end_of-leaf.result 60 v u x.session c.purge_leaf.new.work.session x.log c.purge_leaf.new.work.log
    (g.D.Disk.story x.disk) (g.D.Disk.story c.purge_leaf.new.work.disk) (c.purge_leaf.new.work ≡ x) (c.purge_leaf.new.work.session.works ≡ false) c.in-Ok-Spared.ensures.clears in
    subst (λ k. LeadsToFull u k.session.frames c.args.key c.args.path.now) (sym t.1) (leads_same v u t.0.given (missed_core v u t.0.misses t.0.are_misses t.0.given t.0.seen) x.session.frames c.args.key c.args.path.now c.requires.leads)

pub make_room-requires-clause-placed : goal.make_room-requires-clause-placed
make_room-requires-clause-placed g c κs lives =
    let v = g.R.Rows.view c.args.seat.now in
    let u = g.R.Rows.view c.purge_leaf.new.seat in
    let x = c.args.work.now in
    let t = cleared_spared c.in-Ok-Spared.field-0 _ c.in-Ok-Spared.field-0-is c.end_of-leaf.result 60 v u x.session c.purge_leaf.new.work.session x.log c.purge_leaf.new.work.log
    (g.D.Disk.story x.disk) (g.D.Disk.story c.purge_leaf.new.work.disk) (c.purge_leaf.new.work ≡ x) (c.purge_leaf.new.work.session.works ≡ false) c.in-Ok-Spared.ensures.clears in
    placed_same v u t.0.given (missed_core v u t.0.misses t.0.are_misses t.0.given t.0.seen) c.args.placed c.requires.placed

pub returns-in-Ok-Spared-clause-space : goal.returns-in-Ok-Spared-clause-space
returns-in-Ok-Spared-clause-space g c =
    let v = g.R.Rows.view c.args.seat.now in
    let u = g.R.Rows.view c.purge_leaf.new.seat in
    let x = c.args.work.now in
    let t = cleared_spared c.in-Ok-Spared.field-0 _ c.in-Ok-Spared.field-0-is c.end_of-leaf.result 60 v u x.session c.purge_leaf.new.work.session x.log c.purge_leaf.new.work.log
    (g.D.Disk.story x.disk) (g.D.Disk.story c.purge_leaf.new.work.disk) (c.purge_leaf.new.work ≡ x) (c.purge_leaf.new.work.session.works ≡ false) c.in-Ok-Spared.ensures.clears in
    let w = g.R.Rows.view c.make_room.new.seat in
    let y = c.make_room.new.work in
    space_behind c.every_purged.ensures c.every_room.ensures (g.R.Rows.shape c.args.rows.now) v x.session x.log c.requires.holds c.args.key c.args.path.now c.requires.leads c.end_of-leaf.result (path_end c.requires.leads c.end_of-leaf.result c.end_of-leaf.ensures)
    u _ t.0 c.args.placed w y.session y.log (g.D.Disk.story x.disk) (g.D.Disk.story y.disk) (y ≡ x) (y.session.works ≡ false) c.make_room.result
    (subst (λ k. Grew c.make_room.result c.args.key c.args.placed u w k.session y.session k.log y.log (g.D.Disk.story k.disk) (g.D.Disk.story y.disk) (y ≡ k) (y.session.works ≡ false)) t.1 c.make_room.ensures.grew)

pub returns-in-Ok-Spared-clause-session : goal.returns-in-Ok-Spared-clause-session
returns-in-Ok-Spared-clause-session g c = same_then c.args.work.now.session c.purge_leaf.new.work.session c.make_room.new.work.session c.in-Ok-Spared.ensures.session c.make_room.ensures.session

pub returns-in-Ok-Spared-clause-cause_disk_fault : goal.returns-in-Ok-Spared-clause-cause_disk_fault
returns-in-Ok-Spared-clause-cause_disk_fault g c =
    behind_told (g.D.Disk.faults c.args.work.now.disk) (g.D.Disk.faults c.purge_leaf.new.work.disk) (g.D.Disk.faults c.make_room.new.work.disk) _ _ c.in-Ok-Spared.ensures.cause_disk_fault (ok_calm _ _) c.make_room.ensures.cause_disk_fault
