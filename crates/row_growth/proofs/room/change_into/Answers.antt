use Rattle.std.proofs.Common.{◌∙◌, refl, sym}
use Rattle.row_changes.proofs.StepLemmas.{cause_from, ok_calm}
use Rattle.row_growth.proofs.RoomLemmas.{can_grow, is_needed}
use Rattle.row_growth.proofs.room.change_into.Goals as goal

pub change_tree-requires-clause-can : goal.change_tree-requires-clause-can
change_tree-requires-clause-can g c κs lives =
    can_grow (g.R.Rows.view c.args.seat.now) c.args.work.now.session c.args.key c.args.placed c.args.next c.page_of-page.result c.in-Some.frame c.page_of-page.ensures c.requires.placed (sym c.frame_among.ensures ∙ c.in-Some.is) c.requires.takes

pub returns-in-None-clause-grew : goal.returns-in-None-clause-grew
returns-in-None-clause-grew g c =
    (is_needed (g.R.Rows.view c.args.seat.now) c.args.work.now.session c.args.key c.args.placed c.args.next c.page_of-page.result c.page_of-page.ensures (sym c.frame_among.ensures ∙ c.in-None.is) c.requires.takes, refl)

pub returns-in-Ok-clause-cause_disk_fault : goal.returns-in-Ok-clause-cause_disk_fault
returns-in-Ok-clause-cause_disk_fault g c =
    cause_from (g.D.Disk.faults c.args.work.now.disk) (g.D.Disk.faults c.args.work.now.disk) (g.D.Disk.faults c.change_tree.new.work.disk) _ _ refl c.in-Ok.ensures.cause_disk_fault (λ q. absurd (ok_calm _ _ q)) (λ p. absurd (ok_calm _ _ p))
