use Rattle.std.proofs.Common.{◌≡◌, ◌<◌, ◌+◌, ◌∙◌, ℕ, suc, false, None, Result, refl, sym, ap, subst, arith}
use Rattle.row_changes.specs.session_state.engine_trait.Refusals.{clock_refusal}
use Rattle.row_changes.specs.declared.ways.Unmade.{Unmade}
use Rattle.row_walks.specs.Inside.Climbs.{Climbs, IsUpMade, answer_to}
use Rattle.row_walks.specs.declared.steps.At.TheVariants as at
use Rattle.row_walks.specs.declared.steps.Tidied.{Tidied}
use Rattle.row_walks.proofs.StepLemmas.{answered_told, answered_works, climbs_by, drop_made, drop_refused, refused_told}
use Rattle.row_walks.proofs.steps.drop_at.Goals as goal

pub returns-in-Ok-clause-climbs : goal.returns-in-Ok-clause-climbs
returns-in-Ok-clause-climbs g c key from is =
    subst (λ (r : Result Tidied Unmade). Climbs r key from (g.R.Rows.view c.args.seat.now) (g.R.Rows.view c.drop_child.new.seat) c.args.work.now.session c.drop_child.new.work.session c.args.work.now.log c.drop_child.new.work.log (g.D.Disk.story c.args.work.now.disk) (g.D.Disk.story c.drop_child.new.work.disk) (c.drop_child.new.work ≡ c.args.work.now)) (sym c.changed.ensures)
    (climbs_by key from at.Over (g.R.Rows.view c.args.seat.now) (g.R.Rows.view c.drop_child.new.seat) c.args.work.now.session c.drop_child.new.work.session c.args.work.now.log c.drop_child.new.work.log (g.D.Disk.story c.args.work.now.disk) (g.D.Disk.story c.drop_child.new.work.disk) (c.drop_child.new.work ≡ c.args.work.now) (drop_made (g.R.Rows.shape c.args.rows.now) (g.R.Rows.view c.args.seat.now) c.args.work.now.session c.args.work.now.log c.requires.holds key from (g.R.Rows.view c.drop_child.new.seat) c.drop_child.new.work.session c.drop_child.new.work.log (g.D.Disk.story c.args.work.now.disk) (g.D.Disk.story c.drop_child.new.work.disk) c.args.frame c.args.page is c.in-Ok.ensures.drops.1) (clock_refusal c.drop_child.new.work.session.clock.clock None) refl)

pub returns-in-Ok-clause-works : goal.returns-in-Ok-clause-works
returns-in-Ok-clause-works g c = c.in-Ok.ensures.works ∙ sym (answered_works c.drop_child.new.work.session.clock.clock at.Over c.changed.result c.changed.ensures)

pub returns-in-Ok-clause-cause_disk_fault : goal.returns-in-Ok-clause-cause_disk_fault
returns-in-Ok-clause-cause_disk_fault g c =
    answered_told (g.D.Disk.faults c.args.work.now.disk) (g.D.Disk.faults c.drop_child.new.work.disk) c.drop_child.new.work.session.clock.clock at.Over _ c.changed.result c.changed.ensures c.in-Ok.ensures.cause_disk_fault

pub returns-in-Err-clause-climbs : goal.returns-in-Err-clause-climbs
returns-in-Err-clause-climbs g c key from is =
    drop_refused key from c.args.frame c.args.page (g.R.Rows.view c.args.seat.now) (g.R.Rows.view c.drop_child.new.seat) c.args.work.now.session c.drop_child.new.work.session c.args.work.now.log c.drop_child.new.work.log (g.D.Disk.story c.args.work.now.disk) (g.D.Disk.story c.drop_child.new.work.disk) (c.drop_child.new.work ≡ c.args.work.now) (c.drop_child.new.work.session.works ≡ false) c.in-Err.why c.in-Err.ensures.drops

pub returns-in-Err-clause-cause_disk_fault : goal.returns-in-Err-clause-cause_disk_fault
returns-in-Err-clause-cause_disk_fault g c = refused_told (g.D.Disk.faults c.args.work.now.disk) (g.D.Disk.faults c.drop_child.new.work.disk) c.in-Err.why c.in-Err.ensures.cause_disk_fault
