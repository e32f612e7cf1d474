use Rattle.std.proofs.Common.{◌≡◌, ◌∙◌, Ok, Err, None, List, refl, subst}
use Rattle.row_changes.specs.session_state.row_words.declared.event.Event.{Event}
use Rattle.row_changes.specs.session_state.row_words.declared.given.Given.{Given}
use Rattle.row_changes.specs.session_state.row_words.Openings.{opening}
use Rattle.row_changes.specs.session_state.rows_trait.Views.{after_all}
use Rattle.row_changes.proofs.SpotLemmas.{dels_from, warm_there}
use Rattle.row_tidying.specs.tidy_rules.Tidying.{Stage, next_tidy}
use Rattle.row_walks.proofs.ValueLemmas.{done_told, unmade_told}
use Rattle.row_walks.proofs.at_once.del_at_once.Goals as goal

pub returns-in-Ok-del_at_spot-clause-dels : goal.returns-in-Ok-del_at_spot-clause-dels
returns-in-Ok-del_at_spot-clause-dels g c =
    let v = g.R.Rows.view c.args.seat.now in
    let a = g.R.Rows.view c.find_spot.new.seat in
    let b = g.R.Rows.view c.is_thick.new.seat in
    let own = c.args.work.now.session.own in
    let p = c.in-Ok.ensures.spot in
    let q = c.if-not-is_thick.ensures.spot in
    let next = c.if-not-is_thick.ensures.thick refl own in (
      subst (λ (es : List Event). next_tidy own (opening v.given) (after_all v.given es).core c.args.key Stage.Before ≡ None) p.seen
          (subst (λ (k : Given). next_tidy own (opening k) (after_all k a.seen).core c.args.key Stage.Before ≡ None) p.given next),
      dels_from v b (q.given ∙ p.given) (q.seen ∙ p.seen) (Ok c.in-Ok-del_at_spot.was) own (g.R.Rows.view c.del_at_spot.new.seat) c.args.key c.args.work.now.log c.del_at_spot.new.work.log (g.D.Disk.story c.args.work.now.disk) (g.D.Disk.story c.del_at_spot.new.work.disk)
          (c.del_at_spot.new.work ≡ c.args.work.now) (c.del_at_spot.new.work.disk ≡ c.args.work.now.disk) c.in-Ok-del_at_spot.ensures.dels,
    )

pub returns-in-Ok-del_at_spot-clause-cause_disk_fault : goal.returns-in-Ok-del_at_spot-clause-cause_disk_fault
returns-in-Ok-del_at_spot-clause-cause_disk_fault g c = done_told (g.D.Disk.faults c.args.work.now.disk) (g.D.Disk.faults c.del_at_spot.new.work.disk) c.in-Ok-del_at_spot.was c.in-Ok-del_at_spot.ensures.cause_disk_fault

pub returns-in-Err-del_at_spot-clause-dels : goal.returns-in-Err-del_at_spot-clause-dels
returns-in-Err-del_at_spot-clause-dels g c =
    let v = g.R.Rows.view c.args.seat.now in
    let b = g.R.Rows.view c.is_thick.new.seat in
    let p = c.in-Ok.ensures.spot in
    let q = c.if-not-is_thick.ensures.spot in
    dels_from v b (q.given ∙ p.given) (q.seen ∙ p.seen) (Err c.in-Err-del_at_spot.unmade) c.args.work.now.session.own (g.R.Rows.view c.del_at_spot.new.seat) c.args.key c.args.work.now.log c.del_at_spot.new.work.log (g.D.Disk.story c.args.work.now.disk) (g.D.Disk.story c.del_at_spot.new.work.disk)
    (c.del_at_spot.new.work ≡ c.args.work.now) (c.del_at_spot.new.work.disk ≡ c.args.work.now.disk) c.in-Err-del_at_spot.ensures.dels

pub returns-in-Err-del_at_spot-clause-cause_cold : goal.returns-in-Err-del_at_spot-clause-cause_cold
returns-in-Err-del_at_spot-clause-cause_cold g c warm =
    let p = c.in-Ok.ensures.spot in
    let q = c.if-not-is_thick.ensures.spot in
    c.in-Err-del_at_spot.ensures.cause_cold (warm_there (g.R.Rows.view c.args.seat.now) (g.R.Rows.view c.is_thick.new.seat) (q.given ∙ p.given) (q.seen ∙ p.seen) c.args.key warm)

pub returns-in-Err-del_at_spot-clause-cause_disk_fault : goal.returns-in-Err-del_at_spot-clause-cause_disk_fault
returns-in-Err-del_at_spot-clause-cause_disk_fault g c = unmade_told (g.D.Disk.faults c.args.work.now.disk) (g.D.Disk.faults c.del_at_spot.new.work.disk) c.in-Err-del_at_spot.unmade c.in-Err-del_at_spot.ensures.cause_disk_fault
