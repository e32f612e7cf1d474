use Rattle.std.proofs.Common.{◌≡◌, ◌-◌, ◌∙◌, suc, None, Ok, Err, Result, refl, sym, subst, arith}
use Rattle.row_changes.specs.session_state.engine_trait.Refusals.{clock_refusal}
use Rattle.row_changes.specs.session_state.row_words.Openings.{opening}
use Rattle.row_changes.specs.session_state.rows_trait.Views.{state}
use Rattle.row_changes.proofs.DelLemmas.{same_then}
use Rattle.row_changes.proofs.StepLemmas.{ok_calm}
use Rattle.row_changes.specs.declared.ways.Unmade.{Unmade}
use Rattle.row_tidying.specs.Changes.{MayTidy}
use Rattle.row_walks.specs.Inside.Climbs.{Climbs}
use Rattle.row_walks.specs.Inside.Ways.{IsWayIn}
use Rattle.row_walks.specs.Steps.{TidySteps}
use Rattle.row_walks.specs.declared.leaves.Leaf.TheVariants as leaf
use Rattle.row_walks.specs.declared.steps.At.TheVariants as at
use Rattle.row_walks.specs.declared.steps.Tidied.{Tidied}
use Rattle.row_walks.proofs.LookLemmas.{way_on}
use Rattle.row_walks.proofs.StepLemmas.{answer_wants_none, answered_calm, answered_hot, answered_works, behind_told, calm_told, climbs_hot, leaf_as, leaf_refused, leaf_thick, leaf_told, may_tidy, passed_up, quiet_core, steps_up, tidied_by}
use Rattle.row_walks.proofs.steps.begin.Goals as goal

pub tidy_leaf-requires-clause-may : goal.tidy_leaf-requires-clause-may
tidy_leaf-requires-clause-may g c κs lives = may_tidy c.args.work.now.session c.args.work.now.log at.Before c.requires.may

pub returns-in-Err-clause-tidies : goal.returns-in-Err-clause-tidies
returns-in-Err-clause-tidies g c =
    leaf_refused c.args.key (g.R.Rows.view c.args.seat.now) (g.R.Rows.view c.tidy_leaf.new.seat) c.args.work.now.session c.tidy_leaf.new.work.session c.args.work.now.log c.tidy_leaf.new.work.log (g.D.Disk.story c.args.work.now.disk) (g.D.Disk.story c.tidy_leaf.new.work.disk) (c.tidy_leaf.new.work ≡ c.args.work.now) c.in-Err.why c.in-Err.ensures.leaf

pub returns-in-Ok-Thick-clause-tidies : goal.returns-in-Ok-Thick-clause-tidies
returns-in-Ok-Thick-clause-tidies g c =
    leaf_thick c.args.key (g.R.Rows.view c.args.seat.now) (g.R.Rows.view c.tidy_leaf.new.seat) c.args.work.now.session c.tidy_leaf.new.work.session c.args.work.now.log c.tidy_leaf.new.work.log (g.D.Disk.story c.args.work.now.disk) (g.D.Disk.story c.tidy_leaf.new.work.disk) (c.tidy_leaf.new.work ≡ c.args.work.now)
    (leaf_as c.in-Ok-Thick.field-0 leaf.Thick c.in-Ok-Thick.field-0-is c.args.key (g.R.Rows.view c.args.seat.now) (g.R.Rows.view c.tidy_leaf.new.seat) c.args.work.now.session c.tidy_leaf.new.work.session c.args.work.now.log c.tidy_leaf.new.work.log (g.D.Disk.story c.args.work.now.disk) (g.D.Disk.story c.tidy_leaf.new.work.disk) (c.tidy_leaf.new.work ≡ c.args.work.now) c.in-Ok-Thick.ensures.leaf)

pub returns-in-Ok-Purged-clause-tidies : goal.returns-in-Ok-Purged-clause-tidies
returns-in-Ok-Purged-clause-tidies g c =
    subst (λ (r : Result Tidied Unmade). TidySteps r c.args.key at.Before (g.R.Rows.view c.args.seat.now) (g.R.Rows.view c.tidy_leaf.new.seat) c.args.work.now.session c.tidy_leaf.new.work.session c.args.work.now.log c.tidy_leaf.new.work.log (g.D.Disk.story c.args.work.now.disk) (g.D.Disk.story c.tidy_leaf.new.work.disk) (c.tidy_leaf.new.work ≡ c.args.work.now)) (sym c.changed.ensures)
    (tidied_by c.args.key at.Before (at.From 0) (g.R.Rows.view c.args.seat.now) (g.R.Rows.view c.tidy_leaf.new.seat) c.args.work.now.session c.tidy_leaf.new.work.session c.args.work.now.log c.tidy_leaf.new.work.log (g.D.Disk.story c.args.work.now.disk) (g.D.Disk.story c.tidy_leaf.new.work.disk) (c.tidy_leaf.new.work ≡ c.args.work.now) c.requires.holds.numbers.hand c.requires.may (omega arith)
    (leaf_as c.in-Ok-Purged.field-0 leaf.Purged c.in-Ok-Purged.field-0-is c.args.key (g.R.Rows.view c.args.seat.now) (g.R.Rows.view c.tidy_leaf.new.seat) c.args.work.now.session c.tidy_leaf.new.work.session c.args.work.now.log c.tidy_leaf.new.work.log (g.D.Disk.story c.args.work.now.disk) (g.D.Disk.story c.tidy_leaf.new.work.disk) (c.tidy_leaf.new.work ≡ c.args.work.now) c.in-Ok-Purged.ensures.leaf) (clock_refusal c.tidy_leaf.new.work.session.clock.clock None) refl)

pub returns-in-Ok-Purged-clause-works : goal.returns-in-Ok-Purged-clause-works
returns-in-Ok-Purged-clause-works g c = c.in-Ok-Purged.ensures.works ∙ sym (answered_works c.tidy_leaf.new.work.session.clock.clock (at.From 0) c.changed.result c.changed.ensures)

pub go_up-requires-clause-may : goal.go_up-requires-clause-may
go_up-requires-clause-may g c κs lives =
    let t = (leaf_as c.in-Ok-Thin.field-0 leaf.Thin c.in-Ok-Thin.field-0-is c.args.key (g.R.Rows.view c.args.seat.now) (g.R.Rows.view c.tidy_leaf.new.seat) c.args.work.now.session c.tidy_leaf.new.work.session c.args.work.now.log c.tidy_leaf.new.work.log (g.D.Disk.story c.args.work.now.disk) (g.D.Disk.story c.tidy_leaf.new.work.disk) (c.tidy_leaf.new.work ≡ c.args.work.now) c.in-Ok-Thin.ensures.leaf) in
    subst (λ k. MayTidy k.session k.log) (sym t.1) (may_tidy c.args.work.now.session c.args.work.now.log at.Before c.requires.may)

pub go_up-requires-clause-way : goal.go_up-requires-clause-way
go_up-requires-clause-way g c κs lives =
    let t = (leaf_as c.in-Ok-Thin.field-0 leaf.Thin c.in-Ok-Thin.field-0-is c.args.key (g.R.Rows.view c.args.seat.now) (g.R.Rows.view c.tidy_leaf.new.seat) c.args.work.now.session c.tidy_leaf.new.work.session c.args.work.now.log c.tidy_leaf.new.work.log (g.D.Disk.story c.args.work.now.disk) (g.D.Disk.story c.tidy_leaf.new.work.disk) (c.tidy_leaf.new.work ≡ c.args.work.now) c.in-Ok-Thin.ensures.leaf) in
    way_on (g.R.Rows.view c.args.seat.now) (g.R.Rows.view c.tidy_leaf.new.seat) t.0.quiet.given (quiet_core (g.R.Rows.view c.args.seat.now) (g.R.Rows.view c.tidy_leaf.new.seat) t.0.quiet) c.args.key c.args.path.now c.requires.way

pub go_up-requires-clause-from : goal.go_up-requires-clause-from
go_up-requires-clause-from g c κs lives = c.requires.passed.within

pub returns-in-Ok-Thin-clause-tidies : goal.returns-in-Ok-Thin-clause-tidies
returns-in-Ok-Thin-clause-tidies g c =
    let t = (leaf_as c.in-Ok-Thin.field-0 leaf.Thin c.in-Ok-Thin.field-0-is c.args.key (g.R.Rows.view c.args.seat.now) (g.R.Rows.view c.tidy_leaf.new.seat) c.args.work.now.session c.tidy_leaf.new.work.session c.args.work.now.log c.tidy_leaf.new.work.log (g.D.Disk.story c.args.work.now.disk) (g.D.Disk.story c.tidy_leaf.new.work.disk) (c.tidy_leaf.new.work ≡ c.args.work.now) c.in-Ok-Thin.ensures.leaf) in
    steps_up c.args.key at.Before c.args.level (g.R.Rows.view c.args.seat.now) (g.R.Rows.view c.tidy_leaf.new.seat) (g.R.Rows.view c.go_up.new.seat) c.args.work.now.session c.go_up.new.work.session c.args.work.now.log c.go_up.new.work.log (g.D.Disk.story c.args.work.now.disk) (g.D.Disk.story c.go_up.new.work.disk) t.0.quiet c.requires.holds.numbers.hand c.requires.may c.requires.passed
    (t.0.next ∙ passed_up c.args.work.now.session.own (opening (g.R.Rows.view c.args.seat.now).given) (state (g.R.Rows.view c.args.seat.now)).core c.args.key at.Before c.args.level refl c.requires.passed) (omega arith) (c.go_up.new.work ≡ c.args.work.now) c.go_up.result
    (subst (λ k. Climbs c.go_up.result c.args.key c.args.level (g.R.Rows.view c.tidy_leaf.new.seat) (g.R.Rows.view c.go_up.new.seat) k.session c.go_up.new.work.session k.log c.go_up.new.work.log (g.D.Disk.story k.disk) (g.D.Disk.story c.go_up.new.work.disk) (c.go_up.new.work ≡ k)) t.1 c.go_up.ensures.climbs)

pub returns-in-Ok-Thin-clause-session : goal.returns-in-Ok-Thin-clause-session
returns-in-Ok-Thin-clause-session g c = same_then c.args.work.now.session c.tidy_leaf.new.work.session c.go_up.new.work.session c.in-Ok-Thin.ensures.session c.go_up.ensures.session

pub returns-in-Ok-Thin-clause-fits : goal.returns-in-Ok-Thin-clause-fits
returns-in-Ok-Thin-clause-fits g c = (c.go_up.ensures.fits.0, c.go_up.ensures.fits.1 ∙ c.in-Ok-Thin.ensures.fits.1)

pub returns-in-Ok-Purged-clause-cause_cold : goal.returns-in-Ok-Purged-clause-cause_cold
returns-in-Ok-Purged-clause-cause_cold g c cut = answered_hot c.tidy_leaf.new.work.session.clock.clock (at.From 0) c.changed.result c.changed.ensures cut

pub returns-in-Ok-Thin-clause-cause_cold : goal.returns-in-Ok-Thin-clause-cause_cold
returns-in-Ok-Thin-clause-cause_cold g c cut =
    climbs_hot c.args.key c.args.level (g.R.Rows.view c.tidy_leaf.new.seat) (g.R.Rows.view c.go_up.new.seat) c.tidy_leaf.new.work.session c.go_up.new.work.session c.tidy_leaf.new.work.log c.go_up.new.work.log (g.D.Disk.story c.tidy_leaf.new.work.disk) (g.D.Disk.story c.go_up.new.work.disk) (c.go_up.new.work ≡ c.tidy_leaf.new.work) c.go_up.result c.go_up.ensures.climbs cut

pub returns-in-Err-clause-cause_disk_fault : goal.returns-in-Err-clause-cause_disk_fault
returns-in-Err-clause-cause_disk_fault g c = leaf_told (g.D.Disk.faults c.args.work.now.disk) (g.D.Disk.faults c.tidy_leaf.new.work.disk) c.in-Err.why c.in-Err.ensures.cause_disk_fault

pub returns-in-Ok-Thick-clause-cause_disk_fault : goal.returns-in-Ok-Thick-clause-cause_disk_fault
returns-in-Ok-Thick-clause-cause_disk_fault g c = calm_told (g.D.Disk.faults c.args.work.now.disk) (g.D.Disk.faults c.tidy_leaf.new.work.disk) _ _ c.in-Ok-Thick.ensures.cause_disk_fault (ok_calm _ _) (ok_calm _ _)

pub returns-in-Ok-Purged-clause-cause_disk_fault : goal.returns-in-Ok-Purged-clause-cause_disk_fault
returns-in-Ok-Purged-clause-cause_disk_fault g c =
    calm_told (g.D.Disk.faults c.args.work.now.disk) (g.D.Disk.faults c.tidy_leaf.new.work.disk) _ _ c.in-Ok-Purged.ensures.cause_disk_fault (ok_calm _ _) (answered_calm c.tidy_leaf.new.work.session.clock.clock (at.From 0) c.changed.result c.changed.ensures)

pub returns-in-Ok-Thin-clause-cause_disk_fault : goal.returns-in-Ok-Thin-clause-cause_disk_fault
returns-in-Ok-Thin-clause-cause_disk_fault g c = behind_told (g.D.Disk.faults c.args.work.now.disk) (g.D.Disk.faults c.tidy_leaf.new.work.disk) (g.D.Disk.faults c.go_up.new.work.disk) _ _ c.in-Ok-Thin.ensures.cause_disk_fault (ok_calm _ _) c.go_up.ensures.cause_disk_fault

pub returns-in-Err-clause-higher : goal.returns-in-Err-clause-higher
returns-in-Err-clause-higher g c = λ page l is. absurd (cc)

pub returns-in-Ok-Thick-clause-higher : goal.returns-in-Ok-Thick-clause-higher
returns-in-Ok-Thick-clause-higher g c = λ page l is. absurd (cc)

pub returns-in-Ok-Purged-clause-higher : goal.returns-in-Ok-Purged-clause-higher
returns-in-Ok-Purged-clause-higher g c = λ page l is. absurd (answer_wants_none c.tidy_leaf.new.work.session.clock.clock (at.From 0) c.changed.result c.changed.ensures page l is)

pub returns-in-Ok-Thin-clause-higher : goal.returns-in-Ok-Thin-clause-higher
returns-in-Ok-Thin-clause-higher g c = c.go_up.ensures.higher
