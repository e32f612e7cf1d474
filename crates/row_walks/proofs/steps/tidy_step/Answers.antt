use Rattle.std.proofs.Common.{◌≡◌, ◌-◌, ◌∙◌, suc, None, Ok, Err, refl, sym, subst, arith}
use Rattle.row_changes.specs.session_state.row_words.Openings.{opening}
use Rattle.row_changes.specs.session_state.rows_trait.Views.{state}
use Rattle.row_tidying.specs.Changes.{MayTidy}
use Rattle.row_walks.specs.Stages.{IsPassed, MayShrink}
use Rattle.row_walks.specs.declared.steps.At.{At}
use Rattle.row_walks.specs.declared.steps.At.TheVariants as at
use Rattle.row_walks.proofs.SeeLemmas.{way_in, way_warm}
use Rattle.row_walks.proofs.StepLemmas.{clean_over, climbs_hot, may_carried, may_tidy, passed_carried, passed_up, quiet_none, steps_as, steps_from, steps_up}
use Rattle.row_walks.proofs.steps.tidy_step.Goals as goal

pub returns-in-Err-clause-tidies : goal.returns-in-Err-clause-tidies
returns-in-Err-clause-tidies g c = (c.in-Err.ensures.cold, refl)

pub returns-in-Over-clause-tidies : goal.returns-in-Over-clause-tidies
returns-in-Over-clause-tidies g c =
    (clean_over c.args.key c.args.at (g.R.Rows.view c.args.seat.now) (g.R.Rows.view c.reach_leaf.new.seat) c.args.work.now.session.own c.in-Over.is (quiet_none (g.R.Rows.view c.args.seat.now) (g.R.Rows.view c.reach_leaf.new.seat) c.in_default.ensures.reaches.given c.in_default.ensures.reaches.seen), refl)

pub begin-requires-clause-may : goal.begin-requires-clause-may
begin-requires-clause-may g c κs lives =
    may_carried (g.R.Rows.view c.args.seat.now) (g.R.Rows.view c.reach_leaf.new.seat) c.in_default.ensures.reaches.given c.args.work.now.session c.args.work.now.log at.Before (subst (λ (a : At). MayShrink c.args.work.now.session c.args.work.now.log 7 a) c.in-Before.is c.requires.may)

pub begin-requires-clause-way : goal.begin-requires-clause-way
begin-requires-clause-way g c κs lives =
    (way_in c.every_room.ensures (g.R.Rows.shape c.reach_leaf.new.rows) (g.R.Rows.view c.args.seat.now) (g.R.Rows.view c.reach_leaf.new.seat) c.args.work.now.session c.args.work.now.log c.in_default.ensures.holds c.args.key c.reach_leaf.new.path c.in_default.ensures.reaches)

pub begin-requires-clause-passed : goal.begin-requires-clause-passed
begin-requires-clause-passed g c κs lives =
    passed_carried (g.R.Rows.view c.args.seat.now) (g.R.Rows.view c.reach_leaf.new.seat) c.in_default.ensures.reaches.given c.in_default.ensures.reaches.seen c.args.work.now.session.own c.args.key at.Before c.args.level (subst (λ (a : At). IsPassed c.args.work.now.session.own (opening (g.R.Rows.view c.args.seat.now).given) (state (g.R.Rows.view c.args.seat.now)).core c.args.key a c.args.level) c.in-Before.is c.requires.passed)

pub returns-in-Before-clause-tidies : goal.returns-in-Before-clause-tidies
returns-in-Before-clause-tidies g c =
    steps_as c.args.at at.Before c.in-Before.is (g.R.Rows.view c.args.seat.now) (g.R.Rows.view c.begin.new.seat) c.begin.result c.args.key c.args.work.now.session c.begin.new.work.session c.args.work.now.log c.begin.new.work.log (g.D.Disk.story c.args.work.now.disk) (g.D.Disk.story c.begin.new.work.disk) (c.begin.new.work ≡ c.args.work.now)
    (steps_from (g.R.Rows.view c.args.seat.now) (g.R.Rows.view c.reach_leaf.new.seat) c.in_default.ensures.reaches.given c.in_default.ensures.reaches.seen c.args.key at.Before (g.R.Rows.view c.begin.new.seat) c.args.work.now.session c.begin.new.work.session c.args.work.now.log c.begin.new.work.log (g.D.Disk.story c.args.work.now.disk) (g.D.Disk.story c.begin.new.work.disk) (c.begin.new.work ≡ c.args.work.now) c.begin.result c.begin.ensures.cause_cold c.begin.ensures.tidies)

pub go_up-requires-clause-may : goal.go_up-requires-clause-may
go_up-requires-clause-may g c κs lives = may_tidy c.args.work.now.session c.args.work.now.log c.args.at c.requires.may

pub go_up-requires-clause-way : goal.go_up-requires-clause-way
go_up-requires-clause-way g c κs lives =
    (way_in c.every_room.ensures (g.R.Rows.shape c.reach_leaf.new.rows) (g.R.Rows.view c.args.seat.now) (g.R.Rows.view c.reach_leaf.new.seat) c.args.work.now.session c.args.work.now.log c.in_default.ensures.holds c.args.key c.reach_leaf.new.path c.in_default.ensures.reaches)

pub go_up-requires-clause-from : goal.go_up-requires-clause-from
go_up-requires-clause-from g c κs lives = c.requires.passed.within

pub returns-in-From-clause-tidies : goal.returns-in-From-clause-tidies
returns-in-From-clause-tidies g c =
    let passed = subst (λ (a : At). IsPassed c.args.work.now.session.own (opening (g.R.Rows.view c.args.seat.now).given) (state (g.R.Rows.view c.args.seat.now)).core c.args.key a c.args.level) c.in-From.is c.requires.passed in
    steps_as c.args.at (at.From c.in-From.level) c.in-From.is (g.R.Rows.view c.args.seat.now) (g.R.Rows.view c.go_up.new.seat) c.go_up.result c.args.key c.args.work.now.session c.go_up.new.work.session c.args.work.now.log c.go_up.new.work.log (g.D.Disk.story c.args.work.now.disk) (g.D.Disk.story c.go_up.new.work.disk) (c.go_up.new.work ≡ c.args.work.now)
    (steps_up c.args.key (at.From c.in-From.level) c.args.level (g.R.Rows.view c.args.seat.now) (g.R.Rows.view c.reach_leaf.new.seat) (g.R.Rows.view c.go_up.new.seat) c.args.work.now.session c.go_up.new.work.session c.args.work.now.log c.go_up.new.work.log (g.D.Disk.story c.args.work.now.disk) (g.D.Disk.story c.go_up.new.work.disk) (quiet_none (g.R.Rows.view c.args.seat.now) (g.R.Rows.view c.reach_leaf.new.seat) c.in_default.ensures.reaches.given c.in_default.ensures.reaches.seen) c.requires.holds.numbers.hand (subst (λ (a : At). MayShrink c.args.work.now.session c.args.work.now.log 7 a) c.in-From.is c.requires.may) passed
    (passed_up c.args.work.now.session.own (opening (g.R.Rows.view c.args.seat.now).given) (state (g.R.Rows.view c.args.seat.now)).core c.args.key (at.From c.in-From.level) c.args.level refl passed) (let low = passed.from in omega arith) (c.go_up.new.work ≡ c.args.work.now) c.go_up.result c.go_up.ensures.climbs)

pub returns-in-Before-clause-fits : goal.returns-in-Before-clause-fits
returns-in-Before-clause-fits g c = (c.begin.ensures.fits.0, c.begin.ensures.fits.1 ∙ c.in_default.ensures.fits.1)

pub returns-in-From-clause-fits : goal.returns-in-From-clause-fits
returns-in-From-clause-fits g c = (c.go_up.ensures.fits.0, c.go_up.ensures.fits.1 ∙ c.in_default.ensures.fits.1)

pub returns-in-Err-clause-cause_cold : goal.returns-in-Err-clause-cause_cold
returns-in-Err-clause-cause_cold g c warm cut = c.in-Err.ensures.cause_cold warm refl

pub returns-in-Before-clause-cause_cold : goal.returns-in-Before-clause-cause_cold
returns-in-Before-clause-cause_cold g c warm cut = c.begin.ensures.cause_cold cut

pub returns-in-From-clause-cause_cold : goal.returns-in-From-clause-cause_cold
returns-in-From-clause-cause_cold g c warm cut =
    climbs_hot c.args.key c.args.level (g.R.Rows.view c.reach_leaf.new.seat) (g.R.Rows.view c.go_up.new.seat) c.args.work.now.session c.go_up.new.work.session c.args.work.now.log c.go_up.new.work.log (g.D.Disk.story c.args.work.now.disk) (g.D.Disk.story c.go_up.new.work.disk) (c.go_up.new.work ≡ c.args.work.now) c.go_up.result c.go_up.ensures.climbs cut

pub returns-in-Err-clause-higher : goal.returns-in-Err-clause-higher
returns-in-Err-clause-higher g c = λ page l is. absurd (cc)

pub returns-in-Over-clause-higher : goal.returns-in-Over-clause-higher
returns-in-Over-clause-higher g c = λ page l is. absurd (cc)

pub returns-in-Before-clause-higher : goal.returns-in-Before-clause-higher
returns-in-Before-clause-higher g c = c.begin.ensures.higher

pub returns-in-From-clause-higher : goal.returns-in-From-clause-higher
returns-in-From-clause-higher g c = c.go_up.ensures.higher

pub returns-in-Err-clause-warm : goal.returns-in-Err-clause-warm
returns-in-Err-clause-warm g c uncut = absurd (uncut tt)

pub returns-in-Over-clause-warm : goal.returns-in-Over-clause-warm
returns-in-Over-clause-warm g c uncut =
    (way_warm c.every_warm.ensures (g.R.Rows.shape c.reach_leaf.new.rows) (g.R.Rows.view c.args.seat.now) (g.R.Rows.view c.reach_leaf.new.seat) c.args.work.now.session c.args.work.now.log c.in_default.ensures.holds c.args.key c.reach_leaf.new.path c.in_default.ensures.reaches)

pub returns-in-Before-clause-warm : goal.returns-in-Before-clause-warm
returns-in-Before-clause-warm g c uncut =
    (way_warm c.every_warm.ensures (g.R.Rows.shape c.reach_leaf.new.rows) (g.R.Rows.view c.args.seat.now) (g.R.Rows.view c.reach_leaf.new.seat) c.args.work.now.session c.args.work.now.log c.in_default.ensures.holds c.args.key c.reach_leaf.new.path c.in_default.ensures.reaches)

pub returns-in-From-clause-warm : goal.returns-in-From-clause-warm
returns-in-From-clause-warm g c uncut =
    (way_warm c.every_warm.ensures (g.R.Rows.shape c.reach_leaf.new.rows) (g.R.Rows.view c.args.seat.now) (g.R.Rows.view c.reach_leaf.new.seat) c.args.work.now.session c.args.work.now.log c.in_default.ensures.holds c.args.key c.reach_leaf.new.path c.in_default.ensures.reaches)
