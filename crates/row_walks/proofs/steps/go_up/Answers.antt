use Rattle.std.proofs.Common.{◌≡◌, ◌∙◌, Ok, refl, sym, subst}
use Rattle.row_walks.specs.Inside.Nexts.{IsNext}
use Rattle.row_walks.specs.declared.nexts.Next.TheVariants as next
use Rattle.row_walks.specs.declared.steps.Tidied.TheVariants as tidied
use Rattle.row_walks.proofs.LookLemmas.{can_drop_on, can_join_on, core_looked}
use Rattle.row_walks.proofs.StepLemmas.{climbs_from, climbs_higher, drop_on, join_on, next_as}
use Rattle.row_walks.proofs.steps.go_up.Goals as goal

pub returns-in-Nothing-clause-climbs : goal.returns-in-Nothing-clause-climbs
returns-in-Nothing-clause-climbs g c =
    (record { given = c.look_up.ensures.looked.given; seen = c.look_up.ensures.looked.seen }, next_as c.look_up.result next.Nothing c.in-Nothing.is c.args.work.now.session.own (g.R.Rows.view c.args.seat.now) c.args.key c.args.from c.look_up.ensures.next, refl)

pub returns-in-Needs-clause-climbs : goal.returns-in-Needs-clause-climbs
returns-in-Needs-clause-climbs g c =
    (record { given = c.look_up.ensures.looked.given; seen = c.look_up.ensures.looked.seen }, next_as c.look_up.result (next.Needs c.in-Needs.page c.in-Needs.level) c.in-Needs.is c.args.work.now.session.own (g.R.Rows.view c.args.seat.now) c.args.key c.args.from c.look_up.ensures.next, refl)

pub join_at-requires-clause-can : goal.join_at-requires-clause-can
join_at-requires-clause-can g c κs lives =
    can_join_on (g.R.Rows.view c.args.seat.now) (g.R.Rows.view c.look_up.new.seat) c.look_up.ensures.looked.given (core_looked (g.R.Rows.view c.args.seat.now) (g.R.Rows.view c.look_up.new.seat) c.look_up.ensures.looked) c.in-Joins.left c.in-Joins.right c.in-Joins.parent c.in-Joins.page (next_as c.look_up.result (next.Joins c.in-Joins.left c.in-Joins.right c.in-Joins.parent c.in-Joins.page c.in-Joins.level) c.in-Joins.is c.args.work.now.session.own (g.R.Rows.view c.args.seat.now) c.args.key c.args.from c.look_up.ensures.next).can

pub join_at-requires-clause-level : goal.join_at-requires-clause-level
join_at-requires-clause-level g c κs lives =
    (next_as c.look_up.result (next.Joins c.in-Joins.left c.in-Joins.right c.in-Joins.parent c.in-Joins.page c.in-Joins.level) c.in-Joins.is c.args.work.now.session.own (g.R.Rows.view c.args.seat.now) c.args.key c.args.from c.look_up.ensures.next).high

pub drop_at-requires-clause-can : goal.drop_at-requires-clause-can
drop_at-requires-clause-can g c κs lives =
    can_drop_on (g.R.Rows.view c.args.seat.now) (g.R.Rows.view c.look_up.new.seat) c.look_up.ensures.looked.given (core_looked (g.R.Rows.view c.args.seat.now) (g.R.Rows.view c.look_up.new.seat) c.look_up.ensures.looked) c.in-Drops.frame c.in-Drops.page (next_as c.look_up.result (next.Drops c.in-Drops.frame c.in-Drops.page) c.in-Drops.is c.args.work.now.session.own (g.R.Rows.view c.args.seat.now) c.args.key c.args.from c.look_up.ensures.next).can

pub returns-in-Joins-clause-climbs : goal.returns-in-Joins-clause-climbs
returns-in-Joins-clause-climbs g c =
    climbs_from (g.R.Rows.view c.args.seat.now) (g.R.Rows.view c.look_up.new.seat) c.look_up.ensures.looked.given c.look_up.ensures.looked.seen c.args.key c.args.from (g.R.Rows.view c.join_at.new.seat) c.args.work.now.session c.join_at.new.work.session c.args.work.now.log c.join_at.new.work.log (g.D.Disk.story c.args.work.now.disk) (g.D.Disk.story c.join_at.new.work.disk) (c.join_at.new.work ≡ c.args.work.now) c.join_at.result
    (c.join_at.ensures.climbs c.args.key c.args.from (join_on (g.R.Rows.view c.args.seat.now) (g.R.Rows.view c.look_up.new.seat) c.look_up.ensures.looked.given (core_looked (g.R.Rows.view c.args.seat.now) (g.R.Rows.view c.look_up.new.seat) c.look_up.ensures.looked) c.args.work.now.session.own c.args.key c.args.from c.in-Joins.left c.in-Joins.right c.in-Joins.parent c.in-Joins.page c.in-Joins.level (next_as c.look_up.result (next.Joins c.in-Joins.left c.in-Joins.right c.in-Joins.parent c.in-Joins.page c.in-Joins.level) c.in-Joins.is c.args.work.now.session.own (g.R.Rows.view c.args.seat.now) c.args.key c.args.from c.look_up.ensures.next)))

pub returns-in-Drops-clause-climbs : goal.returns-in-Drops-clause-climbs
returns-in-Drops-clause-climbs g c =
    climbs_from (g.R.Rows.view c.args.seat.now) (g.R.Rows.view c.look_up.new.seat) c.look_up.ensures.looked.given c.look_up.ensures.looked.seen c.args.key c.args.from (g.R.Rows.view c.drop_at.new.seat) c.args.work.now.session c.drop_at.new.work.session c.args.work.now.log c.drop_at.new.work.log (g.D.Disk.story c.args.work.now.disk) (g.D.Disk.story c.drop_at.new.work.disk) (c.drop_at.new.work ≡ c.args.work.now) c.drop_at.result
    (c.drop_at.ensures.climbs c.args.key c.args.from (drop_on (g.R.Rows.view c.args.seat.now) (g.R.Rows.view c.look_up.new.seat) c.look_up.ensures.looked.given (core_looked (g.R.Rows.view c.args.seat.now) (g.R.Rows.view c.look_up.new.seat) c.look_up.ensures.looked) c.args.work.now.session.own c.args.key c.args.from c.in-Drops.frame c.in-Drops.page (next_as c.look_up.result (next.Drops c.in-Drops.frame c.in-Drops.page) c.in-Drops.is c.args.work.now.session.own (g.R.Rows.view c.args.seat.now) c.args.key c.args.from c.look_up.ensures.next)))

pub returns-in-Joins-clause-fits : goal.returns-in-Joins-clause-fits
returns-in-Joins-clause-fits g c = (c.join_at.ensures.fits.0, c.join_at.ensures.fits.1 ∙ c.look_up.ensures.fits.1)

pub returns-in-Drops-clause-fits : goal.returns-in-Drops-clause-fits
returns-in-Drops-clause-fits g c = (c.drop_at.ensures.fits.0, c.drop_at.ensures.fits.1 ∙ c.look_up.ensures.fits.1)

pub returns-in-Nothing-clause-higher : goal.returns-in-Nothing-clause-higher
returns-in-Nothing-clause-higher g c = λ page l is. absurd (cc)

pub returns-in-Needs-clause-higher : goal.returns-in-Needs-clause-higher
returns-in-Needs-clause-higher g c =
    climbs_higher c.args.key c.args.from (g.R.Rows.view c.args.seat.now) (g.R.Rows.view c.look_up.new.seat) c.args.work.now.session c.args.work.now.session c.args.work.now.log c.args.work.now.log (g.D.Disk.story c.args.work.now.disk) (g.D.Disk.story c.args.work.now.disk) (c.args.work.now ≡ c.args.work.now) (Ok (tidied.Needs c.in-Needs.page c.in-Needs.level)) (returns-in-Needs-clause-climbs g c)

pub returns-in-Joins-clause-higher : goal.returns-in-Joins-clause-higher
returns-in-Joins-clause-higher g c =
    climbs_higher c.args.key c.args.from (g.R.Rows.view c.args.seat.now) (g.R.Rows.view c.join_at.new.seat) c.args.work.now.session c.join_at.new.work.session c.args.work.now.log c.join_at.new.work.log (g.D.Disk.story c.args.work.now.disk) (g.D.Disk.story c.join_at.new.work.disk) (c.join_at.new.work ≡ c.args.work.now) c.join_at.result (returns-in-Joins-clause-climbs g c)

pub returns-in-Drops-clause-higher : goal.returns-in-Drops-clause-higher
returns-in-Drops-clause-higher g c =
    climbs_higher c.args.key c.args.from (g.R.Rows.view c.args.seat.now) (g.R.Rows.view c.drop_at.new.seat) c.args.work.now.session c.drop_at.new.work.session c.args.work.now.log c.drop_at.new.work.log (g.D.Disk.story c.args.work.now.disk) (g.D.Disk.story c.drop_at.new.work.disk) (c.drop_at.new.work ≡ c.args.work.now) c.drop_at.result (returns-in-Drops-clause-climbs g c)
