use Rattle.std.proofs.Common.{◌∙◌, refl, sym, subst}
use Rattle.row_changes.proofs.PutLemmas.{holds_as}
use Rattle.row_growth.proofs.RoomLemmas.{IsRight, grew_from, holds_there, may_on, moment_is, placed_on, refused_grew, right_there, seen_there, some_there}
use Rattle.row_growth.proofs.room.make_room.Goals as goal

pub next_room-requires-clause-some : goal.next_room-requires-clause-some
next_room-requires-clause-some g c =
    some_there c.every_room.ensures (g.R.Rows.shape c.args.rows.now) (g.R.Rows.view c.args.seat.now) (g.R.Rows.view c.full_run.new.seat) c.args.work.now.session c.args.work.now.log c.requires.holds c.args.key c.args.path.now c.requires.leads
    c.in-Ok.run' c.in-Ok.ensures.run c.in-Ok.ensures.held

pub change_into-requires-clause-holds : goal.change_into-requires-clause-holds
change_into-requires-clause-holds g c κs lives =
    let z = g.R.Rows.shape c.args.rows.now in
    let u = g.R.Rows.view c.full_run.new.seat in
    let x = c.args.work.now.session in
    let log = c.args.work.now.log in
    holds_as z (g.R.Rows.shape c.full_run.new.rows) u x x log log c.in-Ok.ensures.fits.1 refl refl
    (holds_there c.every_room.ensures z (g.R.Rows.view c.args.seat.now) u x log c.requires.holds c.args.key c.args.path.now c.requires.leads c.in-Ok.run' c.in-Ok.ensures.run c.in-Ok.ensures.held)

pub change_into-requires-clause-may : goal.change_into-requires-clause-may
change_into-requires-clause-may g c κs lives =
    let z = g.R.Rows.shape c.args.rows.now in
    let v = g.R.Rows.view c.args.seat.now in
    let u = g.R.Rows.view c.full_run.new.seat in
    let x = c.args.work.now.session in
    let log = c.args.work.now.log in
    may_on v u x log c.args.key c.in-Ok.ensures.run.ran.given
    (moment_is c.every_room.ensures z v u x log c.requires.holds c.args.key c.args.path.now c.requires.leads c.in-Ok.run' c.in-Ok.ensures.run c.in-Ok.ensures.held) c.requires.may

pub change_into-requires-clause-placed : goal.change_into-requires-clause-placed
change_into-requires-clause-placed g c κs lives =
    let z = g.R.Rows.shape c.args.rows.now in
    let v = g.R.Rows.view c.args.seat.now in
    let u = g.R.Rows.view c.full_run.new.seat in
    placed_on v u c.args.placed (moment_is c.every_room.ensures z v u c.args.work.now.session c.args.work.now.log c.requires.holds c.args.key c.args.path.now c.requires.leads c.in-Ok.run' c.in-Ok.ensures.run c.in-Ok.ensures.held) c.requires.placed

pub change_into-requires-clause-takes : goal.change_into-requires-clause-takes
change_into-requires-clause-takes g c κs lives =
    let u = g.R.Rows.view c.full_run.new.seat in
    let x = c.args.work.now.session in
    subst (IsRight u x c.args.key) (sym c.next_room.ensures ∙ c.in-Ok-next_room.is)
    (right_there c.every_room.ensures (g.R.Rows.shape c.args.rows.now) (g.R.Rows.view c.args.seat.now) u x c.args.work.now.log c.requires.holds c.args.key c.args.path.now c.requires.leads c.in-Ok.run' c.in-Ok.ensures.run c.in-Ok.ensures.held)

pub returns-in-Ok-next_room-clause-grew : goal.returns-in-Ok-next_room-clause-grew
returns-in-Ok-next_room-clause-grew g c =
    let z = g.R.Rows.shape c.args.rows.now in
    let v = g.R.Rows.view c.args.seat.now in
    let u = g.R.Rows.view c.full_run.new.seat in
    let x = c.args.work.now.session in
    let log = c.args.work.now.log in
    grew_from c.args.key v u (g.R.Rows.view c.change_into.new.seat) x c.change_into.new.work.session log c.change_into.new.work.log (g.D.Disk.story c.args.work.now.disk) (g.D.Disk.story c.change_into.new.work.disk)
    c.in-Ok.ensures.run.ran.given
    (seen_there c.every_room.ensures z v u x log c.requires.holds c.args.key c.args.path.now c.requires.leads c.in-Ok.run' c.in-Ok.ensures.run c.in-Ok.ensures.held)
    c.args.placed _ _ c.change_into.result c.change_into.ensures.grew

pub returns-in-Err-next_room-clause-holds : goal.returns-in-Err-next_room-clause-holds
returns-in-Err-next_room-clause-holds g c works =
    let z = g.R.Rows.shape c.args.rows.now in
    let u = g.R.Rows.view c.full_run.new.seat in
    let x = c.args.work.now.session in
    let log = c.args.work.now.log in
    holds_as z (g.R.Rows.shape c.full_run.new.rows) u x x log log c.in-Ok.ensures.fits.1 refl refl
    (holds_there c.every_room.ensures z (g.R.Rows.view c.args.seat.now) u x log c.requires.holds c.args.key c.args.path.now c.requires.leads c.in-Ok.run' c.in-Ok.ensures.run c.in-Ok.ensures.held)

pub returns-in-Err-next_room-clause-grew : goal.returns-in-Err-next_room-clause-grew
returns-in-Err-next_room-clause-grew g c =
    let z = g.R.Rows.shape c.args.rows.now in
    let v = g.R.Rows.view c.args.seat.now in
    let u = g.R.Rows.view c.full_run.new.seat in
    let x = c.args.work.now.session in
    let log = c.args.work.now.log in
    refused_grew c.args.key c.args.placed v u x log (g.D.Disk.story c.args.work.now.disk) _ _ c.in-Ok.ensures.run.ran.given
    (seen_there c.every_room.ensures z v u x log c.requires.holds c.args.key c.args.path.now c.requires.leads c.in-Ok.run' c.in-Ok.ensures.run c.in-Ok.ensures.held)
    refl c.in-Err-next_room.why
    (subst (IsRight u x c.args.key) (sym c.next_room.ensures ∙ c.in-Err-next_room.is)
    (right_there c.every_room.ensures z v u x log c.requires.holds c.args.key c.args.path.now c.requires.leads c.in-Ok.run' c.in-Ok.ensures.run c.in-Ok.ensures.held))
