use Rattle.std.proofs.Common.{◌≡◌, ◌∙◌, [], Err, refl, ap, true, arith}
use Rattle.btree_descent.specs.rows_trait.Views.{Shape}
use Rattle.btree_descent.proofs.rows_trait.Runs.{ran_append}
use Rattle.checkpointer.specs.declared.saver.NotSaved.TheVariants as not_saved
use Rattle.lean_disk.proofs.FaultLemmas.{done_only}
use Rattle.lean_disk.proofs.MomentLemmas.{framed}
use Rattle.page_provider.proofs.Asks.{one_held}
use Rattle.page_provider.proofs.Glances.{opens}
use Rattle.page_provider.proofs.Parts.{cause_none, cause_to}
use Rattle.page_provider.proofs.Reading.{came_unlike}
use Rattle.row_saver.proofs.RunLemmas.{can_save, gave_up, has_saved, keeps_run, keeps_still, missed_behind, number, number_few, number_slots, saves_run, sized_on, stops_run}
use Rattle.row_saver.proofs.saving.save_in.Goals as goal

-- ## The page

pub node_in-node-requires-clause-alone : goal.node_in-node-requires-clause-alone
node_in-node-requires-clause-alone g c = c.requires.ready.1.seated.alone

pub node_in-node-requires-clause-held : goal.node_in-node-requires-clause-held
node_in-node-requires-clause-held g c = c.requires.ready.1.seated.held

pub node_in-node-requires-clause-sized : goal.node_in-node-requires-clause-sized
node_in-node-requires-clause-sized g c = c.requires.ready.1.seated.sized

pub node_in-node-requires-clause-sound : goal.node_in-node-requires-clause-sound
node_in-node-requires-clause-sound g c = c.requires.ready.1.seated.sound

pub node_in-node-requires-clause-stands : goal.node_in-node-requires-clause-stands
node_in-node-requires-clause-stands g c = (c.requires.may.0, c.requires.may.1.stands)

-- ## The row

pub hold_in-requires-clause-alone : goal.hold_in-requires-clause-alone
hold_in-requires-clause-alone g c = ap (λ (s : Shape). s.alone) c.node_in-node.ensures.fits.1 ∙ c.requires.ready.1.seated.alone

pub hold_in-requires-clause-held : goal.hold_in-requires-clause-held
hold_in-requires-clause-held g c = c.node_in-node.ensures.looks.held

pub hold_in-requires-clause-sized : goal.hold_in-requires-clause-sized
hold_in-requires-clause-sized g c = sized_on c.node_in-node.ensures.fits.1 c.node_in-node.ensures.looks.ran.given c.requires.ready.1.seated.sized

pub write-requires-clause-page : goal.write-requires-clause-page
write-requires-clause-page g c = number_slots c.requires.ready.1 c.requires.may.1 (c.node_in-node.ensures.written c.requires.may.0 c.requires.may.1.stands)

pub write-requires-clause-number : goal.write-requires-clause-number
write-requires-clause-number g c = number_few c.requires.ready.1 c.requires.may.1 (c.node_in-node.ensures.written c.requires.may.0 c.requires.may.1.stands)

pub write-requires-clause-room : goal.write-requires-clause-room
write-requires-clause-room g c = c.requires.ready.1.size

pub overflow_cast-page : goal.overflow_cast-page
overflow_cast-page g c =
    let few = number_few c.requires.ready.1 c.requires.may.1 (c.node_in-node.ensures.written c.requires.may.0 c.requires.may.1.stands) in
    let same = c.number-page.ensures in
    omega arith

-- ## It was not latched

pub returns-in-Err-clause-fits : goal.returns-in-Err-clause-fits
returns-in-Err-clause-fits g c = (c.in-Err.ensures.fits.0, c.in-Err.ensures.fits.1 ∙ c.node_in-node.ensures.fits.1)

pub returns-in-Err-clause-err : goal.returns-in-Err-clause-err
returns-in-Err-clause-err g c = λ _. missed_behind c.node_in-node.ensures.looks (c.in-Err.ensures.missed refl)

pub returns-in-Err-clause-spent : goal.returns-in-Err-clause-spent
returns-in-Err-clause-spent g c = λ _. (refl, refl, c.in-Err.ensures.spent refl)

pub returns-in-Err-clause-stopped : goal.returns-in-Err-clause-stopped
returns-in-Err-clause-stopped g c = λ _ o. stops_run c.every_version.ensures c.every_quiet.ensures (missed_behind c.node_in-node.ensures.looks (c.in-Err.ensures.missed refl)) o c.args.slots.now c.args.generation (g.P.Part.story c.args.dev.now)

pub returns-in-Err-clause-keeps : goal.returns-in-Err-clause-keeps
returns-in-Err-clause-keeps g c = λ o opens. keeps_still c.every_kept.ensures c.every_prefix.ensures c.every_sealed.ensures o _ c.args.slots.now c.args.generation (g.P.Part.story c.args.dev.now) (g.met.P.Part.lawful c.args.dev.now)

pub returns-in-Err-clause-frame : goal.returns-in-Err-clause-frame
returns-in-Err-clause-frame g c = framed 1 (g.P.Part.story c.args.dev.now)

pub returns-in-Err-clause-cause_disk_fault : goal.returns-in-Err-clause-cause_disk_fault
returns-in-Err-clause-cause_disk_fault g c = cause_none (λ e. let w : c.in-Err.why ≡ not_saved.DiskFault = cc in c.in-Err.ensures.device (ap (λ x. Err x) w))

-- ## The device failed

pub give_up_one-requires-clause-one : goal.give_up_one-requires-clause-one
give_up_one-requires-clause-one g c = let o = c.in-Ok.ensures in opens (one_held o.fits.1 o.ok.0 o.ok.1)

pub give_up_one-requires-clause-same : goal.give_up_one-requires-clause-same
give_up_one-requires-clause-same g c = let o = c.in-Ok.ensures in (one_held o.fits.1 o.ok.0 o.ok.1).first.same

pub returns-in_default-clause-fits : goal.returns-in_default-clause-fits
returns-in_default-clause-fits g c = (c.give_up_one.ensures.fits.0, c.give_up_one.ensures.fits.1 ∙ (c.in-Ok.ensures.fits.1 ∙ c.node_in-node.ensures.fits.1))

pub returns-in_default-clause-err : goal.returns-in_default-clause-err
returns-in_default-clause-err g c = λ _.
    let v = g.R.Rows.view c.args.seat.now in
    let u = g.R.Rows.view c.node_in-node.new.seat in
    let t = g.R.Rows.view c.hold_in.new.seat in
    let alone = ap (λ (s : Shape). s.alone) (c.in-Ok.ensures.fits.1 ∙ c.node_in-node.ensures.fits.1) ∙ c.requires.ready.1.seated.alone in
    gave_up alone (ran_append true v [] u [] t c.node_in-node.ensures.looks.ran c.in-Ok.ensures.ran) c.give_up_one.ensures.missed c.give_up_one.ensures.fits.2

pub returns-in_default-clause-keeps : goal.returns-in_default-clause-keeps
returns-in_default-clause-keeps g c = λ o opens.
    keeps_run c.requires.ready.1 c.requires.may.1 (c.node_in-node.ensures.written c.requires.may.0 c.requires.may.1.stands) c.every_page.ensures c.every_reached.ensures c.every_need.ensures c.node_in-node.ensures.words o opens c.write.ensures.any_moment c.write.ensures.within

-- ## It was saved

pub note_saved-requires-clause-one : goal.note_saved-requires-clause-one
note_saved-requires-clause-one g c = let o = c.in-Ok.ensures in one_held o.fits.1 o.ok.0 o.ok.1

pub note_saved-requires-clause-saves : goal.note_saved-requires-clause-saves
note_saved-requires-clause-saves g c =
    let v = g.R.Rows.view c.args.seat.now in
    let u = g.R.Rows.view c.node_in-node.new.seat in
    let t = g.R.Rows.view c.hold_in.new.seat in
    let is = c.node_in-node.ensures.written c.requires.may.0 c.requires.may.1.stands in
    can_save c.requires.ready.1 c.requires.may.1 is (c.in-Ok.ensures.fits.1 ∙ c.node_in-node.ensures.fits.1) (ran_append true v [] u [] t c.node_in-node.ensures.looks.ran c.in-Ok.ensures.ran) c.in-Ok.ensures.ok.0
    (c.number-page.ensures ∙ number c.requires.ready.1 c.requires.may.1 is) c.gsn.ensures

pub returns-clause-fits : goal.returns-clause-fits
returns-clause-fits g c = (c.note_saved.ensures.fits.0, c.note_saved.ensures.fits.1 ∙ (c.in-Ok.ensures.fits.1 ∙ c.node_in-node.ensures.fits.1))

pub returns-clause-ok : goal.returns-clause-ok
returns-clause-ok g c =
    let v = g.R.Rows.view c.args.seat.now in
    let u = g.R.Rows.view c.node_in-node.new.seat in
    let t = g.R.Rows.view c.hold_in.new.seat in
    let alone = ap (λ (s : Shape). s.alone) (c.in-Ok.ensures.fits.1 ∙ c.node_in-node.ensures.fits.1) ∙ c.requires.ready.1.seated.alone in
    let is = c.node_in-node.ensures.written c.requires.may.0 c.requires.may.1.stands in
    (c.requires.may.0, c.requires.may.1, has_saved alone (c.number-page.ensures ∙ number c.requires.ready.1 c.requires.may.1 is) (ran_append true v [] u [] t c.node_in-node.ensures.looks.ran c.in-Ok.ensures.ran) c.note_saved.ensures.went.ran c.note_saved.ensures.went.held)

pub returns-clause-saved : goal.returns-clause-saved
returns-clause-saved g c = λ o opens.
    let v = g.R.Rows.view c.args.seat.now in
    let u = g.R.Rows.view c.node_in-node.new.seat in
    let t = g.R.Rows.view c.hold_in.new.seat in
    let r = c.requires.ready.1 in
    let m = c.requires.may.1 in
    let alone = ap (λ (s : Shape). s.alone) (c.in-Ok.ensures.fits.1 ∙ c.node_in-node.ensures.fits.1) ∙ r.seated.alone in
    let is = c.node_in-node.ensures.written c.requires.may.0 m.stands in
    let saved = has_saved alone (c.number-page.ensures ∙ number r m is) (ran_append true v [] u [] t c.node_in-node.ensures.looks.ran c.in-Ok.ensures.ran) c.note_saved.ensures.went.ran c.note_saved.ensures.went.held in
    saves_run r m is c.every_page.ensures c.every_reached.ensures c.every_need.ensures c.node_in-node.ensures.words o opens saved (c.write.ensures.writes c.in-Done.is)

pub returns-clause-keeps : goal.returns-clause-keeps
returns-clause-keeps g c = λ o opens.
    keeps_run c.requires.ready.1 c.requires.may.1 (c.node_in-node.ensures.written c.requires.may.0 c.requires.may.1.stands) c.every_page.ensures c.every_reached.ensures c.every_need.ensures c.node_in-node.ensures.words o opens c.write.ensures.any_moment c.write.ensures.within

pub returns-clause-cause_disk_fault : goal.returns-clause-cause_disk_fault
returns-clause-cause_disk_fault g c = cause_to c.write.ensures.cause (done_only c.write.result c.in-Done.is) (λ e. came_unlike _ refl e)
