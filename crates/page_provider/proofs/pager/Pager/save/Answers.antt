use Rattle.std.proofs.Common.{◌≡◌, ◌∙◌, ◌<◌, [], ◌∷◌, true, refl, sym, ap, subst}
use Rattle.std.proofs.lemmas.Result.{err_from_is_err_and}
use Rattle.btree_descent.specs.row_words.declared.event.Event.TheVariants.{Save}
use Rattle.btree_descent.specs.rows_trait.Turns.{Ran}
use Rattle.btree_descent.specs.rows_trait.Views.{Shape}
use Rattle.btree_descent.proofs.rows_trait.Runs.{ran_append, ran_none}
use Rattle.held_rows.specs.Steps.{MissedUpTo}
use Rattle.page_provider.specs.Evicts.{HasStayed}
use Rattle.page_provider.specs.Inside.{Missed}
use Rattle.page_provider.specs.Providers.{Provider}
use Rattle.page_provider.specs.declared.refusal.Refusal.{Refusal}
use Rattle.page_provider.specs.declared.refusal.Refusal.TheVariants as refusal
use Rattle.page_provider.proofs.Glances.{at_most}
use Rattle.page_provider.proofs.Outcomes.{entry_stays, entry_within, stayed_failed, stayed_missed}
use Rattle.page_provider.proofs.Loaded.{spent_others}
use Rattle.page_provider.proofs.Savings.{can_save, disk_failed, disk_saved, frame_is, has_saved, if_err, image_is, page_few, page_slots}
use Rattle.page_provider.proofs.Writing.{disked_misses}
use Rattle.page_provider.proofs.Mirrored.{mirrored_broken, mirrored_misses, mirrored_saved}
use Rattle.lean_disk.proofs.MomentLemmas.{framed}
use Rattle.page_provider.proofs.Framing.{within_none}
use Rattle.page_provider.proofs.Unwritten.{reads_broken, reads_saved, reads_untouched}
use Rattle.page_provider.proofs.Asks.{actor_ran, one_held, sized_of, sized_ran}
use Rattle.page_provider.proofs.Parts.{cause_row, cause_to}
use Rattle.page_provider.proofs.Reading.{came_unlike}
use Rattle.lean_disk.proofs.FaultLemmas.{done_only}
use Rattle.page_provider.proofs.pager.Pager.save.Goals as goal

pub page_in-requires-clause-frame : goal.page_in-requires-clause-frame
page_in-requires-clause-frame g c = subst (λ n. c.args.entry.frame < n) (sym (c.frames-frames.ensures ∙ ap (λ (p : Provider). p.frames) c.self.view_is)) (entry_within c.requires.keeps c.requires.entered)

pub page_in-requires-clause-stays : goal.page_in-requires-clause-stays
page_in-requires-clause-stays g c = (c.args.entry.page, entry_stays c.requires.keeps c.requires.entered c.laws.ensures.rows)

pub returns-in_err-node-clause-err : goal.returns-in_err-node-clause-err
returns-in_err-node-clause-err g c =
    let z = g.R.Rows.shape c.args.rows.now in
    let v = g.R.Rows.view c.args.seat.now in
    let w = g.R.Rows.view c.page_in.new.seat in
    let p = err_from_is_err_and c.from_residual.result c.from_residual.ensures.1 in
    let p2 = p.2 in
    let why = c.in_err-node.field-0.0 in
    let e : why ≡ p.0 = cc in
    let P : Refusal → Type 0 = λ q. HasStayed z v c.args.self.now c.args.entry.page q w c.args.self.now in
    if_err c.from_residual.result p.0 P p.1 (subst P e (stayed_missed c.laws.ensures.rows c.requires.keeps c.requires.held (ran_none z.alone v) c.requires.held (frame_is c.requires.keeps c.requires.entered refl) c.in_err-node.ensures.err (spent_others c.args.entry.frame v w why c.in_err-node.ensures.kind)))

pub returns-in_err-node-clause-disk : goal.returns-in_err-node-clause-disk
returns-in_err-node-clause-disk g c = let m = c.in_err-node.ensures.err in disked_misses c.laws.ensures.disk (g.met.P.Part.lawful c.args.dev.now) m.ran m.few

pub take-requires-clause-frame : goal.take-requires-clause-frame
take-requires-clause-frame g c = subst (λ n. c.args.entry.frame < n) (sym (c.frames-frames.ensures ∙ ap (λ (p : Provider). p.frames) c.self.view_is)) (entry_within c.requires.keeps c.requires.entered)

pub returns-in_err-hold-clause-err : goal.returns-in_err-hold-clause-err
returns-in_err-hold-clause-err g c =
    let z = g.R.Rows.shape c.args.rows.now in
    let v = g.R.Rows.view c.args.seat.now in
    let u = g.R.Rows.view c.page_in.new.seat in
    let s1 = c.in_ok-node.ensures.fits.1 in
    let i = c.in_ok-node.ensures.ok in
    let w = g.R.Rows.view c.take.new.seat in
    let p = err_from_is_err_and c.from_residual-in_err-hold.result c.from_residual-in_err-hold.ensures.1 in
    let p2 = p.2 in
    let why = c.in_err-hold.field-0.0 in
    let e : why ≡ p.0 = cc in
    let P : Refusal → Type 0 = λ q. HasStayed z v c.args.self.now c.args.entry.page q w c.args.self.now in
    let m = subst (λ (s : Shape). Missed s u why w) s1 c.in_err-hold.ensures.err in
    if_err c.from_residual-in_err-hold.result p.0 P p.1 (subst P e (stayed_missed c.laws.ensures.rows c.requires.keeps c.requires.held i.ran (c.in_ok-node.ensures.fits.2 ∙ c.requires.held) (frame_is c.requires.keeps c.requires.entered refl) m c.in_err-hold.ensures.spent))

pub returns-in_err-hold-clause-disk : goal.returns-in_err-hold-clause-disk
returns-in_err-hold-clause-disk g c =
    let z = g.R.Rows.shape c.args.rows.now in
    let v = g.R.Rows.view c.args.seat.now in
    let u = g.R.Rows.view c.page_in.new.seat in
    let s1 = c.in_ok-node.ensures.fits.1 in
    let i = c.in_ok-node.ensures.ok in
    let w = g.R.Rows.view c.take.new.seat in
    let m = subst (λ (s : Shape). Missed s u c.in_err-hold.field-0.0 w) s1 c.in_err-hold.ensures.err in
    disked_misses c.laws.ensures.disk (g.met.P.Part.lawful c.args.dev.now) (ran_append z.alone v [] u m.misses w i.ran m.ran) m.few

pub write-requires-clause-page : goal.write-requires-clause-page
write-requires-clause-page g c =
    let i = c.in_ok-node.ensures.ok in
    let is = image_is c.laws.ensures.rows c.requires.keeps c.requires.entered i in
    page_slots c.self.view_is c.requires.keeps c.requires.entered is c.self.invariant.each

pub write-requires-clause-number : goal.write-requires-clause-number
write-requires-clause-number g c =
    let i = c.in_ok-node.ensures.ok in
    let is = image_is c.laws.ensures.rows c.requires.keeps c.requires.entered i in
    page_few c.requires.keeps c.requires.entered is

pub returns-in_default-clause-err : goal.returns-in_default-clause-err
returns-in_default-clause-err g c =
    let z = g.R.Rows.shape c.args.rows.now in
    let v = g.R.Rows.view c.args.seat.now in
    let u = g.R.Rows.view c.page_in.new.seat in
    let s1 = c.in_ok-node.ensures.fits.1 in
    let i = c.in_ok-node.ensures.ok in
    let t = g.R.Rows.view c.take.new.seat in
    let taken = c.in_ok-hold.ensures.ok.1 in
    let s2 = c.in_ok-hold.ensures.fits.1 ∙ s1 in
    let r = ran_append z.alone v [] u [] t i.ran (subst (λ (s : Shape). Ran s.alone u [] t) s1 taken.ran) in
    let w = g.R.Rows.view c.give_up.new.seat in
    let m = subst (λ (s : Shape). MissedUpTo 1 s.alone t w) s2 c.give_up.ensures.missed in
    let all = ran_append z.alone v [] t m.events w r m.ran in
    subst (λ (p : Provider). HasStayed z v c.args.self.now c.args.entry.page refusal.DiskFault w (record p { slots = c.write.new.slots; broken = true })) (sym c.self.view_is)
    (stayed_failed c.laws.ensures.rows c.write.new.slots c.requires.keeps (at_most m.events m.misses m.few) all c.give_up.ensures.fits.2)

pub returns-in_default-clause-disk : goal.returns-in_default-clause-disk
returns-in_default-clause-disk g c =
    let z = g.R.Rows.shape c.args.rows.now in
    let v = g.R.Rows.view c.args.seat.now in
    let u = g.R.Rows.view c.page_in.new.seat in
    let s1 = c.in_ok-node.ensures.fits.1 in
    let i = c.in_ok-node.ensures.ok in
    let t = g.R.Rows.view c.take.new.seat in
    let taken = c.in_ok-hold.ensures.ok.1 in
    let s2 = c.in_ok-hold.ensures.fits.1 ∙ s1 in
    let r = ran_append z.alone v [] u [] t i.ran (subst (λ (s : Shape). Ran s.alone u [] t) s1 taken.ran) in
    let is = image_is c.laws.ensures.rows c.requires.keeps c.requires.entered i in
    let w = g.R.Rows.view c.give_up.new.seat in
    let m = subst (λ (s : Shape). MissedUpTo 1 s.alone t w) s2 c.give_up.ensures.missed in
    let all = ran_append z.alone v [] t m.events w r m.ran in
    disk_failed c.self.view_is c.laws.ensures.rows c.laws.ensures.disk c.requires.keeps c.requires.entered c.requires.low c.requires.dirty c.self.invariant.each c.in_ok-node.ensures.words is c.write.ensures.any_moment c.write.new.slots all

pub note_saved-requires-clause-saves : goal.note_saved-requires-clause-saves
note_saved-requires-clause-saves g c =
    let z = g.R.Rows.shape c.args.rows.now in
    let v = g.R.Rows.view c.args.seat.now in
    let u = g.R.Rows.view c.page_in.new.seat in
    let s1 = c.in_ok-node.ensures.fits.1 in
    let i = c.in_ok-node.ensures.ok in
    let t = g.R.Rows.view c.take.new.seat in
    let taken = c.in_ok-hold.ensures.ok.1 in
    let s2 = c.in_ok-hold.ensures.fits.1 ∙ s1 in
    let r = ran_append z.alone v [] u [] t i.ran (subst (λ (s : Shape). Ran s.alone u [] t) s1 taken.ran) in
    let is = image_is c.laws.ensures.rows c.requires.keeps c.requires.entered i in
    can_save c.laws.ensures.rows c.requires.keeps c.requires.held c.requires.entered c.requires.low r is c.gsn.ensures s2 c.in_ok-hold.ensures.ok.0

pub returns-clause-ok : goal.returns-clause-ok
returns-clause-ok g c =
    let z = g.R.Rows.shape c.args.rows.now in
    let v = g.R.Rows.view c.args.seat.now in
    let u = g.R.Rows.view c.page_in.new.seat in
    let s1 = c.in_ok-node.ensures.fits.1 in
    let i = c.in_ok-node.ensures.ok in
    let t = g.R.Rows.view c.take.new.seat in
    let taken = c.in_ok-hold.ensures.ok.1 in
    let s2 = c.in_ok-hold.ensures.fits.1 ∙ s1 in
    let r = ran_append z.alone v [] u [] t i.ran (subst (λ (s : Shape). Ran s.alone u [] t) s1 taken.ran) in
    let w = g.R.Rows.view c.note_saved.new.seat in
    let all = ran_append z.alone v [] t (Save c.args.entry.page ∷ []) w r (subst (λ (s : Shape). Ran s.alone t (Save c.args.entry.page ∷ []) w) s2 c.note_saved.ensures.went.ran) in
    has_saved c.self.view_is c.laws.ensures.rows c.requires.keeps c.requires.held c.requires.entered c.requires.low all c.note_saved.ensures.went.held c.write.new.slots

pub returns-clause-disk : goal.returns-clause-disk
returns-clause-disk g c =
    let z = g.R.Rows.shape c.args.rows.now in
    let v = g.R.Rows.view c.args.seat.now in
    let u = g.R.Rows.view c.page_in.new.seat in
    let s1 = c.in_ok-node.ensures.fits.1 in
    let i = c.in_ok-node.ensures.ok in
    let t = g.R.Rows.view c.take.new.seat in
    let taken = c.in_ok-hold.ensures.ok.1 in
    let s2 = c.in_ok-hold.ensures.fits.1 ∙ s1 in
    let r = ran_append z.alone v [] u [] t i.ran (subst (λ (s : Shape). Ran s.alone u [] t) s1 taken.ran) in
    let is = image_is c.laws.ensures.rows c.requires.keeps c.requires.entered i in
    let w = g.R.Rows.view c.note_saved.new.seat in
    let all = ran_append z.alone v [] t (Save c.args.entry.page ∷ []) w r (subst (λ (s : Shape). Ran s.alone t (Save c.args.entry.page ∷ []) w) s2 c.note_saved.ensures.went.ran) in
    disk_saved c.self.view_is c.laws.ensures.rows c.laws.ensures.disk c.requires.keeps c.requires.entered c.requires.low c.requires.dirty c.self.invariant.each c.in_ok-node.ensures.words is c.write.ensures.any_moment
    c.write.new.slots (c.write.ensures.writes c.in-Done.is) all

pub returns-in_err-node-clause-mirrors : goal.returns-in_err-node-clause-mirrors
returns-in_err-node-clause-mirrors g c = let m = c.in_err-node.ensures.err in mirrored_misses c.requires.keeps m.ran m.few

pub returns-in_err-hold-clause-mirrors : goal.returns-in_err-hold-clause-mirrors
returns-in_err-hold-clause-mirrors g c =
    let z = g.R.Rows.shape c.args.rows.now in
    let v = g.R.Rows.view c.args.seat.now in
    let u = g.R.Rows.view c.page_in.new.seat in
    let s1 = c.in_ok-node.ensures.fits.1 in
    let i = c.in_ok-node.ensures.ok in
    let w = g.R.Rows.view c.take.new.seat in
    let m = subst (λ (s : Shape). Missed s u c.in_err-hold.field-0.0 w) s1 c.in_err-hold.ensures.err in
    mirrored_misses c.requires.keeps (ran_append z.alone v [] u m.misses w i.ran m.ran) m.few

pub returns-in_default-clause-mirrors : goal.returns-in_default-clause-mirrors
returns-in_default-clause-mirrors g c = mirrored_broken refl

pub returns-clause-mirrors : goal.returns-clause-mirrors
returns-clause-mirrors g c =
    let z = g.R.Rows.shape c.args.rows.now in
    let v = g.R.Rows.view c.args.seat.now in
    let u = g.R.Rows.view c.page_in.new.seat in
    let s1 = c.in_ok-node.ensures.fits.1 in
    let i = c.in_ok-node.ensures.ok in
    let t = g.R.Rows.view c.take.new.seat in
    let taken = c.in_ok-hold.ensures.ok.1 in
    let s2 = c.in_ok-hold.ensures.fits.1 ∙ s1 in
    let r = ran_append z.alone v [] u [] t i.ran (subst (λ (s : Shape). Ran s.alone u [] t) s1 taken.ran) in
    let is = image_is c.laws.ensures.rows c.requires.keeps c.requires.entered i in
    let w = g.R.Rows.view c.note_saved.new.seat in
    let all = ran_append z.alone v [] t (Save c.args.entry.page ∷ []) w r (subst (λ (s : Shape). Ran s.alone t (Save c.args.entry.page ∷ []) w) s2 c.note_saved.ensures.went.ran) in
    mirrored_saved c.self.view_is c.laws.ensures.rows c.requires.keeps c.requires.held c.requires.entered c.requires.low c.self.invariant.each c.in_ok-node.ensures.words is c.write.new.slots (c.write.ensures.mirrors c.in-Done.is) all

pub returns-in_err-node-clause-frame : goal.returns-in_err-node-clause-frame
returns-in_err-node-clause-frame g c = framed 1 (g.P.Part.story c.args.dev.now)

pub returns-in_err-hold-clause-frame : goal.returns-in_err-hold-clause-frame
returns-in_err-hold-clause-frame g c = framed 1 (g.P.Part.story c.args.dev.now)

pub returns-in_err-node-clause-within : goal.returns-in_err-node-clause-within
returns-in_err-node-clause-within g c = within_none (g.met.P.Part.lawful c.args.dev.now)

pub returns-in_err-hold-clause-within : goal.returns-in_err-hold-clause-within
returns-in_err-hold-clause-within g c = within_none (g.met.P.Part.lawful c.args.dev.now)

pub returns-in_err-node-clause-reads : goal.returns-in_err-node-clause-reads
returns-in_err-node-clause-reads g c = reads_untouched (g.met.P.Part.lawful c.args.dev.now) c.in_err-node.ensures.err.ran

pub returns-in_err-hold-clause-reads : goal.returns-in_err-hold-clause-reads
returns-in_err-hold-clause-reads g c =
    let z = g.R.Rows.shape c.args.rows.now in
    let v = g.R.Rows.view c.args.seat.now in
    let u = g.R.Rows.view c.page_in.new.seat in
    let s1 = c.in_ok-node.ensures.fits.1 in
    let i = c.in_ok-node.ensures.ok in
    let w = g.R.Rows.view c.take.new.seat in
    let m = subst (λ (s : Shape). Missed s u c.in_err-hold.field-0.0 w) s1 c.in_err-hold.ensures.err in
    reads_untouched (g.met.P.Part.lawful c.args.dev.now) (ran_append z.alone v [] u m.misses w i.ran m.ran)

pub returns-in_default-clause-reads : goal.returns-in_default-clause-reads
returns-in_default-clause-reads g c =
    let z = g.R.Rows.shape c.args.rows.now in
    let v = g.R.Rows.view c.args.seat.now in
    let u = g.R.Rows.view c.page_in.new.seat in
    let s1 = c.in_ok-node.ensures.fits.1 in
    let i = c.in_ok-node.ensures.ok in
    let t = g.R.Rows.view c.take.new.seat in
    let taken = c.in_ok-hold.ensures.ok.1 in
    let s2 = c.in_ok-hold.ensures.fits.1 ∙ s1 in
    let r = ran_append z.alone v [] u [] t i.ran (subst (λ (s : Shape). Ran s.alone u [] t) s1 taken.ran) in
    let is = image_is c.laws.ensures.rows c.requires.keeps c.requires.entered i in
    let w = g.R.Rows.view c.give_up.new.seat in
    let m = subst (λ (s : Shape). MissedUpTo 1 s.alone t w) s2 c.give_up.ensures.missed in
    let all = ran_append z.alone v [] t m.events w r m.ran in
    reads_broken refl all

pub returns-clause-reads : goal.returns-clause-reads
returns-clause-reads g c =
    let z = g.R.Rows.shape c.args.rows.now in
    let v = g.R.Rows.view c.args.seat.now in
    let u = g.R.Rows.view c.page_in.new.seat in
    let s1 = c.in_ok-node.ensures.fits.1 in
    let i = c.in_ok-node.ensures.ok in
    let t = g.R.Rows.view c.take.new.seat in
    let taken = c.in_ok-hold.ensures.ok.1 in
    let s2 = c.in_ok-hold.ensures.fits.1 ∙ s1 in
    let r = ran_append z.alone v [] u [] t i.ran (subst (λ (s : Shape). Ran s.alone u [] t) s1 taken.ran) in
    let is = image_is c.laws.ensures.rows c.requires.keeps c.requires.entered i in
    let w = g.R.Rows.view c.note_saved.new.seat in
    let all = ran_append z.alone v [] t (Save c.args.entry.page ∷ []) w r (subst (λ (s : Shape). Ran s.alone t (Save c.args.entry.page ∷ []) w) s2 c.note_saved.ensures.went.ran) in
    reads_saved all

pub page_in-requires-clause-sized : goal.page_in-requires-clause-sized
page_in-requires-clause-sized g c = sized_of c.requires.keeps (c.frames-frames.ensures ∙ ap (λ (p : Provider). p.frames) c.self.view_is)

pub take-requires-clause-fits : goal.take-requires-clause-fits
take-requires-clause-fits g c = c.in_ok-node.ensures.fits.0

pub take-requires-clause-sized : goal.take-requires-clause-sized
take-requires-clause-sized g c = let o = c.in_ok-node.ensures in sized_ran o.fits.1 o.ok.ran (sized_of c.requires.keeps (c.frames-frames.ensures ∙ ap (λ (p : Provider). p.frames) c.self.view_is))

pub take-requires-clause-actor : goal.take-requires-clause-actor
take-requires-clause-actor g c = let o = c.in_ok-node.ensures in actor_ran o.fits.1 o.ok.ran c.requires.keeps.actor

pub take-requires-clause-held : goal.take-requires-clause-held
take-requires-clause-held g c = c.in_ok-node.ensures.fits.2 ∙ c.requires.held

pub returns-in_err-hold-clause-fits : goal.returns-in_err-hold-clause-fits
returns-in_err-hold-clause-fits g c = let o = c.in_ok-node.ensures.fits in let e = c.in_err-hold.ensures.fits in (e.0, e.1 ∙ o.1)

pub note_saved-requires-clause-fits : goal.note_saved-requires-clause-fits
note_saved-requires-clause-fits g c = c.in_ok-hold.ensures.fits.0

pub note_saved-requires-clause-one : goal.note_saved-requires-clause-one
note_saved-requires-clause-one g c = let o = c.in_ok-hold.ensures in one_held o.fits.1 o.ok.0 o.ok.1.one

pub returns-clause-fits : goal.returns-clause-fits
returns-clause-fits g c = (c.note_saved.ensures.fits.0, c.note_saved.ensures.fits.1 ∙ (c.in_ok-hold.ensures.fits.1 ∙ c.in_ok-node.ensures.fits.1))

pub give_up-requires-clause-fits : goal.give_up-requires-clause-fits
give_up-requires-clause-fits g c = c.in_ok-hold.ensures.fits.0

pub give_up-requires-clause-one : goal.give_up-requires-clause-one
give_up-requires-clause-one g c = let o = c.in_ok-hold.ensures in one_held o.fits.1 o.ok.0 o.ok.1.one

pub returns-in_default-clause-fits : goal.returns-in_default-clause-fits
returns-in_default-clause-fits g c = (c.give_up.ensures.fits.0, c.give_up.ensures.fits.1 ∙ (c.in_ok-hold.ensures.fits.1 ∙ c.in_ok-node.ensures.fits.1))

pub returns-in_err-node-clause-cause : goal.returns-in_err-node-clause-cause
returns-in_err-node-clause-cause g c =
    let p = err_from_is_err_and c.from_residual.result c.from_residual.ensures.1 in
    let p2 = p.2 in
    let why = c.in_err-node.field-0.0 in
    let e : why ≡ p.0 = cc in
    cause_row c.from_residual.result p.1 e c.in_err-node.ensures.err.kind

pub returns-in_err-hold-clause-cause : goal.returns-in_err-hold-clause-cause
returns-in_err-hold-clause-cause g c =
    let p = err_from_is_err_and c.from_residual-in_err-hold.result c.from_residual-in_err-hold.ensures.1 in
    let p2 = p.2 in
    let why = c.in_err-hold.field-0.0 in
    let e : why ≡ p.0 = cc in
    cause_row c.from_residual-in_err-hold.result p.1 e c.in_err-hold.ensures.err.kind

pub returns-clause-cause : goal.returns-clause-cause
returns-clause-cause g c = cause_to c.write.ensures.cause (done_only c.write.result c.in-Done.is) (λ e. came_unlike _ refl e)
