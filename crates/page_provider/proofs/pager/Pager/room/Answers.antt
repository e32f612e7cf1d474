use Rattle.std.proofs.Common.{◌≡◌, ◌∙◌, ◌≤◌, ◌⊎◌, ◌/◌, max, length, ℕ, List, arith, ap, subst}
use Rattle.std.proofs.lemmas.Result.{err_from_is_err_and}
use Rattle.btree_descent.specs.rows_trait.declared.view.View.{View}
use Rattle.btree_descent.specs.rows_trait.Views.{Shape}
use Rattle.page_provider.specs.declared.leaving.Chosen.{Chosen}
use Rattle.page_provider.specs.declared.leaving.Chosen.TheVariants as chosen
use Rattle.page_provider.specs.declared.refusal.Refusal.{Refusal}
use Rattle.page_provider.specs.Cools.{Chills, HasChilled}
use Rattle.page_provider.specs.Disks.{Disked}
use Rattle.page_provider.specs.Ends.{HasRefused}
use Rattle.page_provider.specs.Evicts.{HasLeft, HasStayed}
use Rattle.page_provider.specs.Leaves.{Chooses, HasHalted, NoOther, NoneCools}
use Rattle.page_provider.specs.Providers.{Provider}
use Rattle.page_provider.specs.Shares.{share}
use Rattle.page_provider.proofs.Chilling.{calm_then, chills_calm, chills_then}
use Rattle.page_provider.proofs.Crowded.{full_cause, way_closed}
use Rattle.page_provider.proofs.Emptying.{then_refused}
use Rattle.page_provider.proofs.Filling.{stays_cold}
use Rattle.page_provider.proofs.Judging.{tells}
use Rattle.page_provider.proofs.Moving.{refused_up}
use Rattle.page_provider.proofs.Rooms.{calm_disked, room_full, room_kept, room_left, room_stayed}
use Rattle.page_provider.proofs.Running.{disked_then}
use Rattle.page_provider.proofs.Savings.{if_err}
use Rattle.page_provider.proofs.Mirrored.{mirrored_calm, mirrored_then}
use Rattle.lean_disk.proofs.MomentLemmas.{framed}
use Rattle.page_provider.proofs.Framing.{within_none}
use Rattle.page_provider.proofs.Unwritten.{reads_untouched, unsaved_then}
use Rattle.page_provider.proofs.pager.Pager.room.Goals as goal

-- what the second part cooled, behind what the first did
behind : {y z : Shape} {path : List ℕ} {v u w : View} {was k is : Provider} → y ≡ z → Chills z path v was u k → Chills y path u k w is → Chills z path v was w is
behind {path = path} {u = u} {w = w} {k = k} {is = is} shape one two = chills_then one (subst (λ (s : Shape). Chills s path u k w is) shape two)

-- how the search for a page ended
ended : (path : List ℕ) (u w : View) (k is : Provider) {y z : Shape} {done : Chosen} (answer : Chosen) → y ≡ z → done ≡ answer → Chills y path u k w is × Chooses y is done w → Chills z path u k w is × Chooses z is answer w
ended path u w k is answer shape same h = subst (λ (s : Shape × Chosen). Chills s.0 path u k w is × Chooses s.0 is s.1 w) (λ i. (shape i, same i)) h

-- the share of the frames, as it was reckoned
shared : {z : Shape} {path : List ℕ} {v u : View} {old was is : Provider} {n m : ℕ} → old ≡ was → n ≡ old.frames → m ≡ max (n / 10) 1 → HasChilled z path m v was u is → HasChilled z path (share was.frames) v was u is
shared {z} {path} {v} {u} {old} {was} {is} same many wanted h = subst (λ j. HasChilled z path j v was u is) (wanted ∙ (ap share many ∙ ap (λ (p : Provider). share p.frames) same)) h

-- ## The first part is refused

pub returns-in_err-chill_some-clause-err : goal.returns-in_err-chill_some-clause-err
returns-in_err-chill_some-clause-err g c =
    let z = g.R.Rows.shape c.args.rows.now in
    let v = g.R.Rows.view c.args.seat.now in
    let u = g.R.Rows.view c.chill_some.new.seat in
    let k = c.chill_some.new.self in
    let p = err_from_is_err_and c.from_residual.result c.from_residual.ensures.1 in
    let p2 = p.2 in
    let why = c.in_err-chill_some.field-0.0 in
    let e : why ≡ p.0 = cc in
    let P : Refusal → Type 0 = λ q. HasRefused 3 z c.args.path.now v c.args.self.now q u k in
    if_err c.from_residual.result p.0 P p.1 (subst P e (refused_up (let few : 2 ≤ 3 = omega arith in few) c.in_err-chill_some.ensures.err))

pub returns-in_err-chill_some-clause-disk : goal.returns-in_err-chill_some-clause-disk
returns-in_err-chill_some-clause-disk g c = calm_disked c.laws.ensures.disk (g.met.P.Part.lawful c.args.dev.now) c.in_err-chill_some.ensures.halted.calm

-- ## A frame is empty

pub returns-in-Some-clause-ok : goal.returns-in-Some-clause-ok
returns-in-Some-clause-ok g c = let o = c.in-Some.ensures.last in room_kept (shared c.self.view_is c.frames.ensures c.max-wanted.ensures c.in_ok-chill_some.ensures.ok) o.0 o.1

pub returns-in-Some-clause-disk : goal.returns-in-Some-clause-disk
returns-in-Some-clause-disk g c = calm_disked c.laws.ensures.disk (g.met.P.Part.lawful c.args.dev.now) (chills_calm c.in_ok-chill_some.ensures.ok.chills)

-- ## The search for a page is refused

pub returns-in_err-entry-clause-err : goal.returns-in_err-entry-clause-err
returns-in_err-entry-clause-err g c =
    let z = g.R.Rows.shape c.args.rows.now in
    let v = g.R.Rows.view c.args.seat.now in
    let u = g.R.Rows.view c.chill_some.new.seat in
    let w = g.R.Rows.view c.leaver.new.seat in
    let k = c.chill_some.new.self in
    let is = c.leaver.new.self in
    let path = c.args.path.now in
    let p = err_from_is_err_and c.from_residual-in_err-entry.result c.from_residual-in_err-entry.ensures.1 in
    let p2 = p.2 in
    let why = c.in_err-entry.field-0.0 in
    let e : why ≡ p.0 = cc in
    let P : Refusal → Type 0 = λ q. HasRefused 3 z path v c.args.self.now q w is in
    let r = subst (λ (s : Shape). HasRefused 3 s path u k why w is) c.in_ok-chill_some.ensures.fits.1 c.in_err-entry.ensures.err in
    if_err c.from_residual-in_err-entry.result p.0 P p.1 (subst P e (then_refused c.laws.ensures.rows c.in_ok-chill_some.ensures.ok.chills r))

pub returns-in_err-entry-clause-disk : goal.returns-in_err-entry-clause-disk
returns-in_err-entry-clause-disk g c =
    let u = g.R.Rows.view c.chill_some.new.seat in
    let w = g.R.Rows.view c.leaver.new.seat in
    let why = c.in_err-entry.field-0.0 in
    let h = subst (λ (s : Shape). HasHalted s u c.chill_some.new.self why w c.leaver.new.self) c.in_ok-chill_some.ensures.fits.1 c.in_err-entry.ensures.halted in
    calm_disked c.laws.ensures.disk (g.met.P.Part.lawful c.args.dev.now) (calm_then (chills_calm c.in_ok-chill_some.ensures.ok.chills) h.calm)

-- ## No page can leave

pub full-requires-clause-frames : goal.full-requires-clause-frames
full-requires-clause-frames g c =
    let h = behind c.in_ok-chill_some.ensures.fits.1 c.in_ok-chill_some.ensures.ok.chills c.in_ok-entry.ensures.ok.0 in
    let few = (tells c.laws.ensures.rows h.moved.goes.keeps).fewer in
    let d = h.moved.goes.keeps.sized.given in
    omega arith

pub returns-in-Nobody-clause-err : goal.returns-in-Nobody-clause-err
returns-in-Nobody-clause-err g c =
    room_full c.in-Nobody.held c.full.result (behind c.in_ok-chill_some.ensures.fits.1 c.in_ok-chill_some.ensures.ok.chills c.in_ok-entry.ensures.ok.0) c.full.ensures.sum

pub returns-in-Nobody-clause-full : goal.returns-in-Nobody-clause-full
returns-in-Nobody-clause-full g c =
    let z = g.R.Rows.shape c.args.rows.now in
    let u = g.R.Rows.view c.chill_some.new.seat in
    let w = g.R.Rows.view c.leaver.new.seat in
    let path = c.args.path.now in
    let h = behind c.in_ok-chill_some.ensures.fits.1 c.in_ok-chill_some.ensures.ok.chills c.in_ok-entry.ensures.ok.0 in
    let a = ended path u w c.chill_some.new.self c.leaver.new.self (chosen.Nobody c.in-Nobody.held) c.in_ok-chill_some.ensures.fits.1 c.in-Nobody.is c.in_ok-entry.ensures.ok in
    let bare = ap (λ (p : Provider). p.empty) a.0.memory ∙ c.in_default.ensures.last in
    let none = subst (λ (s : Shape × Chosen). NoneCools s.0 path w s.1) (λ i. (c.in_ok-chill_some.ensures.fits.1 i, c.in-Nobody.is i)) c.in_ok-entry.ensures.none_cools in
    full_cause path c.in-Nobody.held c.full.result c.laws.ensures.rows h.moved.goes.keeps bare c.requires.descent.root (λ alone. way_closed alone h c.requires.descent) none a.1.1 c.full.ensures.sum

pub returns-in-Nobody-clause-disk : goal.returns-in-Nobody-clause-disk
returns-in-Nobody-clause-disk g c =
    calm_disked c.laws.ensures.disk (g.met.P.Part.lawful c.args.dev.now) (chills_calm (behind c.in_ok-chill_some.ensures.fits.1 c.in_ok-chill_some.ensures.ok.chills c.in_ok-entry.ensures.ok.0))

-- ## It leaves

pub returns-in_err-evict-clause-err : goal.returns-in_err-evict-clause-err
returns-in_err-evict-clause-err g c =
    let z = g.R.Rows.shape c.args.rows.now in
    let v = g.R.Rows.view c.args.seat.now in
    let u = g.R.Rows.view c.chill_some.new.seat in
    let w = g.R.Rows.view c.leaver.new.seat in
    let x = g.R.Rows.view c.evict.new.seat in
    let k = c.leaver.new.self in
    let is = c.evict.new.self in
    let path = c.args.path.now in
    let h = behind c.in_ok-chill_some.ensures.fits.1 c.in_ok-chill_some.ensures.ok.chills c.in_ok-entry.ensures.ok.0 in
    let a = ended path u w c.chill_some.new.self k (chosen.Page c.in-Page.entry) c.in_ok-chill_some.ensures.fits.1 c.in-Page.is c.in_ok-entry.ensures.ok in
    let p = err_from_is_err_and c.from_residual-in_err-evict.result c.from_residual-in_err-evict.ensures.1 in
    let p2 = p.2 in
    let why = c.in_err-evict.field-0.0 in
    let e : why ≡ p.0 = cc in
    let P : Refusal → Type 0 = λ q. HasRefused 3 z path v c.args.self.now q x is in
    let st = subst (λ (s : Shape). HasStayed s w k c.in-Page.entry.page why x is) (c.in_ok-entry.ensures.fits.1 ∙ c.in_ok-chill_some.ensures.fits.1) c.in_err-evict.ensures.err in
    if_err c.from_residual-in_err-evict.result p.0 P p.1 (subst P e (room_stayed c.laws.ensures.rows h a.1.0 st))

pub returns-in_err-evict-clause-disk : goal.returns-in_err-evict-clause-disk
returns-in_err-evict-clause-disk g c =
    let w = g.R.Rows.view c.leaver.new.seat in
    let x = g.R.Rows.view c.evict.new.seat in
    let h = behind c.in_ok-chill_some.ensures.fits.1 c.in_ok-chill_some.ensures.ok.chills c.in_ok-entry.ensures.ok.0 in
    disked_then c.laws.ensures.disk (ap (λ (p : Provider). p.broken) h.memory ∙ c.requires.well)
    (calm_disked c.laws.ensures.disk (g.met.P.Part.lawful c.args.dev.now) (chills_calm h))
    (subst (λ (s : Shape). Disked s.alone c.leaver.new.self w c.evict.new.self x (g.P.Part.story c.args.dev.now) (g.P.Part.story c.evict.new.dev)) (c.in_ok-entry.ensures.fits.1 ∙ c.in_ok-chill_some.ensures.fits.1) c.evict.ensures.disk)

pub returns-clause-ok : goal.returns-clause-ok
returns-clause-ok g c =
    let u = g.R.Rows.view c.chill_some.new.seat in
    let w = g.R.Rows.view c.leaver.new.seat in
    let x = g.R.Rows.view c.evict.new.seat in
    let k = c.leaver.new.self in
    let a = ended c.args.path.now u w c.chill_some.new.self k (chosen.Page c.in-Page.entry) c.in_ok-chill_some.ensures.fits.1 c.in-Page.is c.in_ok-entry.ensures.ok in
    let left = subst (λ (s : Shape). HasLeft s w k c.in-Page.entry.page x c.evict.new.self) (c.in_ok-entry.ensures.fits.1 ∙ c.in_ok-chill_some.ensures.fits.1) c.in_ok-evict.ensures.ok in
    let no = subst (λ (s : Shape × Chosen). (length k.queue ≡ length c.chill_some.new.self.queue) ⊎ NoOther s.0 w s.1) (λ i. (c.in_ok-chill_some.ensures.fits.1 i, c.in-Page.is i)) c.in_ok-entry.ensures.others in
    room_left c.laws.ensures.rows (shared c.self.view_is c.frames.ensures c.max-wanted.ensures c.in_ok-chill_some.ensures.ok) a.0 no c.in_default.ensures.last a.1.0 a.1.1 left

pub returns-clause-disk : goal.returns-clause-disk
returns-clause-disk g c =
    let w = g.R.Rows.view c.leaver.new.seat in
    let x = g.R.Rows.view c.evict.new.seat in
    let h = behind c.in_ok-chill_some.ensures.fits.1 c.in_ok-chill_some.ensures.ok.chills c.in_ok-entry.ensures.ok.0 in
    disked_then c.laws.ensures.disk (ap (λ (p : Provider). p.broken) h.memory ∙ c.requires.well)
    (calm_disked c.laws.ensures.disk (g.met.P.Part.lawful c.args.dev.now) (chills_calm h))
    (subst (λ (s : Shape). Disked s.alone c.leaver.new.self w c.evict.new.self x (g.P.Part.story c.args.dev.now) (g.P.Part.story c.evict.new.dev)) (c.in_ok-entry.ensures.fits.1 ∙ c.in_ok-chill_some.ensures.fits.1) c.evict.ensures.disk)

-- ## What the slots hold

pub returns-in_err-chill_some-clause-mirrors : goal.returns-in_err-chill_some-clause-mirrors
returns-in_err-chill_some-clause-mirrors g c = mirrored_calm c.requires.keeps c.in_err-chill_some.ensures.halted.calm

pub returns-in-Some-clause-mirrors : goal.returns-in-Some-clause-mirrors
returns-in-Some-clause-mirrors g c = mirrored_calm c.requires.keeps (chills_calm c.in_ok-chill_some.ensures.ok.chills)

pub returns-in_err-entry-clause-mirrors : goal.returns-in_err-entry-clause-mirrors
returns-in_err-entry-clause-mirrors g c =
    let u = g.R.Rows.view c.chill_some.new.seat in
    let w = g.R.Rows.view c.leaver.new.seat in
    let why = c.in_err-entry.field-0.0 in
    let h = subst (λ (s : Shape). HasHalted s u c.chill_some.new.self why w c.leaver.new.self) c.in_ok-chill_some.ensures.fits.1 c.in_err-entry.ensures.halted in
    mirrored_calm c.requires.keeps (calm_then (chills_calm c.in_ok-chill_some.ensures.ok.chills) h.calm)

pub returns-in-Nobody-clause-mirrors : goal.returns-in-Nobody-clause-mirrors
returns-in-Nobody-clause-mirrors g c = mirrored_calm c.requires.keeps (chills_calm (behind c.in_ok-chill_some.ensures.fits.1 c.in_ok-chill_some.ensures.ok.chills c.in_ok-entry.ensures.ok.0))

pub returns-in_err-evict-clause-mirrors : goal.returns-in_err-evict-clause-mirrors
returns-in_err-evict-clause-mirrors g c =
    let h = behind c.in_ok-chill_some.ensures.fits.1 c.in_ok-chill_some.ensures.ok.chills c.in_ok-entry.ensures.ok.0 in
    mirrored_then (ap (λ (p : Provider). p.broken) h.memory ∙ c.requires.well) (mirrored_calm c.requires.keeps (chills_calm h)) c.evict.ensures.mirrors

pub returns-clause-mirrors : goal.returns-clause-mirrors
returns-clause-mirrors g c =
    let h = behind c.in_ok-chill_some.ensures.fits.1 c.in_ok-chill_some.ensures.ok.chills c.in_ok-entry.ensures.ok.0 in
    mirrored_then (ap (λ (p : Provider). p.broken) h.memory ∙ c.requires.well) (mirrored_calm c.requires.keeps (chills_calm h)) c.evict.ensures.mirrors

-- ## What stays of the device

pub returns-in_err-chill_some-clause-frame : goal.returns-in_err-chill_some-clause-frame
returns-in_err-chill_some-clause-frame g c = framed 1 (g.P.Part.story c.args.dev.now)

pub returns-in-Some-clause-frame : goal.returns-in-Some-clause-frame
returns-in-Some-clause-frame g c = framed 1 (g.P.Part.story c.args.dev.now)

pub returns-in_err-entry-clause-frame : goal.returns-in_err-entry-clause-frame
returns-in_err-entry-clause-frame g c = framed 1 (g.P.Part.story c.args.dev.now)

pub returns-in-Nobody-clause-frame : goal.returns-in-Nobody-clause-frame
returns-in-Nobody-clause-frame g c = framed 1 (g.P.Part.story c.args.dev.now)

-- ## Pages that are cold

pub returns-in-Nobody-clause-cold : goal.returns-in-Nobody-clause-cold
returns-in-Nobody-clause-cold g c =
    stays_cold c.full.result (behind c.in_ok-chill_some.ensures.fits.1 c.in_ok-chill_some.ensures.ok.chills c.in_ok-entry.ensures.ok.0).rested

-- at every moment

pub returns-in_err-chill_some-clause-within : goal.returns-in_err-chill_some-clause-within
returns-in_err-chill_some-clause-within g c = within_none (g.met.P.Part.lawful c.args.dev.now)

pub returns-in-Some-clause-within : goal.returns-in-Some-clause-within
returns-in-Some-clause-within g c = within_none (g.met.P.Part.lawful c.args.dev.now)

pub returns-in_err-entry-clause-within : goal.returns-in_err-entry-clause-within
returns-in_err-entry-clause-within g c = within_none (g.met.P.Part.lawful c.args.dev.now)

pub returns-in-Nobody-clause-within : goal.returns-in-Nobody-clause-within
returns-in-Nobody-clause-within g c = within_none (g.met.P.Part.lawful c.args.dev.now)

-- ## Where no page is saved

pub returns-in_err-chill_some-clause-reads : goal.returns-in_err-chill_some-clause-reads
returns-in_err-chill_some-clause-reads g c = reads_untouched (g.met.P.Part.lawful c.args.dev.now) c.in_err-chill_some.ensures.halted.calm.ran

pub returns-in-Some-clause-reads : goal.returns-in-Some-clause-reads
returns-in-Some-clause-reads g c = reads_untouched (g.met.P.Part.lawful c.args.dev.now) c.in_ok-chill_some.ensures.ok.chills.moved.goes.ran

pub returns-in_err-entry-clause-reads : goal.returns-in_err-entry-clause-reads
returns-in_err-entry-clause-reads g c =
    let u = g.R.Rows.view c.chill_some.new.seat in
    let w = g.R.Rows.view c.leaver.new.seat in
    let why = c.in_err-entry.field-0.0 in
    let h = subst (λ (s : Shape). HasHalted s u c.chill_some.new.self why w c.leaver.new.self) c.in_ok-chill_some.ensures.fits.1 c.in_err-entry.ensures.halted in
    reads_untouched (g.met.P.Part.lawful c.args.dev.now) (calm_then (chills_calm c.in_ok-chill_some.ensures.ok.chills) h.calm).ran

pub returns-in-Nobody-clause-reads : goal.returns-in-Nobody-clause-reads
returns-in-Nobody-clause-reads g c = reads_untouched (g.met.P.Part.lawful c.args.dev.now) (behind c.in_ok-chill_some.ensures.fits.1 c.in_ok-chill_some.ensures.ok.chills c.in_ok-entry.ensures.ok.0).moved.goes.ran

pub returns-in_err-evict-clause-reads : goal.returns-in_err-evict-clause-reads
returns-in_err-evict-clause-reads g c =
    let h = behind c.in_ok-chill_some.ensures.fits.1 c.in_ok-chill_some.ensures.ok.chills c.in_ok-entry.ensures.ok.0 in
    unsaved_then c.leaver.new.self (ap (λ (p : Provider). p.broken) h.memory ∙ c.requires.well) (reads_untouched (g.met.P.Part.lawful c.args.dev.now) h.moved.goes.ran) c.evict.ensures.reads

pub returns-clause-reads : goal.returns-clause-reads
returns-clause-reads g c =
    let h = behind c.in_ok-chill_some.ensures.fits.1 c.in_ok-chill_some.ensures.ok.chills c.in_ok-entry.ensures.ok.0 in
    unsaved_then c.leaver.new.self (ap (λ (p : Provider). p.broken) h.memory ∙ c.requires.well) (reads_untouched (g.met.P.Part.lawful c.args.dev.now) h.moved.goes.ran) c.evict.ensures.reads
