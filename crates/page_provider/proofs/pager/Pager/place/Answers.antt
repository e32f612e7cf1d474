use Rattle.std.proofs.Common.{◌≡◌, ◌≤◌, ◌∙◌, ℕ, Option, arith, subst}
use Rattle.std.proofs.lemmas.Result.{IfOk-weaker, err_from_is_err_and}
use Rattle.btree_descent.specs.rows_trait.Views.{Shape}
use Rattle.page_provider.specs.Comes.{Fills, IsUnseen, PlaceCause}
use Rattle.page_provider.specs.Ends.{HasRefused}
use Rattle.page_provider.specs.Faults.{Faulted}
use Rattle.page_provider.specs.Finds.{Halts}
use Rattle.page_provider.specs.declared.refusal.Refusal.{Refusal}
use Rattle.page_provider.proofs.Filling.{faulted_then, halts_fault, refused_behind, room_cause}
use Rattle.page_provider.proofs.Moving.{refused_up}
use Rattle.page_provider.proofs.Parts.{cause_to, err_to}
use Rattle.page_provider.proofs.Placing.{unseen_disk}
use Rattle.page_provider.proofs.Running.{disked_then}
use Rattle.page_provider.proofs.Savings.{if_err}
use Rattle.page_provider.proofs.Mirrored.{mirrored_then, mirrored_unseen}
use Rattle.page_provider.proofs.Unwritten.{reads_untouched, unsaved_then}
use Rattle.page_provider.proofs.pager.Pager.place.Goals as goal

pub returns-in_err-frame-clause-err : goal.returns-in_err-frame-clause-err
returns-in_err-frame-clause-err g c =
    let z = g.R.Rows.shape c.args.rows.now in
    let v = g.R.Rows.view c.args.seat.now in
    let w = g.R.Rows.view c.room.new.seat in
    let p = err_from_is_err_and c.from_residual.result c.from_residual.ensures.1 in
    let p2 = p.2 in
    let why = c.in_err-frame.field-0.0 in
    let e : why ≡ p.0 = cc in
    let P : Refusal → Type 0 = λ q. HasRefused 4 z c.args.path.now v c.args.self.now q w c.room.new.self in
    if_err c.from_residual.result p.0 P p.1 (subst P e (refused_up (let few : 3 ≤ 4 = omega arith in few) c.in_err-frame.ensures.err))

pub returns-in_err-frame-clause-cause : goal.returns-in_err-frame-clause-cause
returns-in_err-frame-clause-cause g c =
    let z = g.R.Rows.shape c.args.rows.now in
    let v = g.R.Rows.view c.args.seat.now in
    let w = g.R.Rows.view c.room.new.seat in
    let p = err_from_is_err_and c.from_residual.result c.from_residual.ensures.1 in
    let p2 = p.2 in
    let why = c.in_err-frame.field-0.0 in
    let e : why ≡ p.0 = cc in
    let P : Refusal → Type 0 = PlaceCause z c.args.path.now v c.args.page w c.room.new.self in
    let o = c.in_err-frame.ensures in
    if_err c.from_residual.result p.0 P p.1 (subst P e (room_cause z c.args.path.now c.args.page v w c.room.new.self why o.kind o.full o.cold c.requires.contents.cold))

pub returns-clause-ok : goal.returns-clause-ok
returns-clause-ok g c =
    let z = g.R.Rows.shape c.args.rows.now in
    let v = g.R.Rows.view c.args.seat.now in
    let u = g.R.Rows.view c.room.new.seat in
    let w = g.R.Rows.view c.fill.new.seat in
    let mid = c.room.new.self in
    let is = c.fill.new.self in
    let P : Option ℕ → Type 0 = λ come. Fills (g.R.Rows.shape c.room.new.rows) c.args.path.now u mid c.args.page come w is in
    let Q : Option ℕ → Type 0 = λ come. Faulted 4 z c.args.path.now v c.args.self.now c.args.page come w is in
    IfOk-weaker c.fill.result P Q (λ come h. faulted_then c.laws.ensures.rows c.requires.keeps c.in_ok-frame.ensures.ok w is c.requires.contents c.requires.leads c.requires.parent come
    (subst (λ (s : Shape). Fills s c.args.path.now u mid c.args.page come w is) c.in_ok-frame.ensures.fits.1 h)) c.fill.ensures.ok

pub returns-clause-err : goal.returns-clause-err
returns-clause-err g c =
    let z = g.R.Rows.shape c.args.rows.now in
    let v = g.R.Rows.view c.args.seat.now in
    let u = g.R.Rows.view c.room.new.seat in
    let w = g.R.Rows.view c.fill.new.seat in
    let mid = c.room.new.self in
    let is = c.fill.new.self in
    let P : Refusal → Type 0 = λ why. Halts 2 (g.R.Rows.shape c.room.new.rows) u why w in
    let Q : Refusal → Type 0 = λ why. HasRefused 4 z c.args.path.now v c.args.self.now why w is in
    err_to P Q c.fill.result (λ why same h. refused_behind c.laws.ensures.rows c.requires.keeps c.in_ok-frame.ensures.ok same (subst (λ (s : Shape). Halts 2 s u why w) c.in_ok-frame.ensures.fits.1 h)) c.fill.ensures.same c.fill.ensures.err

pub returns-clause-disk : goal.returns-clause-disk
returns-clause-disk g c =
    let z = g.R.Rows.shape c.args.rows.now in
    let u = g.R.Rows.view c.room.new.seat in
    let w = g.R.Rows.view c.fill.new.seat in
    let unseen = subst (λ (s : Shape). IsUnseen s.alone u c.room.new.self w c.fill.new.self) c.in_ok-frame.ensures.fits.1 c.fill.ensures.unseen in
    disked_then c.laws.ensures.disk (c.in_ok-frame.ensures.ok.broken ∙ c.requires.well) c.in_ok-frame.ensures.disk (unseen_disk c.laws.ensures.disk (g.met.P.Part.lawful c.room.new.dev) unseen)

pub returns-clause-mirrors : goal.returns-clause-mirrors
returns-clause-mirrors g c =
    let u = g.R.Rows.view c.room.new.seat in
    let w = g.R.Rows.view c.fill.new.seat in
    let unseen = subst (λ (s : Shape). IsUnseen s.alone u c.room.new.self w c.fill.new.self) c.in_ok-frame.ensures.fits.1 c.fill.ensures.unseen in
    mirrored_then (c.in_ok-frame.ensures.ok.broken ∙ c.requires.well) c.in_ok-frame.ensures.mirrors (mirrored_unseen c.in_ok-frame.ensures.ok.moved.goes.keeps unseen)

pub returns-clause-cause_disk_fault : goal.returns-clause-cause_disk_fault
returns-clause-cause_disk_fault g c =
    let u = g.R.Rows.view c.room.new.seat in
    let w = g.R.Rows.view c.fill.new.seat in
    let P : Refusal → Type 0 = λ why. Halts 2 (g.R.Rows.shape c.room.new.rows) u why w in
    cause_to c.in_ok-frame.ensures.cause (λ e. cc) (halts_fault P (λ why h. h.stopped.kind) c.fill.result c.fill.ensures.err)

pub returns-clause-reads : goal.returns-clause-reads
returns-clause-reads g c = unsaved_then c.room.new.self (c.in_ok-frame.ensures.ok.broken ∙ c.requires.well) c.in_ok-frame.ensures.reads (reads_untouched (g.met.P.Part.lawful c.room.new.dev) c.fill.ensures.unseen.ran)
