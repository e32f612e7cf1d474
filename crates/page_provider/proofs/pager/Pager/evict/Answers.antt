use Rattle.std.proofs.Common.{◌≡◌, ◌∙◌, ◌<◌, sym, ap, subst, true≢false}
use Rattle.std.proofs.lemmas.Result.{err_from_is_err_and, IfErr-weaker, IfOk-weaker}
use Rattle.btree_descent.specs.rows_trait.Views.{Shape}
use Rattle.btree_descent.proofs.rows_trait.Runs.{ran_none}
use Rattle.page_provider.specs.Disks.{Disked}
use Rattle.page_provider.specs.Evicts.{HasLeft, HasStayed}
use Rattle.page_provider.specs.Inside.{HasCleared, HasGone}
use Rattle.page_provider.specs.Providers.{Provider}
use Rattle.page_provider.specs.declared.refusal.Refusal.{Refusal}
use Rattle.page_provider.proofs.Outcomes.{entry_within, stayed_broken, stayed_missed}
use Rattle.page_provider.proofs.Parts.{cause_none, cleared_left, disk_after, first_stayed, keeps_shape, leave_disk, seen, cause_row}
use Rattle.page_provider.proofs.Loaded.{spent_others}
use Rattle.page_provider.proofs.Savings.{entered_is, frame_is, if_err, is_found, left_clean}
use Rattle.page_provider.proofs.Writing.{disked_misses}
use Rattle.page_provider.proofs.Mirrored.{leave_mirrored, mirrored_after, mirrored_misses}
use Rattle.lean_disk.proofs.MomentLemmas.{framed}
use Rattle.page_provider.proofs.Framing.{within_none}
use Rattle.page_provider.proofs.Unwritten.{left_unsaved, reads_untouched, unsaved_then}
use Rattle.page_provider.proofs.Asks.{sized_of}
use Rattle.page_provider.proofs.pager.Pager.evict.Goals as goal

pub returns-then-self-clause-err : goal.returns-then-self-clause-err
returns-then-self-clause-err g c = stayed_broken c.requires.keeps c.requires.held (ap (λ (p : Provider). p.broken) (sym c.self.view_is) ∙ c.if-self.true)

pub returns-then-self-clause-disk : goal.returns-then-self-clause-disk
returns-then-self-clause-disk g c = disked_misses c.laws.ensures.disk (g.met.P.Part.lawful c.args.dev.now) (ran_none (g.R.Rows.shape c.args.rows.now).alone (g.R.Rows.view c.args.seat.now)) tt

pub unreachable-requires : goal.unreachable-requires
unreachable-requires g c = is_found c.self.view_is c.requires.keeps c.requires.leaves c.in_default.ensures

pub is_dirty-requires-clause-frame : goal.is_dirty-requires-clause-frame
is_dirty-requires-clause-frame g c =
    let e = entered_is c.self.view_is c.requires.keeps c.requires.leaves c.in-Some.ensures in
    subst (λ n. c.in-Some.entry.frame < n) (sym (c.frames.ensures ∙ ap (λ (p : Provider). p.frames) c.self.view_is)) (entry_within c.requires.keeps e.0)

pub returns-in_err-dirty-clause-err : goal.returns-in_err-dirty-clause-err
returns-in_err-dirty-clause-err g c =
    let z = g.R.Rows.shape c.args.rows.now in
    let v = g.R.Rows.view c.args.seat.now in
    let w = g.R.Rows.view c.is_dirty.new.seat in
    let p = err_from_is_err_and c.from_residual.result c.from_residual.ensures.1 in
    let p2 = p.2 in
    let why = c.in_err-dirty.field-0.0 in
    let e : why ≡ p.0 = cc in
    let f = entered_is c.self.view_is c.requires.keeps c.requires.leaves c.in-Some.ensures in
    let P : Refusal → Type 0 = λ q. HasStayed z v c.args.self.now c.args.page q w c.args.self.now in
    if_err c.from_residual.result p.0 P p.1 (subst P e (stayed_missed c.laws.ensures.rows c.requires.keeps c.requires.held (ran_none z.alone v) c.requires.held (frame_is c.requires.keeps f.0 f.1) c.in_err-dirty.ensures.err (spent_others c.in-Some.entry.frame v w why c.in_err-dirty.ensures.kind)))

pub returns-in_err-dirty-clause-disk : goal.returns-in_err-dirty-clause-disk
returns-in_err-dirty-clause-disk g c = let m = c.in_err-dirty.ensures.err in disked_misses c.laws.ensures.disk (g.met.P.Part.lawful c.args.dev.now) m.ran m.few

pub leave_dirty-requires-clause-keeps : goal.leave_dirty-requires-clause-keeps
leave_dirty-requires-clause-keeps g c =
    let e = entered_is c.self.view_is c.requires.keeps c.requires.leaves c.in-Some.ensures in
    keeps_shape c.in_ok-dirty.ensures.fits.1 (seen c.laws.ensures.rows c.requires.keeps c.requires.held c.requires.leaves e.0 e.1 c.in_ok-dirty.ensures.ok).keeps

pub leave_dirty-requires-clause-held : goal.leave_dirty-requires-clause-held
leave_dirty-requires-clause-held g c = c.in_ok-dirty.ensures.fits.2 ∙ c.requires.held

pub leave_dirty-requires-clause-entered : goal.leave_dirty-requires-clause-entered
leave_dirty-requires-clause-entered g c =
    let e = entered_is c.self.view_is c.requires.keeps c.requires.leaves c.in-Some.ensures in
    (seen c.laws.ensures.rows c.requires.keeps c.requires.held c.requires.leaves e.0 e.1 c.in_ok-dirty.ensures.ok).entered

pub leave_dirty-requires-clause-low : goal.leave_dirty-requires-clause-low
leave_dirty-requires-clause-low g c =
    let e = entered_is c.self.view_is c.requires.keeps c.requires.leaves c.in-Some.ensures in
    (seen c.laws.ensures.rows c.requires.keeps c.requires.held c.requires.leaves e.0 e.1 c.in_ok-dirty.ensures.ok).low

pub leave_dirty-requires-clause-dirty : goal.leave_dirty-requires-clause-dirty
leave_dirty-requires-clause-dirty g c =
    let e = entered_is c.self.view_is c.requires.keeps c.requires.leaves c.in-Some.ensures in
    (seen c.laws.ensures.rows c.requires.keeps c.requires.held c.requires.leaves e.0 e.1 c.in_ok-dirty.ensures.ok).now ∙ c.if-dirty.true

pub leave_dirty-requires-clause-well : goal.leave_dirty-requires-clause-well
leave_dirty-requires-clause-well g c = ap (λ (p : Provider). p.broken) (sym c.self.view_is) ∙ c.if-self.false

pub returns-then-dirty-clause-ok : goal.returns-then-dirty-clause-ok
returns-then-dirty-clause-ok g c =
    let e = entered_is c.self.view_is c.requires.keeps c.requires.leaves c.in-Some.ensures in
    let s = seen c.laws.ensures.rows c.requires.keeps c.requires.held c.requires.leaves e.0 e.1 c.in_ok-dirty.ensures.ok in
    let w = g.R.Rows.view c.leave_dirty.new.seat in
    let P : Unit {0} → Type 0 = λ _. HasCleared (g.R.Rows.shape c.is_dirty.new.rows) (g.R.Rows.view c.is_dirty.new.seat) c.args.self.now c.in-Some.entry w c.leave_dirty.new.self in
    let Q : Unit {0} → Type 0 = λ _. HasLeft (g.R.Rows.shape c.args.rows.now) (g.R.Rows.view c.args.seat.now) c.args.self.now c.args.page w c.leave_dirty.new.self in
    IfOk-weaker c.leave_dirty.result P Q (λ _ h. cleared_left s e.1 c.in_ok-dirty.ensures.fits.1 c.if-dirty.true h) c.leave_dirty.ensures.ok

pub returns-then-dirty-clause-err : goal.returns-then-dirty-clause-err
returns-then-dirty-clause-err g c =
    let e = entered_is c.self.view_is c.requires.keeps c.requires.leaves c.in-Some.ensures in
    let s = seen c.laws.ensures.rows c.requires.keeps c.requires.held c.requires.leaves e.0 e.1 c.in_ok-dirty.ensures.ok in
    let w = g.R.Rows.view c.leave_dirty.new.seat in
    let P : Refusal → Type 0 = λ why. HasStayed (g.R.Rows.shape c.is_dirty.new.rows) (g.R.Rows.view c.is_dirty.new.seat) c.args.self.now c.in-Some.entry.page why w c.leave_dirty.new.self in
    let Q : Refusal → Type 0 = λ why. HasStayed (g.R.Rows.shape c.args.rows.now) (g.R.Rows.view c.args.seat.now) c.args.self.now c.args.page why w c.leave_dirty.new.self in
    IfErr-weaker c.leave_dirty.result P Q (λ why h. first_stayed s e.1 c.in_ok-dirty.ensures.fits.1 h) c.leave_dirty.ensures.err

pub returns-then-dirty-clause-disk : goal.returns-then-dirty-clause-disk
returns-then-dirty-clause-disk g c =
    let u = g.R.Rows.view c.is_dirty.new.seat in
    let w = g.R.Rows.view c.leave_dirty.new.seat in
    disk_after c.laws.ensures.disk (g.met.P.Part.lawful c.args.dev.now) (ap (λ (p : Provider). p.broken) (sym c.self.view_is) ∙ c.if-self.false) c.in_ok-dirty.ensures.ok.ran
    (subst (λ (s : Shape). Disked s.alone c.args.self.now u c.leave_dirty.new.self w (g.P.Part.story c.args.dev.now) (g.P.Part.story c.leave_dirty.new.dev)) c.in_ok-dirty.ensures.fits.1 c.leave_dirty.ensures.disk)

pub leave-requires-clause-keeps : goal.leave-requires-clause-keeps
leave-requires-clause-keeps g c =
    let e = entered_is c.self.view_is c.requires.keeps c.requires.leaves c.in-Some.ensures in
    keeps_shape c.in_ok-dirty.ensures.fits.1 (seen c.laws.ensures.rows c.requires.keeps c.requires.held c.requires.leaves e.0 e.1 c.in_ok-dirty.ensures.ok).keeps

pub leave-requires-clause-held : goal.leave-requires-clause-held
leave-requires-clause-held g c = c.in_ok-dirty.ensures.fits.2 ∙ c.requires.held

pub leave-requires-clause-entered : goal.leave-requires-clause-entered
leave-requires-clause-entered g c =
    let e = entered_is c.self.view_is c.requires.keeps c.requires.leaves c.in-Some.ensures in
    (seen c.laws.ensures.rows c.requires.keeps c.requires.held c.requires.leaves e.0 e.1 c.in_ok-dirty.ensures.ok).entered

pub leave-requires-clause-clean : goal.leave-requires-clause-clean
leave-requires-clause-clean g c =
    let e = entered_is c.self.view_is c.requires.keeps c.requires.leaves c.in-Some.ensures in
    (seen c.laws.ensures.rows c.requires.keeps c.requires.held c.requires.leaves e.0 e.1 c.in_ok-dirty.ensures.ok).now ∙ c.if-dirty.false

pub returns-clause-ok : goal.returns-clause-ok
returns-clause-ok g c =
    let u = g.R.Rows.view c.is_dirty.new.seat in
    let w = g.R.Rows.view c.leave.new.seat in
    let e = entered_is c.self.view_is c.requires.keeps c.requires.leaves c.in-Some.ensures in
    let s = seen c.laws.ensures.rows c.requires.keeps c.requires.held c.requires.leaves e.0 e.1 c.in_ok-dirty.ensures.ok in
    let P : Unit {0} → Type 0 = λ _. HasGone (g.R.Rows.shape c.is_dirty.new.rows) u c.args.self.now c.in-Some.entry w c.leave.new.self in
    let Q : Unit {0} → Type 0 = λ _. HasLeft (g.R.Rows.shape c.args.rows.now) (g.R.Rows.view c.args.seat.now) c.args.self.now c.args.page w c.leave.new.self in
    IfOk-weaker c.leave.result P Q (λ _ h. left_clean e.1 s.ran s.frame (s.before ∙ c.if-dirty.false)
    (subst (λ (q : Shape). HasGone q u c.args.self.now c.in-Some.entry w c.leave.new.self) c.in_ok-dirty.ensures.fits.1 h)) c.leave.ensures.ok

pub returns-clause-err : goal.returns-clause-err
returns-clause-err g c =
    let e = entered_is c.self.view_is c.requires.keeps c.requires.leaves c.in-Some.ensures in
    let s = seen c.laws.ensures.rows c.requires.keeps c.requires.held c.requires.leaves e.0 e.1 c.in_ok-dirty.ensures.ok in
    let w = g.R.Rows.view c.leave.new.seat in
    let P : Refusal → Type 0 = λ why. HasStayed (g.R.Rows.shape c.is_dirty.new.rows) (g.R.Rows.view c.is_dirty.new.seat) c.args.self.now c.in-Some.entry.page why w c.leave.new.self in
    let Q : Refusal → Type 0 = λ why. HasStayed (g.R.Rows.shape c.args.rows.now) (g.R.Rows.view c.args.seat.now) c.args.self.now c.args.page why w c.leave.new.self in
    IfErr-weaker c.leave.result P Q (λ why h. first_stayed s e.1 c.in_ok-dirty.ensures.fits.1 h) c.leave.ensures.err

pub returns-clause-disk : goal.returns-clause-disk
returns-clause-disk g c =
    let law = g.met.P.Part.lawful c.args.dev.now in
    let e = entered_is c.self.view_is c.requires.keeps c.requires.leaves c.in-Some.ensures in
    let s = seen c.laws.ensures.rows c.requires.keeps c.requires.held c.requires.leaves e.0 e.1 c.in_ok-dirty.ensures.ok in
    disk_after c.laws.ensures.disk law (ap (λ (p : Provider). p.broken) (sym c.self.view_is) ∙ c.if-self.false) s.ran
    (leave_disk c.in-Some.entry c.laws.ensures.disk law c.in_ok-dirty.ensures.fits.1 (s.now ∙ c.if-dirty.false) c.leave.result c.leave.ensures.ok c.leave.ensures.err c.leave.ensures.same)

pub returns-clause-cause : goal.returns-clause-cause
returns-clause-cause g c = cause_none c.leave.ensures.device

pub returns-in_err-dirty-clause-earlier : goal.returns-in_err-dirty-clause-earlier
returns-in_err-dirty-clause-earlier g c = λ b. absurd (true≢false (sym b ∙ (ap (λ (p : Provider). p.broken) (sym c.self.view_is) ∙ c.if-self.false)))

pub returns-then-dirty-clause-earlier : goal.returns-then-dirty-clause-earlier
returns-then-dirty-clause-earlier g c = λ b. absurd (true≢false (sym b ∙ (ap (λ (p : Provider). p.broken) (sym c.self.view_is) ∙ c.if-self.false)))

pub returns-clause-earlier : goal.returns-clause-earlier
returns-clause-earlier g c = λ b. absurd (true≢false (sym b ∙ (ap (λ (p : Provider). p.broken) (sym c.self.view_is) ∙ c.if-self.false)))

pub returns-then-self-clause-mirrors : goal.returns-then-self-clause-mirrors
returns-then-self-clause-mirrors g c = λ m well. m

pub returns-in_err-dirty-clause-mirrors : goal.returns-in_err-dirty-clause-mirrors
returns-in_err-dirty-clause-mirrors g c = let m = c.in_err-dirty.ensures.err in mirrored_misses c.requires.keeps m.ran m.few

pub returns-then-dirty-clause-mirrors : goal.returns-then-dirty-clause-mirrors
returns-then-dirty-clause-mirrors g c = mirrored_after c.requires.keeps c.in_ok-dirty.ensures.ok.ran c.leave_dirty.ensures.mirrors

pub returns-clause-mirrors : goal.returns-clause-mirrors
returns-clause-mirrors g c =
    let e = entered_is c.self.view_is c.requires.keeps c.requires.leaves c.in-Some.ensures in
    let s = seen c.laws.ensures.rows c.requires.keeps c.requires.held c.requires.leaves e.0 e.1 c.in_ok-dirty.ensures.ok in
    mirrored_after c.requires.keeps s.ran
    (leave_mirrored c.in-Some.entry (keeps_shape c.in_ok-dirty.ensures.fits.1 s.keeps) (s.now ∙ c.if-dirty.false) c.leave.result c.leave.ensures.ok c.leave.ensures.err c.leave.ensures.same)

pub returns-then-self-clause-frame : goal.returns-then-self-clause-frame
returns-then-self-clause-frame g c = framed 1 (g.P.Part.story c.args.dev.now)

pub returns-in_err-dirty-clause-frame : goal.returns-in_err-dirty-clause-frame
returns-in_err-dirty-clause-frame g c = framed 1 (g.P.Part.story c.args.dev.now)

pub returns-clause-frame : goal.returns-clause-frame
returns-clause-frame g c = framed 1 (g.P.Part.story c.args.dev.now)

pub returns-then-self-clause-within : goal.returns-then-self-clause-within
returns-then-self-clause-within g c = within_none (g.met.P.Part.lawful c.args.dev.now)

pub returns-in_err-dirty-clause-within : goal.returns-in_err-dirty-clause-within
returns-in_err-dirty-clause-within g c = within_none (g.met.P.Part.lawful c.args.dev.now)

pub returns-clause-within : goal.returns-clause-within
returns-clause-within g c = within_none (g.met.P.Part.lawful c.args.dev.now)

pub returns-then-self-clause-reads : goal.returns-then-self-clause-reads
returns-then-self-clause-reads g c = reads_untouched (g.met.P.Part.lawful c.args.dev.now) (ran_none (g.R.Rows.shape c.args.rows.now).alone (g.R.Rows.view c.args.seat.now))

pub returns-in_err-dirty-clause-reads : goal.returns-in_err-dirty-clause-reads
returns-in_err-dirty-clause-reads g c = reads_untouched (g.met.P.Part.lawful c.args.dev.now) c.in_err-dirty.ensures.err.ran

pub returns-then-dirty-clause-reads : goal.returns-then-dirty-clause-reads
returns-then-dirty-clause-reads g c = unsaved_then c.args.self.now (ap (λ (p : Provider). p.broken) (sym c.self.view_is) ∙ c.if-self.false) (reads_untouched (g.met.P.Part.lawful c.args.dev.now) c.in_ok-dirty.ensures.ok.ran) c.leave_dirty.ensures.reads

pub returns-clause-reads : goal.returns-clause-reads
returns-clause-reads g c =
    let law = g.met.P.Part.lawful c.args.dev.now in
    unsaved_then c.args.self.now (ap (λ (p : Provider). p.broken) (sym c.self.view_is) ∙ c.if-self.false) (reads_untouched law c.in_ok-dirty.ensures.ok.ran) (left_unsaved (g.R.Rows.shape c.is_dirty.new.rows) c.args.self.now c.in-Some.entry law c.leave.result c.leave.ensures.ok c.leave.ensures.err)

pub is_dirty-requires-clause-sized : goal.is_dirty-requires-clause-sized
is_dirty-requires-clause-sized g c = sized_of c.requires.keeps (c.frames.ensures ∙ ap (λ (p : Provider). p.frames) c.self.view_is)

pub returns-in_err-dirty-clause-cause : goal.returns-in_err-dirty-clause-cause
returns-in_err-dirty-clause-cause g c =
    let p = err_from_is_err_and c.from_residual.result c.from_residual.ensures.1 in
    let p2 = p.2 in
    let why = c.in_err-dirty.field-0.0 in
    let e : why ≡ p.0 = cc in
    cause_row c.from_residual.result p.1 e c.in_err-dirty.ensures.err.kind

pub leave_dirty-requires-clause-fits : goal.leave_dirty-requires-clause-fits
leave_dirty-requires-clause-fits g c = c.in_ok-dirty.ensures.fits.0

pub leave-requires-clause-fits : goal.leave-requires-clause-fits
leave-requires-clause-fits g c = c.in_ok-dirty.ensures.fits.0

pub returns-then-dirty-clause-fits : goal.returns-then-dirty-clause-fits
returns-then-dirty-clause-fits g c = let o = c.in_ok-dirty.ensures.fits in let e = c.leave_dirty.ensures.fits in (e.0, e.1 ∙ o.1)

pub returns-clause-fits : goal.returns-clause-fits
returns-clause-fits g c = let o = c.in_ok-dirty.ensures.fits in let e = c.leave.ensures.fits in (e.0, e.1 ∙ o.1)
