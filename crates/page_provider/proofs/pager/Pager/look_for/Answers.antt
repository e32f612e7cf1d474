use Rattle.std.proofs.Common.{◌≡◌, ◌∙◌, ℕ, Option, sym, ap, subst}
use Rattle.std.proofs.lemmas.Result.{err_from_is_err_and, IfErr-weaker, IfOk-weaker}
use Rattle.btree_descent.specs.row_words.declared.given.Given.{Given}
use Rattle.btree_descent.specs.rows_trait.Views.{Shape}
use Rattle.page_provider.specs.Disks.{Disked}
use Rattle.page_provider.specs.Ends.{HasRefused}
use Rattle.page_provider.specs.Faults.{ColdCause, FaultCause, Faulted, IsDescent, LeadsTo}
use Rattle.page_provider.specs.Finds.{NamedIn, Standing}
use Rattle.page_provider.specs.Inside.{Missed}
use Rattle.page_provider.specs.Providers.{Provider}
use Rattle.page_provider.specs.declared.refusal.Refusal.{Refusal}
use Rattle.page_provider.proofs.Faulting.{cause_before, cold_of, descent_on, faulted_before, gives_on, leads_on, missed_refused, named_on, no_astray, refused_before, settled, settled_disk, stood_look, unsettled}
use Rattle.page_provider.proofs.Keeping.{keeps_ran}
use Rattle.page_provider.proofs.Losses.{cold_before, cold_row}
use Rattle.page_provider.proofs.Parts.{disk_after, keeps_shape}
use Rattle.page_provider.proofs.Savings.{if_err}
use Rattle.page_provider.proofs.Sightings.{sound_still}
use Rattle.page_provider.proofs.Mirrored.{mirrored_after, mirrored_misses, settled_mirrored}
use Rattle.lean_disk.proofs.MomentLemmas.{framed}
use Rattle.page_provider.proofs.Framing.{within_none}
use Rattle.page_provider.proofs.Unwritten.{reads_untouched, settled_unsaved, unsaved_then}
use Rattle.page_provider.proofs.pager.Pager.look_for.Goals as goal

pub returns-in_err-named-clause-err : goal.returns-in_err-named-clause-err
returns-in_err-named-clause-err g c =
    let z = g.R.Rows.shape c.args.rows.now in
    let v = g.R.Rows.view c.args.seat.now in
    let w = g.R.Rows.view c.named.new.seat in
    let p = err_from_is_err_and c.from_residual.result c.from_residual.ensures.1 in
    let p2 = p.2 in
    let why = c.in_err-named.field-0.0 in
    let e : why ≡ p.0 = cc in
    let P : Refusal → Type 0 = λ q. HasRefused 5 z c.args.path.now v c.args.self.now q w c.args.self.now in
    if_err c.from_residual.result p.0 P p.1 (subst P e (missed_refused c.laws.ensures.rows c.requires.keeps c.requires.held c.in_err-named.ensures.err))

pub standing-requires-clause-sound : goal.standing-requires-clause-sound
standing-requires-clause-sound g c = sound_still (g.R.Rows.view c.args.seat.now) (g.R.Rows.view c.named.new.seat) c.in_ok-named.ensures.kept.ran.given c.requires.keeps.sound

pub returns-in_default-clause-ok : goal.returns-in_default-clause-ok
returns-in_default-clause-ok g c =
    let z = g.R.Rows.shape c.args.rows.now in
    let v = g.R.Rows.view c.args.seat.now in
    let u = g.R.Rows.view c.named.new.seat in
    let w = g.R.Rows.view c.standing.new.seat in
    let o = c.in_ok-named.ensures in
    let names = subst (λ (x : Option ℕ). NamedIn z v c.frames-frames.result c.from.result x u) c.in_default.is o.ok in
    let P : Option ℕ → Type 0 = λ come. Standing (g.R.Rows.shape c.named.new.rows) u c.args.page come w in
    let Q : Option ℕ → Type 0 = λ come. Faulted 5 z c.args.path.now v c.args.self.now c.args.page come w c.args.self.now in
    IfOk-weaker c.standing.result P Q (λ come h. settled w c.args.page c.args.path.now c.laws.ensures.rows c.requires.keeps c.requires.held o.fits.1 o.kept c.standing.ensures.fits.2 (c.frames-frames.ensures ∙ ap (λ (k : Provider). k.frames) c.self.view_is) c.from.ensures c.requires.below c.requires.used names come h) c.standing.ensures.ok

pub returns-in_default-clause-err : goal.returns-in_default-clause-err
returns-in_default-clause-err g c =
    let z = g.R.Rows.shape c.args.rows.now in
    let v = g.R.Rows.view c.args.seat.now in
    let u = g.R.Rows.view c.named.new.seat in
    let w = g.R.Rows.view c.standing.new.seat in
    let o = c.in_ok-named.ensures in
    let P : Refusal → Type 0 = λ why. Missed (g.R.Rows.shape c.named.new.rows) u why w in
    let Q : Refusal → Type 0 = λ why. HasRefused 5 z c.args.path.now v c.args.self.now why w c.args.self.now in
    IfErr-weaker c.standing.result P Q (λ why h. unsettled w c.args.page c.args.path.now c.laws.ensures.rows c.requires.keeps c.requires.held o.fits.1 o.kept why h) c.standing.ensures.err

pub returns-in_default-clause-disk : goal.returns-in_default-clause-disk
returns-in_default-clause-disk g c =
    let o = c.in_ok-named.ensures in
    settled_disk (g.R.Rows.view c.standing.new.seat) c.args.page c.args.path.now c.laws.ensures.rows c.requires.keeps c.requires.held o.fits.1 o.kept c.laws.ensures.disk (g.met.P.Part.lawful c.args.dev.now) c.standing.result c.standing.ensures.ok c.standing.ensures.err

pub bring-requires-clause-keeps : goal.bring-requires-clause-keeps
bring-requires-clause-keeps g c = let laws = c.laws.ensures.rows in let o = c.in_ok-named.ensures in keeps_shape o.fits.1 (keeps_ran laws.stood laws.standing tt o.kept.ran c.requires.keeps)

pub bring-requires-clause-cold : goal.bring-requires-clause-cold
bring-requires-clause-cold g c =
    let z = g.R.Rows.shape c.args.rows.now in
    let v = g.R.Rows.view c.args.seat.now in
    let u = g.R.Rows.view c.named.new.seat in
    let laws = c.laws.ensures.rows in
    let o = c.in_ok-named.ensures in
    let n = named_on laws c.requires.keeps c.requires.below c.from.ensures o.kept.ran (subst (λ (x : Option ℕ). NamedIn z v c.frames-frames.result c.from.result x u) c.in-Some.is o.ok).2 in
    cold_of c.args.page laws (keeps_ran laws.stood laws.standing tt o.kept.ran c.requires.keeps) c.requires.absent n.off

pub bring-requires-clause-parent : goal.bring-requires-clause-parent
bring-requires-clause-parent g c =
    let z = g.R.Rows.shape c.args.rows.now in
    let v = g.R.Rows.view c.args.seat.now in
    let u = g.R.Rows.view c.named.new.seat in
    let o = c.in_ok-named.ensures in
    let n = named_on c.laws.ensures.rows c.requires.keeps c.requires.below c.from.ensures o.kept.ran (subst (λ (x : Option ℕ). NamedIn z v c.frames-frames.result c.from.result x u) c.in-Some.is o.ok).2 in
    λ only. n.parent

pub bring-requires-clause-descent : goal.bring-requires-clause-descent
bring-requires-clause-descent g c = let o = c.in_ok-named.ensures in subst (λ (s : Shape). IsDescent s (g.R.Rows.view c.named.new.seat) c.args.path.now) (sym o.fits.1) (descent_on (g.R.Rows.shape c.args.rows.now) o.kept.ran c.requires.descent)

pub bring-requires-clause-leads : goal.bring-requires-clause-leads
bring-requires-clause-leads g c = let o = c.in_ok-named.ensures in subst (λ (s : Shape). LeadsTo s (g.R.Rows.view c.named.new.seat) c.args.path.now c.args.page) (sym o.fits.1) (leads_on (g.R.Rows.shape c.args.rows.now) o.kept.ran c.args.path.now c.args.page c.requires.leads)

pub bring-requires-clause-gives : goal.bring-requires-clause-gives
bring-requires-clause-gives g c =
    let z = g.R.Rows.shape c.args.rows.now in
    let r = c.in_ok-named.ensures.kept.ran in
    let laws = c.laws.ensures.rows in
    λ faithful cold. gives_on z r laws c.requires.keeps (c.requires.gives (ap (λ (g : Given). g.faithful) (sym r.given) ∙ faithful) (sym ((stood_look z r laws c.requires.keeps).cold c.args.page) ∙ cold))

pub returns-clause-ok : goal.returns-clause-ok
returns-clause-ok g c =
    let z = g.R.Rows.shape c.args.rows.now in
    let y = g.R.Rows.shape c.named.new.rows in
    let v = g.R.Rows.view c.args.seat.now in
    let u = g.R.Rows.view c.named.new.seat in
    let w = g.R.Rows.view c.bring.new.seat in
    let o = c.in_ok-named.ensures in
    let P : Option ℕ → Type 0 = λ come. Faulted 5 y c.args.path.now u c.args.self.now c.args.page come w c.bring.new.self in
    let Q : Option ℕ → Type 0 = λ come. Faulted 5 z c.args.path.now v c.args.self.now c.args.page come w c.bring.new.self in
    IfOk-weaker c.bring.result P Q (λ come h. faulted_before z o.kept.ran c.laws.ensures.rows c.requires.keeps 5 c.args.path.now c.args.page w c.bring.new.self c.requires.held o.kept.held come (subst (λ (s : Shape). Faulted 5 s c.args.path.now u c.args.self.now c.args.page come w c.bring.new.self) o.fits.1 h)) c.bring.ensures.ok

pub returns-clause-err : goal.returns-clause-err
returns-clause-err g c =
    let z = g.R.Rows.shape c.args.rows.now in
    let y = g.R.Rows.shape c.named.new.rows in
    let v = g.R.Rows.view c.args.seat.now in
    let u = g.R.Rows.view c.named.new.seat in
    let w = g.R.Rows.view c.bring.new.seat in
    let o = c.in_ok-named.ensures in
    let P : Refusal → Type 0 = λ why. HasRefused 5 y c.args.path.now u c.args.self.now why w c.bring.new.self in
    let Q : Refusal → Type 0 = λ why. HasRefused 5 z c.args.path.now v c.args.self.now why w c.bring.new.self in
    IfErr-weaker c.bring.result P Q (λ why h. refused_before z o.kept.ran c.laws.ensures.rows c.requires.keeps c.requires.held o.kept.held (subst (λ (s : Shape). HasRefused 5 s c.args.path.now u c.args.self.now why w c.bring.new.self) o.fits.1 h)) c.bring.ensures.err

pub returns-clause-disk : goal.returns-clause-disk
returns-clause-disk g c =
    let u = g.R.Rows.view c.named.new.seat in
    let w = g.R.Rows.view c.bring.new.seat in
    let o = c.in_ok-named.ensures in
    disk_after c.laws.ensures.disk (g.met.P.Part.lawful c.args.dev.now) c.requires.well o.kept.ran
    (subst (λ (s : Shape). Disked s.alone c.args.self.now u c.bring.new.self w (g.P.Part.story c.args.dev.now) (g.P.Part.story c.bring.new.dev)) o.fits.1 c.bring.ensures.disk)

pub returns-clause-astray : goal.returns-clause-astray
returns-clause-astray g c =
    let z = g.R.Rows.shape c.args.rows.now in
    let v = g.R.Rows.view c.args.seat.now in
    let u = g.R.Rows.view c.named.new.seat in
    let o = c.in_ok-named.ensures in
    let n = named_on c.laws.ensures.rows c.requires.keeps c.requires.below c.from.ensures o.kept.ran (subst (λ (x : Option ℕ). NamedIn z v c.frames-frames.result c.from.result x u) c.in-Some.is o.ok).2 in
    λ only a. no_astray z o.kept.ran n only a

pub returns-in_err-named-clause-mirrors : goal.returns-in_err-named-clause-mirrors
returns-in_err-named-clause-mirrors g c = let m = c.in_err-named.ensures.err in mirrored_misses c.requires.keeps m.ran m.few

pub returns-in_default-clause-mirrors : goal.returns-in_default-clause-mirrors
returns-in_default-clause-mirrors g c =
    let o = c.in_ok-named.ensures in
    settled_mirrored c.args.page c.requires.keeps o.fits.1 o.kept c.standing.result c.standing.ensures.ok c.standing.ensures.err

pub returns-clause-mirrors : goal.returns-clause-mirrors
returns-clause-mirrors g c = mirrored_after c.requires.keeps c.in_ok-named.ensures.kept.ran c.bring.ensures.mirrors

pub returns-in_err-named-clause-frame : goal.returns-in_err-named-clause-frame
returns-in_err-named-clause-frame g c = framed 1 (g.P.Part.story c.args.dev.now)

pub returns-in_default-clause-frame : goal.returns-in_default-clause-frame
returns-in_default-clause-frame g c = framed 1 (g.P.Part.story c.args.dev.now)

pub returns-in_err-named-clause-within : goal.returns-in_err-named-clause-within
returns-in_err-named-clause-within g c = within_none (g.met.P.Part.lawful c.args.dev.now)

pub returns-in_default-clause-within : goal.returns-in_default-clause-within
returns-in_default-clause-within g c = within_none (g.met.P.Part.lawful c.args.dev.now)

pub returns-in_err-named-clause-reads : goal.returns-in_err-named-clause-reads
returns-in_err-named-clause-reads g c = reads_untouched (g.met.P.Part.lawful c.args.dev.now) c.in_err-named.ensures.err.ran

pub returns-in_default-clause-reads : goal.returns-in_default-clause-reads
returns-in_default-clause-reads g c =
    let o = c.in_ok-named.ensures in
    settled_unsaved c.args.page (g.met.P.Part.lawful c.args.dev.now) o.fits.1 o.kept c.standing.result c.standing.ensures.ok c.standing.ensures.err

pub returns-clause-reads : goal.returns-clause-reads
returns-clause-reads g c = unsaved_then c.args.self.now c.requires.well (reads_untouched (g.met.P.Part.lawful c.args.dev.now) c.in_ok-named.ensures.kept.ran) c.bring.ensures.reads

pub returns-clause-cause : goal.returns-clause-cause
returns-clause-cause g c =
    let z = g.R.Rows.shape c.args.rows.now in
    let y = g.R.Rows.shape c.named.new.rows in
    let v = g.R.Rows.view c.args.seat.now in
    let u = g.R.Rows.view c.named.new.seat in
    let w = g.R.Rows.view c.bring.new.seat in
    let k = c.args.self.now in
    let is = c.bring.new.self in
    let s = g.P.Part.story c.args.dev.now in
    let o = c.in_ok-named.ensures in
    let P : Refusal → Type 0 = λ why. FaultCause y c.args.path.now u k c.args.page s w is why in
    let Q : Refusal → Type 0 = λ why. FaultCause z c.args.path.now v k c.args.page s w is why in
    IfErr-weaker c.bring.result P Q (λ why h. cause_before z o.kept.ran c.args.path.now k is c.args.page s w why (subst (λ (x : Shape). FaultCause x c.args.path.now u k c.args.page s w is why) o.fits.1 h)) c.bring.ensures.cause

-- ## A page that could not be read

pub returns-in_err-named-clause-cold : goal.returns-in_err-named-clause-cold
returns-in_err-named-clause-cold g c =
    let v = g.R.Rows.view c.args.seat.now in
    let p = err_from_is_err_and c.from_residual.result c.from_residual.ensures.1 in
    let p2 = p.2 in
    let why = c.in_err-named.field-0.0 in
    let e : why ≡ p.0 = cc in
    let P : Refusal → Type 0 = ColdCause v c.args.page in
    if_err c.from_residual.result p.0 P p.1 (subst P e (cold_row v c.args.page why c.in_err-named.ensures.err.kind))

pub returns-in_default-clause-cold : goal.returns-in_default-clause-cold
returns-in_default-clause-cold g c =
    let v = g.R.Rows.view c.args.seat.now in
    let u = g.R.Rows.view c.named.new.seat in
    let w = g.R.Rows.view c.standing.new.seat in
    let P : Refusal → Type 0 = λ why. Missed (g.R.Rows.shape c.named.new.rows) u why w in
    IfErr-weaker c.standing.result P (ColdCause v c.args.page) (λ why h. cold_row v c.args.page why h.kind) c.standing.ensures.err

pub returns-clause-cold : goal.returns-clause-cold
returns-clause-cold g c =
    let z = g.R.Rows.shape c.args.rows.now in
    let v = g.R.Rows.view c.args.seat.now in
    let u = g.R.Rows.view c.named.new.seat in
    let same = (stood_look z c.in_ok-named.ensures.kept.ran c.laws.ensures.rows c.requires.keeps).cold c.args.page in
    IfErr-weaker c.bring.result (ColdCause u c.args.page) (ColdCause v c.args.page) (cold_before v u c.args.page same) c.bring.ensures.cold
