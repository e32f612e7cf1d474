use Rattle.std.proofs.Common.{◌≡◌, ◌∙◌, ◌<◌, ℕ, Option, length, refl, sym, arith, ap, subst}
use Rattle.std.proofs.lemmas.Result.{IfErr-weaker, IfOk-weaker, err_from_is_err_and}
use Rattle.page_model.specs.Page.{Page}
use Rattle.btree_descent.specs.rows_trait.Views.{Shape}
use Rattle.page_provider.specs.Comes.{HasContents, PlaceCause}
use Rattle.page_provider.specs.Disks.{Disked}
use Rattle.page_provider.specs.Ends.{HasRefused}
use Rattle.page_provider.specs.Faults.{FaultCause, Faulted, IsDescent, LeadsTo}
use Rattle.page_provider.specs.Providers.{Keeps, Provider}
use Rattle.page_provider.specs.declared.refusal.Refusal.{Refusal}
use Rattle.page_provider.proofs.Fetched.{faulted_fetched, fetched, fetched_descent, fetched_leads, fetched_parent, is_found, mirrored_fetched, place_fault, quiet_fetching, refused_fetched}
use Rattle.page_provider.proofs.Filling.{read_refused, reads_disked}
use Rattle.page_provider.proofs.Losses.{cold_any}
use Rattle.page_provider.proofs.Parts.{keeps_shape}
use Rattle.page_provider.proofs.Running.{disked_quiet, disked_then}
use Rattle.page_provider.proofs.Savings.{if_err}
use Rattle.page_provider.proofs.Mirrored.{mirrored_broken, mirrored_then}
use Rattle.btree_descent.proofs.rows_trait.Runs.{ran_none}
use Rattle.page_provider.proofs.Framing.{framed_then, within_reads, within_then}
use Rattle.page_provider.proofs.Unwritten.{reads_only, unsaved_then}
use Rattle.page_provider.proofs.pager.Pager.bring.Goals as goal

pub read-requires-clause-page : goal.read-requires-clause-page
read-requires-clause-page g c =
    let below = c.requires.below in
    let pages = c.requires.keeps.pages in
    let each = c.self.invariant.each in
    let slots = ap (λ (p : Provider). length p.slots) c.self.view_is in
    let free = ap (λ (p : Provider). length p.free) c.self.view_is in
    omega arith

pub read-requires-clause-kept : goal.read-requires-clause-kept
read-requires-clause-kept g c = let below = c.requires.below in let pages = c.requires.keeps.kept.pages in omega arith

pub returns-in_err-found-clause-err : goal.returns-in_err-found-clause-err
returns-in_err-found-clause-err g c =
    let z = g.R.Rows.shape c.args.rows.now in
    let v = g.R.Rows.view c.args.seat.now in
    let p = err_from_is_err_and c.from_residual.result c.from_residual.ensures.1 in
    let p2 = p.2 in
    let why = c.in_err-found.field-0.0 in
    let e : why ≡ p.0 = cc in
    let P : Refusal → Type 0 = λ q. HasRefused 5 z c.args.path.now v c.args.self.now q v c.read.new.self in
    if_err c.from_residual.result p.0 P p.1 (subst P e (read_refused c.args.path.now c.requires.keeps c.requires.held c.in_err-found.ensures.err))

pub returns-in_err-found-clause-disk : goal.returns-in_err-found-clause-disk
returns-in_err-found-clause-disk g c = reads_disked c.laws.ensures.disk c.in_err-found.ensures.disk

pub fetch-node-requires-clause-workers : goal.fetch-node-requires-clause-workers
fetch-node-requires-clause-workers g c = let a = c.requires.keeps.workers.0 in let b = c.requires.keeps.some in omega arith

pub place-requires-clause-keeps : goal.place-requires-clause-keeps
place-requires-clause-keeps g c =
    let z = g.R.Rows.shape c.args.rows.now in
    let u = g.R.Rows.view c.fetch-node.new.seat in
    let each = subst (λ (p : Provider). length p.slots ≡ length p.free) c.self.view_is c.self.invariant.each in
    let x = fetched c.laws.ensures.rows c.requires.keeps c.requires.held (is_found c.requires.keeps c.requires.below c.requires.cold each (λ f. c.requires.gives f c.requires.cold) c.in_ok-found.ensures.ok) c.fetch-node.ensures.told in
    keeps_shape c.fetch-node.ensures.fits.1 (subst (Keeps z u) (sym c.in_ok-found.ensures.same) x.moved.goes.keeps)

pub place-requires-clause-held : goal.place-requires-clause-held
place-requires-clause-held g c = c.fetch-node.ensures.told.held ∙ c.requires.held

pub place-requires-clause-contents : goal.place-requires-clause-contents
place-requires-clause-contents g c =
    let u = g.R.Rows.view c.fetch-node.new.seat in
    let each = subst (λ (p : Provider). length p.slots ≡ length p.free) c.self.view_is c.self.invariant.each in
    let x = fetched c.laws.ensures.rows c.requires.keeps c.requires.held (is_found c.requires.keeps c.requires.below c.requires.cold each (λ f. c.requires.gives f c.requires.cold) c.in_ok-found.ensures.ok) c.fetch-node.ensures.told in
    subst (λ (n : Page). HasContents u c.args.page n) (sym c.fetch-node.ensures.same) x.contents

pub place-requires-clause-parent : goal.place-requires-clause-parent
place-requires-clause-parent g c =
    let each = subst (λ (p : Provider). length p.slots ≡ length p.free) c.self.view_is c.self.invariant.each in
    let x = fetched c.laws.ensures.rows c.requires.keeps c.requires.held (is_found c.requires.keeps c.requires.below c.requires.cold each (λ f. c.requires.gives f c.requires.cold) c.in_ok-found.ensures.ok) c.fetch-node.ensures.told in
    λ alone. let only = sym (ap (λ (s : Shape). s.alone) c.fetch-node.ensures.fits.1) ∙ alone in fetched_parent x c.args.page only (c.requires.parent only)

pub place-requires-clause-descent : goal.place-requires-clause-descent
place-requires-clause-descent g c =
    let u = g.R.Rows.view c.fetch-node.new.seat in
    let each = subst (λ (p : Provider). length p.slots ≡ length p.free) c.self.view_is c.self.invariant.each in
    let x = fetched c.laws.ensures.rows c.requires.keeps c.requires.held (is_found c.requires.keeps c.requires.below c.requires.cold each (λ f. c.requires.gives f c.requires.cold) c.in_ok-found.ensures.ok) c.fetch-node.ensures.told in
    subst (λ (s : Shape). IsDescent s u c.args.path.now) (sym c.fetch-node.ensures.fits.1) (fetched_descent x c.requires.descent)

pub place-requires-clause-leads : goal.place-requires-clause-leads
place-requires-clause-leads g c =
    let u = g.R.Rows.view c.fetch-node.new.seat in
    let each = subst (λ (p : Provider). length p.slots ≡ length p.free) c.self.view_is c.self.invariant.each in
    let x = fetched c.laws.ensures.rows c.requires.keeps c.requires.held (is_found c.requires.keeps c.requires.below c.requires.cold each (λ f. c.requires.gives f c.requires.cold) c.in_ok-found.ensures.ok) c.fetch-node.ensures.told in
    subst (λ (s : Shape). LeadsTo s u c.args.path.now c.args.page) (sym c.fetch-node.ensures.fits.1) (fetched_leads x c.args.path.now c.args.page c.requires.leads)

pub returns-clause-ok : goal.returns-clause-ok
returns-clause-ok g c =
    let z = g.R.Rows.shape c.args.rows.now in
    let v = g.R.Rows.view c.args.seat.now in
    let u = g.R.Rows.view c.fetch-node.new.seat in
    let w = g.R.Rows.view c.place.new.seat in
    let is = c.place.new.self in
    let each = subst (λ (p : Provider). length p.slots ≡ length p.free) c.self.view_is c.self.invariant.each in
    let x = fetched c.laws.ensures.rows c.requires.keeps c.requires.held (is_found c.requires.keeps c.requires.below c.requires.cold each (λ f. c.requires.gives f c.requires.cold) c.in_ok-found.ensures.ok) c.fetch-node.ensures.told in
    let P : Option ℕ → Type 0 = λ come. Faulted 4 (g.R.Rows.shape c.fetch-node.new.rows) c.args.path.now u c.read.new.self c.args.page come w is in
    let Q : Option ℕ → Type 0 = λ come. Faulted 5 z c.args.path.now v c.args.self.now c.args.page come w is in
    IfOk-weaker c.place.result P Q (λ come h. faulted_fetched x c.args.path.now w is c.requires.parent come
    (subst (λ (s : Shape × Provider). Faulted 4 s.0 c.args.path.now u s.1 c.args.page come w is) (λ i. (c.fetch-node.ensures.fits.1 i, c.in_ok-found.ensures.same i)) h)) c.place.ensures.ok

pub returns-clause-err : goal.returns-clause-err
returns-clause-err g c =
    let z = g.R.Rows.shape c.args.rows.now in
    let v = g.R.Rows.view c.args.seat.now in
    let u = g.R.Rows.view c.fetch-node.new.seat in
    let w = g.R.Rows.view c.place.new.seat in
    let is = c.place.new.self in
    let each = subst (λ (p : Provider). length p.slots ≡ length p.free) c.self.view_is c.self.invariant.each in
    let x = fetched c.laws.ensures.rows c.requires.keeps c.requires.held (is_found c.requires.keeps c.requires.below c.requires.cold each (λ f. c.requires.gives f c.requires.cold) c.in_ok-found.ensures.ok) c.fetch-node.ensures.told in
    let P : Refusal → Type 0 = λ why. HasRefused 4 (g.R.Rows.shape c.fetch-node.new.rows) c.args.path.now u c.read.new.self why w is in
    let Q : Refusal → Type 0 = λ why. HasRefused 5 z c.args.path.now v c.args.self.now why w is in
    IfErr-weaker c.place.result P Q (λ why h. refused_fetched x
    (subst (λ (s : Shape × Provider). HasRefused 4 s.0 c.args.path.now u s.1 why w is) (λ i. (c.fetch-node.ensures.fits.1 i, c.in_ok-found.ensures.same i)) h)) c.place.ensures.err

pub returns-clause-cause : goal.returns-clause-cause
returns-clause-cause g c =
    let z = g.R.Rows.shape c.args.rows.now in
    let v = g.R.Rows.view c.args.seat.now in
    let u = g.R.Rows.view c.fetch-node.new.seat in
    let w = g.R.Rows.view c.place.new.seat in
    let is = c.place.new.self in
    let each = subst (λ (p : Provider). length p.slots ≡ length p.free) c.self.view_is c.self.invariant.each in
    let x = fetched c.laws.ensures.rows c.requires.keeps c.requires.held (is_found c.requires.keeps c.requires.below c.requires.cold each (λ f. c.requires.gives f c.requires.cold) c.in_ok-found.ensures.ok) c.fetch-node.ensures.told in
    let P : Refusal → Type 0 = λ why. PlaceCause (g.R.Rows.shape c.fetch-node.new.rows) c.args.path.now u c.args.page w is why in
    let Q : Refusal → Type 0 = λ why. FaultCause z c.args.path.now v c.args.self.now c.args.page (g.P.Part.story c.args.dev.now) w is why in
    IfErr-weaker c.place.result P Q (λ why h. place_fault x c.args.path.now c.args.self.now (g.P.Part.story c.args.dev.now) w is why (subst (λ (s : Shape). PlaceCause s c.args.path.now u c.args.page w is why) c.fetch-node.ensures.fits.1 h)) c.place.ensures.cause

pub returns-clause-disk : goal.returns-clause-disk
returns-clause-disk g c =
    let z = g.R.Rows.shape c.args.rows.now in
    let u = g.R.Rows.view c.fetch-node.new.seat in
    let w = g.R.Rows.view c.place.new.seat in
    let mid = g.P.Part.story c.read.new.dev in
    let well = ap (λ (p : Provider). p.broken) c.in_ok-found.ensures.same ∙ c.requires.well in
    let disk = c.laws.ensures.disk in
    let place = subst (λ (s : Shape). Disked s.alone c.read.new.self u c.place.new.self w mid (g.P.Part.story c.place.new.dev)) c.fetch-node.ensures.fits.1 c.place.ensures.disk in
    disked_then disk well (reads_disked disk c.in_ok-found.ensures.disk)
    (disked_then disk well (disked_quiet disk (g.met.P.Part.lawful c.read.new.dev) c.fetch-node.ensures.told.ran (quiet_fetching c.args.page c.in_ok-found.found) refl refl) place)

pub returns-in_err-found-clause-mirrors : goal.returns-in_err-found-clause-mirrors
returns-in_err-found-clause-mirrors g c = mirrored_broken (ap (λ (p : Provider). p.broken) c.in_err-found.ensures.err.memory)

pub returns-clause-mirrors : goal.returns-clause-mirrors
returns-clause-mirrors g c =
    let same = c.in_ok-found.ensures.same in
    let each = subst (λ (p : Provider). length p.slots ≡ length p.free) c.self.view_is c.self.invariant.each in
    let x = fetched c.laws.ensures.rows c.requires.keeps c.requires.held (is_found c.requires.keeps c.requires.below c.requires.cold each (λ f. c.requires.gives f c.requires.cold) c.in_ok-found.ensures.ok) c.fetch-node.ensures.told in
    let few : c.args.page < length c.args.self.now.slots = (let below = c.requires.below in let pages = c.requires.keeps.pages in omega arith) in
    mirrored_then (ap (λ (p : Provider). p.broken) same ∙ c.requires.well) (mirrored_fetched few c.in_ok-found.ensures.ok x c.in_ok-found.ensures.mirrors (ap (λ (p : Provider). p.generation) same)) c.place.ensures.mirrors

pub returns-clause-frame : goal.returns-clause-frame
returns-clause-frame g c = framed_then c.in_ok-found.ensures.frame c.place.ensures.frame

pub returns-in_err-found-clause-within : goal.returns-in_err-found-clause-within
returns-in_err-found-clause-within g c = within_reads c.in_err-found.ensures.reads

pub returns-clause-within : goal.returns-clause-within
returns-clause-within g c = within_then c.in_ok-found.ensures.frame (within_reads c.in_ok-found.ensures.reads) c.place.ensures.within

pub returns-in_err-found-clause-reads : goal.returns-in_err-found-clause-reads
returns-in_err-found-clause-reads g c = reads_only c.in_err-found.ensures.reads (ran_none (g.R.Rows.shape c.args.rows.now).alone (g.R.Rows.view c.args.seat.now))

pub returns-clause-reads : goal.returns-clause-reads
returns-clause-reads g c = unsaved_then c.read.new.self (ap (λ (p : Provider). p.broken) c.in_ok-found.ensures.same ∙ c.requires.well) (reads_only c.in_ok-found.ensures.reads c.fetch-node.ensures.told.ran) c.place.ensures.reads

-- ## A page that could not be read

pub returns-in_err-found-clause-cold : goal.returns-in_err-found-clause-cold
returns-in_err-found-clause-cold g c = cold_any (g.R.Rows.view c.args.seat.now) c.args.page c.requires.cold c.from_residual.result

pub returns-clause-cold : goal.returns-clause-cold
returns-clause-cold g c = cold_any (g.R.Rows.view c.args.seat.now) c.args.page c.requires.cold c.place.result
