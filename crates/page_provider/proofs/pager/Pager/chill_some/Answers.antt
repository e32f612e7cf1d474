use Rattle.std.proofs.Common.{◌≡◌, ◌∙◌, inl, inr, length, None, Some, refl, arith, ap, subst}
use Rattle.std.proofs.lemmas.Result.{err_from_is_err_and}
use Rattle.btree_descent.specs.rows_trait.Views.{Shape}
use Rattle.page_provider.specs.declared.refusal.Refusal.{Refusal}
use Rattle.page_provider.specs.Ends.{HasRefused}
use Rattle.page_provider.specs.Finds.{Stalls}
use Rattle.page_provider.specs.Leaves.{HasHalted}
use Rattle.page_provider.specs.Providers.{Provider}
use Rattle.page_provider.proofs.Emptying.{sharing_idle, sharing_low, sharing_more, sharing_none, then_stopped, turned}
use Rattle.page_provider.proofs.Parts.{keeps_shape}
use Rattle.page_provider.proofs.Savings.{if_err}
use Rattle.page_provider.proofs.pager.Pager.chill_some.Goals as goal

pub loop-turn-init : goal.loop-turn-init
loop-turn-init g c = record { fits = (c.requires.fits, refl); sharing = sharing_none c.laws.ensures.rows c.requires.keeps c.requires.held }

pub returns-then-len-wanted-clause-fits : goal.returns-then-len-wanted-clause-fits
returns-then-len-wanted-clause-fits g c = c.loop-turn.invariant.fits

pub returns-then-len-wanted-clause-ok : goal.returns-then-len-wanted-clause-ok
returns-then-len-wanted-clause-ok g c =
    let a = c.len.ensures.answer in
    let b = ap (λ (p : Provider). length p.queue) c.self.view_is in
    let many = c.if-len-wanted.true in
    record { chills = c.loop-turn.invariant.sharing.chills; few = c.loop-turn.invariant.sharing.low; enough = inl (omega arith) }

pub turn-requires-clause-fits : goal.turn-requires-clause-fits
turn-requires-clause-fits g c = c.loop-turn.invariant.fits.0

pub turn-requires-clause-keeps : goal.turn-requires-clause-keeps
turn-requires-clause-keeps g c = keeps_shape c.loop-turn.invariant.fits.1 c.loop-turn.invariant.sharing.chills.moved.goes.keeps

pub turn-requires-clause-held : goal.turn-requires-clause-held
turn-requires-clause-held g c = c.loop-turn.invariant.sharing.chills.moved.goes.held

pub returns-in_err-_entry-clause-fits : goal.returns-in_err-_entry-clause-fits
returns-in_err-_entry-clause-fits g c = (c.turn.ensures.fits.0, c.turn.ensures.fits.1 ∙ c.loop-turn.invariant.fits.1)

pub returns-in_err-_entry-clause-err : goal.returns-in_err-_entry-clause-err
returns-in_err-_entry-clause-err g c =
    let z = g.R.Rows.shape c.args.rows.now in
    let v = g.R.Rows.view c.args.seat.now in
    let u = g.R.Rows.view c.loop-turn.seat in
    let w = g.R.Rows.view c.turn.new.seat in
    let is = c.turn.new.self in
    let p = err_from_is_err_and c.from_residual.result c.from_residual.ensures.1 in
    let p2 = p.2 in
    let why = c.in_err-_entry.field-0.0 in
    let e : why ≡ p.0 = cc in
    let P : Refusal → Type 0 = λ q. HasRefused 2 z c.args.path.now v c.args.self.now q w is in
    let s = subst (λ (y : Shape). Stalls 2 y u c.loop-turn.self why w is) c.loop-turn.invariant.fits.1 c.in_err-_entry.ensures.err in
    if_err c.from_residual.result p.0 P p.1 (subst P e (then_stopped c.laws.ensures.rows c.loop-turn.invariant.sharing.chills s).0)

pub returns-in_err-_entry-clause-halted : goal.returns-in_err-_entry-clause-halted
returns-in_err-_entry-clause-halted g c =
    let z = g.R.Rows.shape c.args.rows.now in
    let v = g.R.Rows.view c.args.seat.now in
    let u = g.R.Rows.view c.loop-turn.seat in
    let w = g.R.Rows.view c.turn.new.seat in
    let is = c.turn.new.self in
    let p = err_from_is_err_and c.from_residual.result c.from_residual.ensures.1 in
    let p2 = p.2 in
    let why = c.in_err-_entry.field-0.0 in
    let e : why ≡ p.0 = cc in
    let P : Refusal → Type 0 = λ q. HasHalted z v c.args.self.now q w is in
    let s = subst (λ (y : Shape). Stalls 2 y u c.loop-turn.self why w is) c.loop-turn.invariant.fits.1 c.in_err-_entry.ensures.err in
    if_err c.from_residual.result p.0 P p.1 (subst P e (then_stopped c.laws.ensures.rows c.loop-turn.invariant.sharing.chills s).1)

pub returns-in_default-clause-fits : goal.returns-in_default-clause-fits
returns-in_default-clause-fits g c = (c.turn.ensures.fits.0, c.turn.ensures.fits.1 ∙ c.loop-turn.invariant.fits.1)

pub returns-in_default-clause-ok : goal.returns-in_default-clause-ok
returns-in_default-clause-ok g c =
    let t = turned c.args.path.now (g.R.Rows.view c.loop-turn.seat) (g.R.Rows.view c.turn.new.seat) c.loop-turn.self c.turn.new.self None c.loop-turn.invariant.fits.1 c.in_default.is c.in_ok-_entry.ensures.ok in
    record { chills = sharing_idle c.loop-turn.invariant.sharing c.laws.ensures.rows t.0; few = sharing_low c.loop-turn.invariant.sharing t.0; enough = inr t.1 }

pub loop-turn-preserved : goal.loop-turn-preserved
loop-turn-preserved g c =
    let t = turned c.args.path.now (g.R.Rows.view c.loop-turn.seat) (g.R.Rows.view c.turn.new.seat) c.loop-turn.self c.turn.new.self (Some c.in-Some._entry) c.loop-turn.invariant.fits.1 c.in-Some.is c.in_ok-_entry.ensures.ok in
    let a = c.len.ensures.answer in
    let b = ap (λ (p : Provider). length p.queue) c.self.view_is in
    let few = c.if-len-wanted.false in
    record { fits = (c.turn.ensures.fits.0, c.turn.ensures.fits.1 ∙ c.loop-turn.invariant.fits.1); sharing = sharing_more c.loop-turn.invariant.sharing (omega arith) t }

pub returns-clause-fits : goal.returns-clause-fits
returns-clause-fits g c = c.loop-turn.invariant.fits

pub returns-clause-ok : goal.returns-clause-ok
returns-clause-ok g c =
    let many = c.loop-turn.invariant.sharing.many in
    let last = c.loop-turn-test.false in
    record { chills = c.loop-turn.invariant.sharing.chills; few = c.loop-turn.invariant.sharing.low; enough = inl (omega arith) }
