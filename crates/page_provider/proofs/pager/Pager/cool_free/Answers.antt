use Rattle.std.proofs.Common.{sym, subst, ◌∙◌, ◌≡◌}
use Rattle.held_rows.specs.Waits.{went_as}
use Rattle.page_provider.specs.Providers.{Provider, Keeps}
use Rattle.page_provider.proofs.Chills.{free_absent, free_chills, free_room, free_unhooked, unhooked_as}
use Rattle.std.proofs.lemmas.Result.{err_from_is_err_and}
use Rattle.page_provider.proofs.Asks.{one_held, stopped_more}
use Rattle.page_provider.specs.declared.refusal.Refusal.{Refusal}
use Rattle.page_provider.proofs.Savings.{if_err}
use Rattle.page_provider.specs.Finds.{SinceFound, Stopped}
use Rattle.page_provider.proofs.pager.Pager.cool_free.Goals as goal

pub chill-requires-clause-chills : goal.chill-requires-clause-chills
chill-requires-clause-chills g c =
    let o = c.in_ok-own.ensures.ok in
    free_chills c.args.entry c.laws.ensures.rows c.requires.keeps c.requires.free c.requires.entry c.in_ok-own.ensures.taken o.1 c.in_ok-own.ensures.fits.1 o.0

pub chill-requires-2-clause-absent : goal.chill-requires-2-clause-absent
chill-requires-2-clause-absent g c =
    let z = g.R.Rows.shape c.args.rows.now in
    let v = g.R.Rows.view c.args.seat.now in
    let k = subst (λ (p : Provider). Keeps z v p) (sym c.self.view_is) c.requires.keeps in
    free_absent c.args.entry c.laws.ensures.rows k c.requires.free c.requires.entry c.in_ok-own.ensures.taken c.in_ok-own.ensures.ok.1

pub chill-requires-2-clause-room : goal.chill-requires-2-clause-room
chill-requires-2-clause-room g c =
    let z = g.R.Rows.shape c.args.rows.now in
    let v = g.R.Rows.view c.args.seat.now in
    let k = subst (λ (p : Provider). Keeps z v p) (sym c.self.view_is) c.requires.keeps in
    free_room c.args.entry c.laws.ensures.rows k c.requires.free c.requires.entry c.in_ok-own.ensures.taken c.in_ok-own.ensures.ok.1

pub returns-clause-ok : goal.returns-clause-ok
returns-clause-ok g c =
    let z = g.R.Rows.shape c.args.rows.now in
    let v = g.R.Rows.view c.args.seat.now in
    let k = subst (λ (p : Provider). Keeps z v p) (sym c.self.view_is) c.requires.keeps in
    let w = went_as c.in_ok-own.ensures.fits.1 c.chill.ensures.went in
    unhooked_as c.self.view_is c.chill-2.new.self c.insert.new.self _ c.chill-2.ensures c.insert.ensures
    (free_unhooked c.args.entry c.laws.ensures.rows k c.requires.free c.requires.entry c.in_ok-own.ensures.taken c.in_ok-own.ensures.ok.1 w)

pub chill-requires-clause-one : goal.chill-requires-clause-one
chill-requires-clause-one g c = let o = c.in_ok-own.ensures in one_held o.fits.1 o.ok.0 o.ok.1.one

pub returns-clause-fits : goal.returns-clause-fits
returns-clause-fits g c = (c.chill.ensures.fits.0, c.chill.ensures.fits.1 ∙ c.in_ok-own.ensures.fits.1)

pub returns-in_err-own-clause-err : goal.returns-in_err-own-clause-err
returns-in_err-own-clause-err g c =
    let p = err_from_is_err_and c.from_residual.result c.from_residual.ensures.1 in
    let p2 = p.2 in
    let why = c.in_err-own.field-0.0 in
    let e : why ≡ p.0 = cc in
    let P : Refusal → Type 0 = λ q. Stopped 2 (g.R.Rows.shape c.args.rows.now) (g.R.Rows.view c.args.seat.now) q (g.R.Rows.view c.take_seen.new.seat) in
    if_err c.from_residual.result p.0 P p.1 (subst P e (stopped_more c.in_err-own.ensures.err))

pub returns-in_err-own-clause-cause : goal.returns-in_err-own-clause-cause
returns-in_err-own-clause-cause g c =
    let p = err_from_is_err_and c.from_residual.result c.from_residual.ensures.1 in
    let p2 = p.2 in
    let why = c.in_err-own.field-0.0 in
    let e : why ≡ p.0 = cc in
    let P : Refusal → Type 0 = λ q. SinceFound c.args.seen.now (g.R.Rows.view c.args.seat.now) q (g.R.Rows.view c.take_seen.new.seat) in
    if_err c.from_residual.result p.0 P p.1 (subst P e c.in_err-own.ensures.cause)
