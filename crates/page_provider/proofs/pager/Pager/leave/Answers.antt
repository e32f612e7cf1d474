use Rattle.std.proofs.Common.{◌≡◌, ◌∙◌, ◌<◌, [], ◌∷◌, length, refl, sym, ap, subst, arith}
use Rattle.std.proofs.lemmas.Result.{err_from_is_err_and}
use Rattle.page_model.specs.Page.{Page}
use Rattle.btree_descent.specs.row_words.declared.event.Event.TheVariants.{Evict}
use Rattle.btree_descent.specs.rows_trait.Turns.{Ran}
use Rattle.btree_descent.specs.rows_trait.Views.{Shape}
use Rattle.btree_descent.proofs.rows_trait.Runs.{ran_append, ran_none}
use Rattle.page_moves.specs.Moves.{contents_of}
use Rattle.page_provider.specs.Evicts.{HasStayed}
use Rattle.page_provider.specs.Inside.{Missed}
use Rattle.page_provider.specs.Providers.{Provider}
use Rattle.page_provider.specs.declared.refusal.Refusal.{Refusal}
use Rattle.page_provider.proofs.Loaded.{spent_others}
use Rattle.page_provider.proofs.Outcomes.{entry_room, entry_stays, entry_within, stayed_missed}
use Rattle.page_provider.proofs.Savings.{can_evict, frame_is, gone_as, has_gone, if_err, image_is, leaves_within, names_within}
use Rattle.page_provider.proofs.Asks.{actor_ran, one_held, sized_of, sized_ran}
use Rattle.page_provider.proofs.Parts.{row_unlike}
use Rattle.page_provider.proofs.pager.Pager.leave.Goals as goal

pub page_in-requires-clause-frame : goal.page_in-requires-clause-frame
page_in-requires-clause-frame g c = subst (λ n. c.args.entry.frame < n) (sym (c.frames-frames.ensures ∙ ap (λ (p : Provider). p.frames) c.self.view_is)) (entry_within c.requires.keeps c.requires.entered)

pub page_in-requires-clause-stays : goal.page_in-requires-clause-stays
page_in-requires-clause-stays g c = (c.args.entry.page, entry_stays c.requires.keeps c.requires.entered c.laws.ensures.rows)

pub returns-in_err-node-clause-err : goal.returns-in_err-node-clause-err
returns-in_err-node-clause-err g c =
    let z = g.R.Rows.shape c.args.rows.now in
    let v = g.R.Rows.view c.args.seat.now in
    let w = g.R.Rows.view c.page_in.new.seat in
    let p = err_from_is_err_and c.from_residual.result c.from_residual.ensures.1 in
    let p2 = p.2 in
    let why = c.in_err-node.field-0.0 in
    let e : why ≡ p.0 = cc in
    let P : Refusal → Type 0 = λ q. HasStayed z v c.args.self.now c.args.entry.page q w c.args.self.now in
    if_err c.from_residual.result p.0 P p.1 (subst P e (stayed_missed c.laws.ensures.rows c.requires.keeps c.requires.held (ran_none z.alone v) c.requires.held (frame_is c.requires.keeps c.requires.entered refl) c.in_err-node.ensures.err (spent_others c.args.entry.frame v w why c.in_err-node.ensures.kind)))

pub take-requires-clause-frame : goal.take-requires-clause-frame
take-requires-clause-frame g c = subst (λ n. c.args.entry.frame < n) (sym (c.frames-frames.ensures ∙ ap (λ (p : Provider). p.frames) c.self.view_is)) (entry_within c.requires.keeps c.requires.entered)

pub returns-in_err-hold-clause-err : goal.returns-in_err-hold-clause-err
returns-in_err-hold-clause-err g c =
    let z = g.R.Rows.shape c.args.rows.now in
    let v = g.R.Rows.view c.args.seat.now in
    let u = g.R.Rows.view c.page_in.new.seat in
    let s1 = c.in_ok-node.ensures.fits.1 in
    let i = c.in_ok-node.ensures.ok in
    let w = g.R.Rows.view c.take.new.seat in
    let p = err_from_is_err_and c.from_residual-in_err-hold.result c.from_residual-in_err-hold.ensures.1 in
    let p2 = p.2 in
    let why = c.in_err-hold.field-0.0 in
    let e : why ≡ p.0 = cc in
    let P : Refusal → Type 0 = λ q. HasStayed z v c.args.self.now c.args.entry.page q w c.args.self.now in
    let m = subst (λ (s : Shape). Missed s u why w) s1 c.in_err-hold.ensures.err in
    if_err c.from_residual-in_err-hold.result p.0 P p.1 (subst P e (stayed_missed c.laws.ensures.rows c.requires.keeps c.requires.held i.ran (c.in_ok-node.ensures.fits.2 ∙ c.requires.held) (frame_is c.requires.keeps c.requires.entered refl) m c.in_err-hold.ensures.spent))

pub evict-requires-clause-evicts : goal.evict-requires-clause-evicts
evict-requires-clause-evicts g c =
    let z = g.R.Rows.shape c.args.rows.now in
    let v = g.R.Rows.view c.args.seat.now in
    let u = g.R.Rows.view c.page_in.new.seat in
    let t = g.R.Rows.view c.take.new.seat in
    let h = c.in_ok-hold.ensures.ok in
    let s1 = c.in_ok-node.ensures.fits.1 in
    let r = ran_append z.alone v [] u [] t c.in_ok-node.ensures.ok.ran (subst (λ (s : Shape). Ran s.alone u [] t) s1 h.1.ran) in
    can_evict c.laws.ensures.rows c.requires.keeps c.requires.entered c.requires.clean r (c.in_ok-hold.ensures.fits.1 ∙ s1) h.0

pub leave-requires-clause-page : goal.leave-requires-clause-page
leave-requires-clause-page g c = leaves_within c.self.view_is c.requires.keeps c.requires.entered

pub leave-requires-clause-within : goal.leave-requires-clause-within
leave-requires-clause-within g c =
    let is = image_is c.laws.ensures.rows c.requires.keeps c.requires.entered c.in_ok-node.ensures.ok in
    names_within c.in_ok-node.node c.self.view_is c.requires.keeps c.requires.entered (ap (λ (n : Page). contents_of n) is)

pub push_reserved-requires : goal.push_reserved-requires
push_reserved-requires g c =
    let few : length c.args.self.now.empty < c.args.self.now.frames = entry_room c.requires.keeps c.requires.entered c.laws.ensures.rows in
    let a : length c.self.inside.empty.items ≡ length c.args.self.now.empty = ap (λ (p : Provider). length p.empty) c.self.view_is in
    let b = ap (λ (p : Provider). p.frames) c.self.view_is in
    let room = c.self.invariant.room in
    let p = c.self.inside.empty.ok.0 in
    omega arith

pub returns-clause-ok : goal.returns-clause-ok
returns-clause-ok g c =
    let z = g.R.Rows.shape c.args.rows.now in
    let v = g.R.Rows.view c.args.seat.now in
    let u = g.R.Rows.view c.page_in.new.seat in
    let t = g.R.Rows.view c.take.new.seat in
    let w = g.R.Rows.view c.evict.new.seat in
    let went = c.evict.ensures.went in
    let s1 = c.in_ok-node.ensures.fits.1 in
    let s2 = c.in_ok-hold.ensures.fits.1 ∙ s1 in
    let r = ran_append z.alone v [] u [] t c.in_ok-node.ensures.ok.ran (subst (λ (s : Shape). Ran s.alone u [] t) s1 c.in_ok-hold.ensures.ok.1.ran) in
    let all = ran_append z.alone v [] t (Evict c.args.entry.page ∷ []) w r (subst (λ (s : Shape). Ran s.alone t (Evict c.args.entry.page ∷ []) w) s2 went.ran) in
    let is = image_is c.laws.ensures.rows c.requires.keeps c.requires.entered c.in_ok-node.ensures.ok in
    gone_as c.self.view_is c.take-2.new.self c.push_reserved.new.self.items c.leave.new.self c.in_ok-node.node c.take-2.ensures c.push_reserved.ensures.items c.leave.ensures
    (has_gone c.self.view_is c.laws.ensures.rows c.requires.keeps c.requires.entered c.requires.clean all went.held c.in_ok-node.node (ap (λ (n : Page). contents_of n) is))

pub page_in-requires-clause-sized : goal.page_in-requires-clause-sized
page_in-requires-clause-sized g c = sized_of c.requires.keeps (c.frames-frames.ensures ∙ ap (λ (p : Provider). p.frames) c.self.view_is)

pub take-requires-clause-fits : goal.take-requires-clause-fits
take-requires-clause-fits g c = c.in_ok-node.ensures.fits.0

pub take-requires-clause-sized : goal.take-requires-clause-sized
take-requires-clause-sized g c = let o = c.in_ok-node.ensures in sized_ran o.fits.1 o.ok.ran (sized_of c.requires.keeps (c.frames-frames.ensures ∙ ap (λ (p : Provider). p.frames) c.self.view_is))

pub take-requires-clause-actor : goal.take-requires-clause-actor
take-requires-clause-actor g c = let o = c.in_ok-node.ensures in actor_ran o.fits.1 o.ok.ran c.requires.keeps.actor

pub take-requires-clause-held : goal.take-requires-clause-held
take-requires-clause-held g c = c.in_ok-node.ensures.fits.2 ∙ c.requires.held

pub returns-in_err-hold-clause-fits : goal.returns-in_err-hold-clause-fits
returns-in_err-hold-clause-fits g c = let o = c.in_ok-node.ensures.fits in let e = c.in_err-hold.ensures.fits in (e.0, e.1 ∙ o.1)

pub evict-requires-clause-fits : goal.evict-requires-clause-fits
evict-requires-clause-fits g c = c.in_ok-hold.ensures.fits.0

pub evict-requires-clause-one : goal.evict-requires-clause-one
evict-requires-clause-one g c = let o = c.in_ok-hold.ensures in one_held o.fits.1 o.ok.0 o.ok.1.one

pub returns-clause-fits : goal.returns-clause-fits
returns-clause-fits g c = (c.evict.ensures.fits.0, c.evict.ensures.fits.1 ∙ (c.in_ok-hold.ensures.fits.1 ∙ c.in_ok-node.ensures.fits.1))

pub returns-in_err-node-clause-device : goal.returns-in_err-node-clause-device
returns-in_err-node-clause-device g c =
    let p = err_from_is_err_and c.from_residual.result c.from_residual.ensures.1 in
    let p2 = p.2 in
    let why = c.in_err-node.field-0.0 in
    let e : why ≡ p.0 = cc in
    row_unlike c.from_residual.result p.1 e c.in_err-node.ensures.err.kind

pub returns-in_err-hold-clause-device : goal.returns-in_err-hold-clause-device
returns-in_err-hold-clause-device g c =
    let p = err_from_is_err_and c.from_residual-in_err-hold.result c.from_residual-in_err-hold.ensures.1 in
    let p2 = p.2 in
    let why = c.in_err-hold.field-0.0 in
    let e : why ≡ p.0 = cc in
    row_unlike c.from_residual-in_err-hold.result p.1 e c.in_err-hold.ensures.err.kind
