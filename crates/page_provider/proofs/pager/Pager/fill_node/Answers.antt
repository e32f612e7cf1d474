use Rattle.std.proofs.Common.{◌≡◌, ◌∙◌, ◌<◌, ◌-◌, [], ◌∷◌, take, sym, ap, subst}
use Rattle.std.proofs.lemmas.Result.{err_from_is_err_and}
use Rattle.btree_descent.specs.row_words.declared.event.Event.TheVariants.{Load}
use Rattle.btree_descent.specs.rows_trait.Turns.{Ran}
use Rattle.btree_descent.specs.rows_trait.Views.{Shape, state}
use Rattle.btree_descent.proofs.rows_trait.Runs.{ran_append}
use Rattle.page_provider.specs.Finds.{Halts, IsSeen, Naming}
use Rattle.page_provider.specs.Providers.{Provider}
use Rattle.page_provider.specs.declared.refusal.Refusal.{Refusal}
use Rattle.page_provider.proofs.Coming.{cold_hot, come_on, comes_within, empty_is, filled_node, node_is, halts_missed}
use Rattle.page_provider.proofs.Parents.{can_fill, frame_fits, halts_stopped, linked, named_off, named_keeps, named_seen, none_comes}
use Rattle.page_provider.proofs.Savings.{if_err}
use Rattle.page_provider.proofs.Asks.{actor_on, sized_of, two_held}
use Rattle.page_provider.proofs.pager.Pager.fill_node.Goals as goal

pub returns-in_default-clause-ok : goal.returns-in_default-clause-ok
returns-in_default-clause-ok g c =
    let v = g.R.Rows.view c.args.seat.now in
    let m = c.requires.comes in
    let n = subst (λ o. Naming (g.R.Rows.shape c.args.rows.now) v c.frames-frames.result c.from.result o (g.R.Rows.view c.naming.new.seat)) c.in_default.is c.in_ok-parent.ensures.ok in
    none_comes c.args.page c.laws.ensures.rows c.requires.keeps c.requires.held m.below (cold_hot ((state v).core.place c.args.page) m.cold) (ap (λ x. x.node.live) (node_is c.requires.keeps m) ∙ c.requires.live) c.in_ok-parent.ensures.fits.2
    (c.frames-frames.ensures ∙ ap (λ (p : Provider). p.frames) c.self.view_is) c.from.ensures n.0 n.1

pub take_with-requires-clause-sound : goal.take_with-requires-clause-sound
take_with-requires-clause-sound g c =
    let n = subst (λ o. Naming (g.R.Rows.shape c.args.rows.now) (g.R.Rows.view c.args.seat.now) c.frames-frames.result c.from.result o (g.R.Rows.view c.naming.new.seat)) c.in-Some.is c.in_ok-parent.ensures.ok in
    (named_keeps c.laws.ensures.rows c.requires.keeps n).sound

pub take_with-requires-clause-first : goal.take_with-requires-clause-first
take_with-requires-clause-first g c =
    let u = g.R.Rows.view c.naming.new.seat in
    let n = subst (λ o. Naming (g.R.Rows.shape c.args.rows.now) (g.R.Rows.view c.args.seat.now) c.frames-frames.result c.from.result o u) c.in-Some.is c.in_ok-parent.ensures.ok in
    subst (λ (s : Shape). IsSeen s c.in-Some.parent u) (sym c.in_ok-parent.ensures.fits.1) (named_seen c.laws.ensures.rows c.requires.keeps n)

pub take_with-requires-clause-frame : goal.take_with-requires-clause-frame
take_with-requires-clause-frame g c =
    let n = subst (λ o. Naming (g.R.Rows.shape c.args.rows.now) (g.R.Rows.view c.args.seat.now) c.frames-frames.result c.from.result o (g.R.Rows.view c.naming.new.seat)) c.in-Some.is c.in_ok-parent.ensures.ok in
    let now = named_keeps c.laws.ensures.rows c.requires.keeps n in
    frame_fits c.in_ok-parent.ensures.fits.1 now (empty_is now (come_on c.laws.ensures.rows c.requires.keeps c.requires.comes n.sight.ran)).0

pub take_with-requires-clause-apart : goal.take_with-requires-clause-apart
take_with-requires-clause-apart g c =
    let n = subst (λ o. Naming (g.R.Rows.shape c.args.rows.now) (g.R.Rows.view c.args.seat.now) c.frames-frames.result c.from.result o (g.R.Rows.view c.naming.new.seat)) c.in-Some.is c.in_ok-parent.ensures.ok in
    named_off c.laws.ensures.rows c.requires.keeps n c.requires.comes

pub returns-in_err-above-clause-err : goal.returns-in_err-above-clause-err
returns-in_err-above-clause-err g c =
    let z = g.R.Rows.shape c.args.rows.now in
    let v = g.R.Rows.view c.args.seat.now in
    let w = g.R.Rows.view c.take_with.new.seat in
    let n = subst (λ o. Naming z v c.frames-frames.result c.from.result o (g.R.Rows.view c.naming.new.seat)) c.in-Some.is c.in_ok-parent.ensures.ok in
    let p = err_from_is_err_and c.from_residual-in_err-above.result c.from_residual-in_err-above.ensures.1 in
    let p2 = p.2 in
    let why = c.in_err-above.field-0.0 in
    let e : why ≡ p.0 = cc in
    let P : Refusal → Type 0 = λ q. Halts 2 z v q w in
    if_err c.from_residual-in_err-above.result p.0 P p.1 (subst P e (halts_stopped c.in_ok-parent.ensures.fits.1 n c.in_err-above.ensures.err c.in_err-above.ensures.cause))

pub fill-requires-clause-fills : goal.fill-requires-clause-fills
fill-requires-clause-fills g c =
    let v = g.R.Rows.view c.args.seat.now in
    let n = subst (λ o. Naming (g.R.Rows.shape c.args.rows.now) v c.frames-frames.result c.from.result o (g.R.Rows.view c.naming.new.seat)) c.in-Some.is c.in_ok-parent.ensures.ok in
    let m = c.requires.comes in
    let h = c.in_ok-above.ensures.ok in
    let l = linked c.laws.ensures.rows c.requires.keeps c.in_ok-parent.ensures.fits.1 m.below (cold_hot ((state v).core.place c.args.page) m.cold) c.from.ensures n h.2 in
    let many = c.frames-frames.ensures ∙ ap (λ (p : Provider). p.frames) c.self.view_is in
    can_fill c.laws.ensures.rows c.requires.keeps (subst (λ m. m < 4294967296) many c.frames-frames.type_inv) m l (c.in_ok-above.ensures.fits.1 ∙ c.in_ok-parent.ensures.fits.1) h.0 h.1

pub returns-clause-ok : goal.returns-clause-ok
returns-clause-ok g c =
    let z = g.R.Rows.shape c.args.rows.now in
    let v = g.R.Rows.view c.args.seat.now in
    let t = g.R.Rows.view c.take_with.new.seat in
    let w = g.R.Rows.view c.fill.new.seat in
    let n = subst (λ o. Naming z v c.frames-frames.result c.from.result o (g.R.Rows.view c.naming.new.seat)) c.in-Some.is c.in_ok-parent.ensures.ok in
    let m = c.requires.comes in
    let h = c.in_ok-above.ensures.ok in
    let l = linked c.laws.ensures.rows c.requires.keeps c.in_ok-parent.ensures.fits.1 m.below (cold_hot ((state v).core.place c.args.page) m.cold) c.from.ensures n h.2 in
    let went = c.fill.ensures.went in
    let ran = subst (λ row. Ran (g.R.Rows.shape c.take_with.new.rows).alone t (Load c.args.page row ∷ []) w) h.1 went.ran in
    let all = ran_append z.alone v [] t (Load c.args.page c.args.frame ∷ []) w l.ran (subst (λ (s : Shape). Ran s.alone t (Load c.args.page c.args.frame ∷ []) w) (c.in_ok-above.ensures.fits.1 ∙ c.in_ok-parent.ensures.fits.1) ran) in
    let p = c.self.inside.empty.ok.0 in
    filled_node c.self.view_is c.laws.ensures.rows c.requires.keeps went.held m c.requires.live l.before all c.pop.new.self.items (c.pop.ensures.rest ∙ ap (λ n. take (n - 1) c.self.inside.empty.items) p) c.come.new.self c.come.ensures

pub come-requires : goal.come-requires
come-requires g c = record { within = comes_within c.self.view_is c.requires.keeps c.requires.comes }

pub naming-requires-clause-sized : goal.naming-requires-clause-sized
naming-requires-clause-sized g c = sized_of c.requires.keeps (c.frames-frames.ensures ∙ ap (λ (p : Provider). p.frames) c.self.view_is)

pub take_with-requires-clause-fits : goal.take_with-requires-clause-fits
take_with-requires-clause-fits g c = c.in_ok-parent.ensures.fits.0

pub take_with-requires-clause-actor : goal.take_with-requires-clause-actor
take_with-requires-clause-actor g c = let o = c.in_ok-parent.ensures in actor_on o.fits.1 o.kept c.requires.keeps.actor

pub take_with-requires-clause-held : goal.take_with-requires-clause-held
take_with-requires-clause-held g c = c.in_ok-parent.ensures.fits.2 ∙ c.requires.held

pub returns-in_err-parent-clause-err : goal.returns-in_err-parent-clause-err
returns-in_err-parent-clause-err g c =
    let z = g.R.Rows.shape c.args.rows.now in
    let v = g.R.Rows.view c.args.seat.now in
    let n = g.R.Rows.view c.naming.new.seat in
    let p = err_from_is_err_and c.from_residual.result c.from_residual.ensures.1 in
    let p2 = p.2 in
    let why = c.in_err-parent.field-0.0 in
    let e : why ≡ p.0 = cc in
    let P : Refusal → Type 0 = λ q. Halts 2 z v q n in
    if_err c.from_residual.result p.0 P p.1 (subst P e (halts_missed c.requires.held c.in_err-parent.ensures.err))

pub returns-in_err-above-clause-fits : goal.returns-in_err-above-clause-fits
returns-in_err-above-clause-fits g c = let o = c.in_ok-parent.ensures.fits in let e = c.in_err-above.ensures.fits in (e.0, e.1 ∙ o.1)

pub fill-requires-clause-fits : goal.fill-requires-clause-fits
fill-requires-clause-fits g c = c.in_ok-above.ensures.fits.0

pub fill-requires-clause-two : goal.fill-requires-clause-two
fill-requires-clause-two g c = let o = c.in_ok-above.ensures in two_held o.fits.1 o.ok.0 o.ok.1 o.ok.2.two

pub returns-clause-fits : goal.returns-clause-fits
returns-clause-fits g c = (c.fill.ensures.fits.0, c.fill.ensures.fits.1 ∙ (c.in_ok-above.ensures.fits.1 ∙ c.in_ok-parent.ensures.fits.1))
