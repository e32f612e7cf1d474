use Rattle.std.proofs.Common.{◌≡◌, ◌≤◌, ◌+◌, ◌^◌, ◌∙◌, ℕ, refl, sym, ap, subst, arith}
use Rattle.std.specs.Prelude.{Option}
use Rattle.std.proofs.lemmas.Result.{err_from_is_err_and}
use Rattle.btree_descent.specs.row_words.declared.given.Given.{Given}
use Rattle.btree_descent.specs.rows_trait.Views.{Shape}
use Rattle.btree_descent.specs.Known.{IsSound}
use Rattle.held_rows.specs.Waits.{went_as}
use Rattle.row_image.specs.declared.sight.Sight.{Sight}
use Rattle.page_provider.specs.Finds.{IsSeen, Naming, SinceFound, Stopped, TakesTwo}
use Rattle.page_provider.specs.Providers.{Provider, Keeps}
use Rattle.page_provider.specs.declared.refusal.Refusal.{Refusal}
use Rattle.page_provider.proofs.Chills.{unhooked_as}
use Rattle.page_provider.proofs.Keeping.{keeps_ran}
use Rattle.page_provider.proofs.Savings.{if_err}
use Rattle.page_provider.proofs.Unlinks.{both_since, idle_ran, link_apart, missed_since, node_absent, node_room, node_unhooked, node_unlinks, not_alone, seen_sight, seen_watched, stopped_after}
use Rattle.page_provider.proofs.Coming.{halts_missed}
use Rattle.page_provider.proofs.Asks.{actor_on, sized_of, two_held}
use Rattle.page_provider.proofs.pager.Pager.cool_node.Goals as goal

pub returns-in_err-parent-clause-cause : goal.returns-in_err-parent-clause-cause
returns-in_err-parent-clause-cause g c =
    let v = g.R.Rows.view c.args.seat.now in
    let n = g.R.Rows.view c.naming.new.seat in
    let p = err_from_is_err_and c.from_residual.result c.from_residual.ensures.1 in
    let p2 = p.2 in
    let why = c.in_err-parent.field-0.0 in
    let e : why ≡ p.0 = cc in
    let P : Refusal → Type 0 = λ q. SinceFound c.args.seen.now v q n in
    if_err c.from_residual.result p.0 P p.1 (subst P e (missed_since c.args.seen.now c.in_err-parent.ensures.err))

pub returns-in_default-clause-ok : goal.returns-in_default-clause-ok
returns-in_default-clause-ok g c =
    let z = g.R.Rows.shape c.args.rows.now in
    let v = g.R.Rows.view c.args.seat.now in
    let n = g.R.Rows.view c.naming.new.seat in
    let none = subst (λ (x : Option (Sight × ℕ)). Naming z v c.frames-frames.result (2 ^ 63 + c.from-word.result) x n) c.in_default.is c.in_ok-parent.ensures.ok in (
      idle_ran c.laws.ensures.rows c.requires.keeps none.0 (c.in_ok-parent.ensures.fits.2 ∙ c.requires.held),
      not_alone c.args.seen.now c.laws.ensures.rows c.requires.keeps c.requires.stands c.requires.live c.requires.other none.0 none.1 (c.frames-frames.ensures ∙ ap (λ (p : Provider). p.frames) c.self.view_is) (ap (λ i. 2 ^ 63 + i) (c.from-word.ensures ∙ c.requires.entry.1)),
    )

pub take_two-requires-clause-sound : goal.take_two-requires-clause-sound
take_two-requires-clause-sound g c = subst (λ (q : Given). IsSound q) (sym c.in_ok-parent.ensures.kept.ran.given) c.requires.keeps.sound

pub take_two-requires-clause-first : goal.take_two-requires-clause-first
take_two-requires-clause-first g c =
    let z = g.R.Rows.shape c.args.rows.now in
    let v = g.R.Rows.view c.args.seat.now in
    let n = g.R.Rows.view c.naming.new.seat in
    let it = subst (λ (x : Option (Sight × ℕ)). Naming z v c.frames-frames.result (2 ^ 63 + c.from-word.result) x n) c.in-Some.is c.in_ok-parent.ensures.ok in
    let laws = c.laws.ensures.rows in
    subst (λ (s : Shape). IsSeen s c.in-Some.parent n) (sym c.in_ok-parent.ensures.fits.1) (seen_sight (keeps_ran laws.stood laws.standing tt c.in_ok-parent.ensures.kept.ran c.requires.keeps) it.sight)

pub take_two-requires-clause-second : goal.take_two-requires-clause-second
take_two-requires-clause-second g c =
    let n = g.R.Rows.view c.naming.new.seat in
    subst (λ (s : Shape). IsSeen s c.args.seen.now n) (sym c.in_ok-parent.ensures.fits.1) (seen_watched c.laws.ensures.rows.sights c.in_ok-parent.ensures.kept c.requires.seen)

pub take_two-requires-clause-apart : goal.take_two-requires-clause-apart
take_two-requires-clause-apart g c =
    let z = g.R.Rows.shape c.args.rows.now in
    let v = g.R.Rows.view c.args.seat.now in
    let n = g.R.Rows.view c.naming.new.seat in
    let it = subst (λ (x : Option (Sight × ℕ)). Naming z v c.frames-frames.result (2 ^ 63 + c.from-word.result) x n) c.in-Some.is c.in_ok-parent.ensures.ok in
    let laws = c.laws.ensures.rows in
    let there = keeps_ran laws.stood laws.standing tt c.in_ok-parent.ensures.kept.ran c.requires.keeps in
    link_apart c.in-Some.parent c.args.seen.now.glimpse.row (there.sound n.seen) it.sight.stands it.pair (ap (λ i. 2 ^ 63 + i) (c.from-word.ensures ∙ c.requires.entry.1))

pub returns-in_err-above-clause-err : goal.returns-in_err-above-clause-err
returns-in_err-above-clause-err g c =
    let z = g.R.Rows.shape c.args.rows.now in
    let v = g.R.Rows.view c.args.seat.now in
    let n = g.R.Rows.view c.naming.new.seat in
    let w = g.R.Rows.view c.take_two.new.seat in
    let p = err_from_is_err_and c.from_residual-in_err-above.result c.from_residual-in_err-above.ensures.1 in
    let p2 = p.2 in
    let why = c.in_err-above.field-0.0 in
    let e : why ≡ p.0 = cc in
    let P : Refusal → Type 0 = λ q. Stopped 2 z v q w in
    if_err c.from_residual-in_err-above.result p.0 P p.1 (subst P e (stopped_after c.in_ok-parent.ensures.kept.ran (subst (λ (s : Shape). Stopped 2 s n why w) c.in_ok-parent.ensures.fits.1 c.in_err-above.ensures.err)))

pub returns-in_err-above-clause-cause : goal.returns-in_err-above-clause-cause
returns-in_err-above-clause-cause g c =
    let z = g.R.Rows.shape c.args.rows.now in
    let v = g.R.Rows.view c.args.seat.now in
    let n = g.R.Rows.view c.naming.new.seat in
    let w = g.R.Rows.view c.take_two.new.seat in
    let it = subst (λ (x : Option (Sight × ℕ)). Naming z v c.frames-frames.result (2 ^ 63 + c.from-word.result) x n) c.in-Some.is c.in_ok-parent.ensures.ok in
    let p = err_from_is_err_and c.from_residual-in_err-above.result c.from_residual-in_err-above.ensures.1 in
    let p2 = p.2 in
    let why = c.in_err-above.field-0.0 in
    let e : why ≡ p.0 = cc in
    let P : Refusal → Type 0 = λ q. SinceFound c.args.seen.now v q w in
    if_err c.from_residual-in_err-above.result p.0 P p.1 (subst P e (both_since w why c.in-Some.parent c.args.seen.now c.in_ok-parent.ensures.kept it.sight c.in_err-above.ensures.cause))

pub unlink-requires-clause-unlinks : goal.unlink-requires-clause-unlinks
unlink-requires-clause-unlinks g c =
    let z = g.R.Rows.shape c.args.rows.now in
    let v = g.R.Rows.view c.args.seat.now in
    let n = g.R.Rows.view c.naming.new.seat in
    let t = g.R.Rows.view c.take_two.new.seat in
    let it = subst (λ (x : Option (Sight × ℕ)). Naming z v c.frames-frames.result (2 ^ 63 + c.from-word.result) x n) c.in-Some.is c.in_ok-parent.ensures.ok in
    let few : c.args.self.now.frames ≤ 2 ^ 32 = omega (arith, c.frames-frames.type_inv, c.frames-frames.ensures, ap (λ (p : Provider). p.frames) c.self.view_is) in
    let o = c.in_ok-above.ensures.ok in
    let two = subst (λ (s : Shape). TakesTwo s c.in-Some.parent c.args.seen.now n t) c.in_ok-parent.ensures.fits.1 o.2 in
    node_unlinks c.args.entry c.laws.ensures.rows c.requires.keeps few c.requires.childless c.requires.other c.requires.live c.requires.entry c.in_ok-parent.ensures.kept.ran two it.pair (ap (λ i. 2 ^ 63 + i) c.from-word.ensures) (c.in_ok-above.ensures.fits.1 ∙ c.in_ok-parent.ensures.fits.1) o.0 o.1

pub chill-requires-clause-absent : goal.chill-requires-clause-absent
chill-requires-clause-absent g c =
    let z = g.R.Rows.shape c.args.rows.now in
    let v = g.R.Rows.view c.args.seat.now in
    let n = g.R.Rows.view c.naming.new.seat in
    let t = g.R.Rows.view c.take_two.new.seat in
    let few : c.self.inside.stage.frames ≤ 2 ^ 32 = omega (arith, c.frames-frames.type_inv, c.frames-frames.ensures) in
    let k = subst (λ (p : Provider). Keeps z v p) (sym c.self.view_is) c.requires.keeps in
    let two = subst (λ (s : Shape). TakesTwo s c.in-Some.parent c.args.seen.now n t) c.in_ok-parent.ensures.fits.1 c.in_ok-above.ensures.ok.2 in
    node_absent c.args.entry c.laws.ensures.rows k few c.requires.childless c.requires.other c.requires.live c.requires.entry c.in_ok-parent.ensures.kept.ran two

pub chill-requires-clause-room : goal.chill-requires-clause-room
chill-requires-clause-room g c =
    let z = g.R.Rows.shape c.args.rows.now in
    let v = g.R.Rows.view c.args.seat.now in
    let n = g.R.Rows.view c.naming.new.seat in
    let t = g.R.Rows.view c.take_two.new.seat in
    let few : c.self.inside.stage.frames ≤ 2 ^ 32 = omega (arith, c.frames-frames.type_inv, c.frames-frames.ensures) in
    let k = subst (λ (p : Provider). Keeps z v p) (sym c.self.view_is) c.requires.keeps in
    let two = subst (λ (s : Shape). TakesTwo s c.in-Some.parent c.args.seen.now n t) c.in_ok-parent.ensures.fits.1 c.in_ok-above.ensures.ok.2 in
    node_room c.args.entry c.laws.ensures.rows k few c.requires.childless c.requires.other c.requires.live c.requires.entry c.in_ok-parent.ensures.kept.ran two

pub returns-clause-ok : goal.returns-clause-ok
returns-clause-ok g c =
    let z = g.R.Rows.shape c.args.rows.now in
    let v = g.R.Rows.view c.args.seat.now in
    let n = g.R.Rows.view c.naming.new.seat in
    let t = g.R.Rows.view c.take_two.new.seat in
    let few : c.self.inside.stage.frames ≤ 2 ^ 32 = omega (arith, c.frames-frames.type_inv, c.frames-frames.ensures) in
    let k = subst (λ (p : Provider). Keeps z v p) (sym c.self.view_is) c.requires.keeps in
    let two = subst (λ (s : Shape). TakesTwo s c.in-Some.parent c.args.seen.now n t) c.in_ok-parent.ensures.fits.1 c.in_ok-above.ensures.ok.2 in
    let w = went_as (c.in_ok-above.ensures.fits.1 ∙ c.in_ok-parent.ensures.fits.1) c.unlink.ensures.went in
    unhooked_as c.self.view_is c.chill.new.self c.self.inside.free _ c.chill.ensures refl
    (node_unhooked c.args.entry c.laws.ensures.rows k few c.requires.childless c.requires.other c.requires.live c.requires.entry c.in_ok-parent.ensures.kept.ran two c.in_ok-above.ensures.words w)

pub naming-requires-clause-sized : goal.naming-requires-clause-sized
naming-requires-clause-sized g c = sized_of c.requires.keeps (c.frames-frames.ensures ∙ ap (λ (p : Provider). p.frames) c.self.view_is)

pub returns-in_err-parent-clause-err : goal.returns-in_err-parent-clause-err
returns-in_err-parent-clause-err g c =
    let z = g.R.Rows.shape c.args.rows.now in
    let v = g.R.Rows.view c.args.seat.now in
    let n = g.R.Rows.view c.naming.new.seat in
    let p = err_from_is_err_and c.from_residual.result c.from_residual.ensures.1 in
    let p2 = p.2 in
    let why = c.in_err-parent.field-0.0 in
    let e : why ≡ p.0 = cc in
    let P : Refusal → Type 0 = λ q. Stopped 2 z v q n in
    if_err c.from_residual.result p.0 P p.1 (subst P e (halts_missed c.requires.held c.in_err-parent.ensures.err).stopped)

pub take_two-requires-clause-fits : goal.take_two-requires-clause-fits
take_two-requires-clause-fits g c = c.in_ok-parent.ensures.fits.0

pub take_two-requires-clause-actor : goal.take_two-requires-clause-actor
take_two-requires-clause-actor g c = let o = c.in_ok-parent.ensures in actor_on o.fits.1 o.kept c.requires.keeps.actor

pub take_two-requires-clause-held : goal.take_two-requires-clause-held
take_two-requires-clause-held g c = c.in_ok-parent.ensures.fits.2 ∙ c.requires.held

pub returns-in_err-above-clause-fits : goal.returns-in_err-above-clause-fits
returns-in_err-above-clause-fits g c = let o = c.in_ok-parent.ensures.fits in let e = c.in_err-above.ensures.fits in (e.0, e.1 ∙ o.1)

pub unlink-requires-clause-fits : goal.unlink-requires-clause-fits
unlink-requires-clause-fits g c = c.in_ok-above.ensures.fits.0

pub unlink-requires-clause-two : goal.unlink-requires-clause-two
unlink-requires-clause-two g c =
    let o = c.in_ok-above.ensures in
    two_held o.fits.1 o.ok.0 o.ok.1 o.ok.2.two

pub returns-clause-fits : goal.returns-clause-fits
returns-clause-fits g c = (c.unlink.ensures.fits.0, c.unlink.ensures.fits.1 ∙ (c.in_ok-above.ensures.fits.1 ∙ c.in_ok-parent.ensures.fits.1))
