use Rattle.std.proofs.Common.{◌≡◌, ◌<◌, ◌∙◌, ◌^◌, Bool, true, false, None, Some, rules, refl, sym, ap, subst, arith}
use Rattle.std.specs.Prelude.{Option}
use Rattle.std.proofs.lemmas.Result.{err_from_is_err_and}
use Rattle.btree_descent.specs.rows_trait.Views.{Shape}
use Rattle.row_image.specs.declared.sight.Sight.{Sight}
use Rattle.page_provider.specs.Cools.{CoolsIn, CoolsOrNot}
use Rattle.page_provider.specs.Ends.{HasRefused}
use Rattle.page_provider.specs.Finds.{Candidate, IsSeen, Stopped}
use Rattle.page_provider.specs.Providers.{Provider}
use Rattle.page_provider.specs.declared.refusal.Refusal.{Refusal}
use Rattle.page_provider.proofs.Cooled.{answered, answered_not, cool_broken, cool_missed, idle_bare, idle_zero, is_there, there_is}
use Rattle.page_provider.proofs.Keeping.{keeps_ran}
use Rattle.page_provider.proofs.Parts.{keeps_shape, row_unlike}
use Rattle.page_provider.proofs.Savings.{if_err}
use Rattle.page_provider.proofs.Unlinks.{seen_sight}
use Rattle.btree_descent.proofs.rows_trait.Runs.{ran_none}
use Rattle.page_provider.proofs.Mirrored.{cooled_saves, saves_after, saves_none, stopped_saves}
use Rattle.page_provider.proofs.Asks.{sized_of}
use Rattle.page_provider.proofs.pager.Pager.cool.Goals as goal

pub returns-then-self-clause-err : goal.returns-then-self-clause-err
returns-then-self-clause-err g c = cool_broken c.laws.ensures.rows c.requires.keeps c.requires.held (sym (ap (λ (p : Provider). p.broken) c.self.view_is) ∙ c.if-self.true)

pub returns-in_err-seen-clause-err : goal.returns-in_err-seen-clause-err
returns-in_err-seen-clause-err g c =
    let z = g.R.Rows.shape c.args.rows.now in
    let v = g.R.Rows.view c.args.seat.now in
    let n = g.R.Rows.view c.candidate.new.seat in
    let p = err_from_is_err_and c.from_residual.result c.from_residual.ensures.1 in
    let p2 = p.2 in
    let why = c.in_err-seen.field-0.0 in
    let e : why ≡ p.0 = cc in
    let P : Refusal → Type 0 = λ q. HasRefused 2 z Rattle.std.proofs.Common.[] v c.args.self.now q n c.args.self.now in
    if_err c.from_residual.result p.0 P p.1 (subst P e (cool_missed c.laws.ensures.rows c.requires.keeps c.requires.held c.in_err-seen.ensures.err))

pub returns-in_default-clause-ok : goal.returns-in_default-clause-ok
returns-in_default-clause-ok g c =
    let z = g.R.Rows.shape c.args.rows.now in
    let v = g.R.Rows.view c.args.seat.now in
    let n = g.R.Rows.view c.candidate.new.seat in
    let k = subst (λ (x : Option Sight). Candidate z v c.args.frame x n) c.in_default.is c.in_ok-seen.ensures.ok in
    idle_bare c.laws.ensures.rows c.requires.keeps (c.in_ok-seen.ensures.fits.2 ∙ c.requires.held) c.requires.cools k

pub returns-then-number-eq0-clause-ok : goal.returns-then-number-eq0-clause-ok
returns-then-number-eq0-clause-ok g c =
    let z = g.R.Rows.shape c.args.rows.now in
    let v = g.R.Rows.view c.args.seat.now in
    let n = g.R.Rows.view c.candidate.new.seat in
    let k = subst (λ (x : Option Sight). Candidate z v c.args.frame x n) c.in-Some.is c.in_ok-seen.ensures.ok in
    idle_zero c.laws.ensures.rows c.requires.keeps (c.in_ok-seen.ensures.fits.2 ∙ c.requires.held) c.requires.cools k (sym c.number.ensures ∙ c.if-number-eq0.true)

pub cool_seen-requires-clause-keeps : goal.cool_seen-requires-clause-keeps
cool_seen-requires-clause-keeps g c =
    let z = g.R.Rows.shape c.args.rows.now in
    let v = g.R.Rows.view c.args.seat.now in
    let n = g.R.Rows.view c.candidate.new.seat in
    let k = subst (λ (x : Option Sight). Candidate z v c.args.frame x n) c.in-Some.is c.in_ok-seen.ensures.ok in
    let laws = c.laws.ensures.rows in
    keeps_shape c.in_ok-seen.ensures.fits.1 (keeps_ran laws.stood laws.standing tt k.sight.ran c.requires.keeps)

pub cool_seen-requires-clause-seen : goal.cool_seen-requires-clause-seen
cool_seen-requires-clause-seen g c =
    let z = g.R.Rows.shape c.args.rows.now in
    let v = g.R.Rows.view c.args.seat.now in
    let n = g.R.Rows.view c.candidate.new.seat in
    let k = subst (λ (x : Option Sight). Candidate z v c.args.frame x n) c.in-Some.is c.in_ok-seen.ensures.ok in
    let laws = c.laws.ensures.rows in
    subst (λ (s : Shape). IsSeen s c.in-Some.seen n) (sym c.in_ok-seen.ensures.fits.1) (seen_sight (keeps_ran laws.stood laws.standing tt k.sight.ran c.requires.keeps) k.sight)

pub cool_seen-requires-clause-below : goal.cool_seen-requires-clause-below
cool_seen-requires-clause-below g c =
    let z = g.R.Rows.shape c.args.rows.now in
    let v = g.R.Rows.view c.args.seat.now in
    let n = g.R.Rows.view c.candidate.new.seat in
    let k = subst (λ (x : Option Sight). Candidate z v c.args.frame x n) c.in-Some.is c.in_ok-seen.ensures.ok in
    let laws = c.laws.ensures.rows in
    let low = k.sight.stands.stands.below in
    let few = ((keeps_ran laws.stood laws.standing tt k.sight.ran c.requires.keeps).sound n.seen).few in
    omega arith

pub returns-in_err-cool_seen-clause-err : goal.returns-in_err-cool_seen-clause-err
returns-in_err-cool_seen-clause-err g c =
    let z = g.R.Rows.shape c.args.rows.now in
    let v = g.R.Rows.view c.args.seat.now in
    let n = g.R.Rows.view c.candidate.new.seat in
    let u = g.R.Rows.view c.cool_seen.new.seat in
    let k = subst (λ (x : Option Sight). Candidate z v c.args.frame x n) c.in-Some.is c.in_ok-seen.ensures.ok in
    let p = err_from_is_err_and c.from_residual-in_err-cool_seen.result c.from_residual-in_err-cool_seen.ensures.1 in
    let p2 = p.2 in
    let why = c.in_err-cool_seen.field-0.0 in
    let e : why ≡ p.0 = cc in
    let P : Refusal → Type 0 = λ q. HasRefused 2 z Rattle.std.proofs.Common.[] v c.args.self.now q u c.cool_seen.new.self in
    let stopped = subst (λ (s : Shape). Stopped 2 s n why u) c.in_ok-seen.ensures.fits.1 c.in_err-cool_seen.ensures.err in
    let same = c.in_err-cool_seen.ensures.same in
    let whole : P why = subst (λ (x : Provider). HasRefused 2 z Rattle.std.proofs.Common.[] v c.args.self.now why u x) (sym same) (answered_not u c.args.self.now c.in-Some.seen c.laws.ensures.rows c.requires.keeps (c.in_ok-seen.ensures.fits.2 ∙ c.requires.held) k c.requires.held stopped c.in_err-cool_seen.ensures.cause) in
    if_err c.from_residual-in_err-cool_seen.result p.0 P p.1 (subst P e whole)

pub returns-clause-ok : goal.returns-clause-ok
returns-clause-ok g c =
    let z = g.R.Rows.shape c.args.rows.now in
    let v = g.R.Rows.view c.args.seat.now in
    let n = g.R.Rows.view c.candidate.new.seat in
    let u = g.R.Rows.view c.cool_seen.new.seat in
    let s = c.in-Some.seen in
    let k = subst (λ (x : Option Sight). Candidate z v c.args.frame x n) c.in-Some.is c.in_ok-seen.ensures.ok in
    let h = subst (λ (q : Shape). CoolsOrNot q n c.args.self.now s.node.number s.glimpse.row c.in_ok-cool_seen.field-0 u c.cool_seen.new.self) c.in_ok-seen.ensures.fits.1 c.in_ok-cool_seen.ensures.ok in
    let there : is_there c.in_ok-cool_seen.field-0 ≡ c.is_some.result = sym (c.is_some.ensures ∙ there_is c.in_ok-cool_seen.field-0) in
    subst (λ b. CoolsIn z c.args.frame v c.args.self.now b u c.cool_seen.new.self) there (answered u c.cool_seen.new.self s c.laws.ensures.rows c.requires.keeps (c.in_ok-seen.ensures.fits.2 ∙ c.requires.held) k c.in_ok-cool_seen.field-0 h)

pub returns-then-self-clause-unsaved : goal.returns-then-self-clause-unsaved
returns-then-self-clause-unsaved g c = saves_none (ran_none (g.R.Rows.shape c.args.rows.now).alone (g.R.Rows.view c.args.seat.now)) tt

pub returns-in_err-cool_seen-clause-unsaved : goal.returns-in_err-cool_seen-clause-unsaved
returns-in_err-cool_seen-clause-unsaved g c =
    let z = g.R.Rows.shape c.args.rows.now in
    let v = g.R.Rows.view c.args.seat.now in
    let n = g.R.Rows.view c.candidate.new.seat in
    let u = g.R.Rows.view c.cool_seen.new.seat in
    let k = subst (λ (x : Option Sight). Candidate z v c.args.frame x n) c.in-Some.is c.in_ok-seen.ensures.ok in
    let stopped = subst (λ (s : Shape). Stopped 2 s n c.in_err-cool_seen.field-0.0 u) c.in_ok-seen.ensures.fits.1 c.in_err-cool_seen.ensures.err in
    saves_after k.sight.ran (stopped_saves c.in_err-cool_seen.ensures.same stopped)

pub returns-clause-unsaved : goal.returns-clause-unsaved
returns-clause-unsaved g c =
    let z = g.R.Rows.shape c.args.rows.now in
    let v = g.R.Rows.view c.args.seat.now in
    let n = g.R.Rows.view c.candidate.new.seat in
    let u = g.R.Rows.view c.cool_seen.new.seat in
    let s = c.in-Some.seen in
    let k = subst (λ (x : Option Sight). Candidate z v c.args.frame x n) c.in-Some.is c.in_ok-seen.ensures.ok in
    let h = subst (λ (q : Shape). CoolsOrNot q n c.args.self.now s.node.number s.glimpse.row c.in_ok-cool_seen.field-0 u c.cool_seen.new.self) c.in_ok-seen.ensures.fits.1 c.in_ok-cool_seen.ensures.ok in
    saves_after k.sight.ran (cooled_saves s.node.number s.glimpse.row c.in_ok-cool_seen.field-0 h)

pub candidate-requires-clause-sized : goal.candidate-requires-clause-sized
candidate-requires-clause-sized g c = sized_of c.requires.keeps (c.frames-frames.ensures ∙ ap (λ (p : Provider). p.frames) c.self.view_is)

pub cool_seen-requires-clause-fits : goal.cool_seen-requires-clause-fits
cool_seen-requires-clause-fits g c = c.in_ok-seen.ensures.fits.0

pub cool_seen-requires-clause-held : goal.cool_seen-requires-clause-held
cool_seen-requires-clause-held g c = c.in_ok-seen.ensures.fits.2 ∙ c.requires.held

pub returns-in_err-cool_seen-clause-fits : goal.returns-in_err-cool_seen-clause-fits
returns-in_err-cool_seen-clause-fits g c = let o = c.in_ok-seen.ensures.fits in let e = c.in_err-cool_seen.ensures.fits in (e.0, e.1 ∙ o.1)

pub returns-clause-fits : goal.returns-clause-fits
returns-clause-fits g c = let o = c.in_ok-seen.ensures.fits in let e = c.in_ok-cool_seen.ensures.fits in (e.0, e.1 ∙ o.1)

pub returns-in_err-seen-clause-device : goal.returns-in_err-seen-clause-device
returns-in_err-seen-clause-device g c =
    let p = err_from_is_err_and c.from_residual.result c.from_residual.ensures.1 in
    let p2 = p.2 in
    let why = c.in_err-seen.field-0.0 in
    let e : why ≡ p.0 = cc in
    row_unlike c.from_residual.result p.1 e c.in_err-seen.ensures.err.kind

pub returns-in_err-cool_seen-clause-device : goal.returns-in_err-cool_seen-clause-device
returns-in_err-cool_seen-clause-device g c =
    let p = err_from_is_err_and c.from_residual-in_err-cool_seen.result c.from_residual-in_err-cool_seen.ensures.1 in
    let p2 = p.2 in
    let why = c.in_err-cool_seen.field-0.0 in
    let e : why ≡ p.0 = cc in
    row_unlike c.from_residual-in_err-cool_seen.result p.1 e c.in_err-cool_seen.ensures.err.kind
