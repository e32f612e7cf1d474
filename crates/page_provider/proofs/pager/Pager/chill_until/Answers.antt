use Rattle.std.proofs.Common.{◌≡◌, ◌∙◌, ◌+◌, ℕ, None, Some, refl, arith, sym, ap, subst}
use Rattle.std.proofs.lemmas.Result.{err_from_is_err_and}
use Rattle.btree_descent.specs.rows_trait.declared.view.View.{View}
use Rattle.btree_descent.specs.rows_trait.Views.{Shape}
use Rattle.page_provider.specs.declared.leaving.Leave.{Leave}
use Rattle.page_provider.specs.declared.leaving.Leave.TheVariants as leave
use Rattle.page_provider.specs.declared.refusal.Refusal.{Refusal}
use Rattle.page_provider.specs.Ends.{HasRefused}
use Rattle.page_provider.specs.Finds.{Stalls}
use Rattle.page_provider.specs.Inside.{Missed}
use Rattle.page_provider.specs.Leaves.{HasHalted, IsFlushed, Tells}
use Rattle.page_provider.specs.Providers.{Provider}
use Rattle.page_provider.proofs.Emptying.{IsChilling, chilling_few, chilling_none, idle_chills, idle_nobody, stepped_above, stepped_flushed, stepped_held, stepped_missed, stepped_others, stepped_there, stepped_yes, then_stalled, turned}
use Rattle.page_provider.proofs.Parts.{keeps_shape}
use Rattle.page_provider.proofs.Savings.{if_err}
use Rattle.page_provider.proofs.pager.Pager.chill_until.Goals as goal
use Rattle.page_provider.proofs.pager.Pager.chill_until.Goals.{in-Above, in-Held}

-- a verdict, said so too
told : {y z : Shape} {w x : View} {page : ℕ} {said : Leave} (answer : Leave) → y ≡ z → said ≡ answer → Tells y w page said x → Tells z w page answer x
told {w = w} {x = x} {page = page} answer shape same t = subst (λ (s : Shape × Leave). Tells s.0 w page s.1 x) (λ i. (shape i, same i)) t

pub loop-turn-init : goal.loop-turn-init
loop-turn-init g c = record {
  fits = (c.requires.fits, refl);
  chilling = chilling_none c.laws.ensures.rows c.requires.keeps c.requires.held c.requires.flushed c.requires.few c.requires.none;
}

pub turn-requires-clause-fits : goal.turn-requires-clause-fits
turn-requires-clause-fits g c = c.loop-turn.invariant.fits.0

pub turn-requires-clause-keeps : goal.turn-requires-clause-keeps
turn-requires-clause-keeps g c = keeps_shape c.loop-turn.invariant.fits.1 c.loop-turn.invariant.chilling.chills.moved.goes.keeps

pub turn-requires-clause-held : goal.turn-requires-clause-held
turn-requires-clause-held g c = c.loop-turn.invariant.chilling.chills.moved.goes.held

pub returns-in_err-entry-clause-fits : goal.returns-in_err-entry-clause-fits
returns-in_err-entry-clause-fits g c = (c.turn.ensures.fits.0, c.turn.ensures.fits.1 ∙ c.loop-turn.invariant.fits.1)

pub returns-in_err-entry-clause-err : goal.returns-in_err-entry-clause-err
returns-in_err-entry-clause-err g c =
    let z = g.R.Rows.shape c.args.rows.now in
    let v = g.R.Rows.view c.args.seat.now in
    let u = g.R.Rows.view c.loop-turn.seat in
    let w = g.R.Rows.view c.turn.new.seat in
    let is = c.turn.new.self in
    let p = err_from_is_err_and c.from_residual.result c.from_residual.ensures.1 in
    let p2 = p.2 in
    let why = c.in_err-entry.field-0.0 in
    let e : why ≡ p.0 = cc in
    let P : Refusal → Type 0 = λ q. HasRefused 3 z c.args.path.now v c.args.self.now q w is in
    let s = subst (λ (y : Shape). Stalls 2 y u c.loop-turn.self why w is) c.loop-turn.invariant.fits.1 c.in_err-entry.ensures.err in
    if_err c.from_residual.result p.0 P p.1 (subst P e (then_stalled c.laws.ensures.rows c.loop-turn.invariant.chilling.chills s).0)

pub returns-in_err-entry-clause-halted : goal.returns-in_err-entry-clause-halted
returns-in_err-entry-clause-halted g c =
    let z = g.R.Rows.shape c.args.rows.now in
    let v = g.R.Rows.view c.args.seat.now in
    let u = g.R.Rows.view c.loop-turn.seat in
    let w = g.R.Rows.view c.turn.new.seat in
    let is = c.turn.new.self in
    let p = err_from_is_err_and c.from_residual.result c.from_residual.ensures.1 in
    let p2 = p.2 in
    let why = c.in_err-entry.field-0.0 in
    let e : why ≡ p.0 = cc in
    let P : Refusal → Type 0 = λ q. HasHalted z v c.args.self.now q w is in
    let s = subst (λ (y : Shape). Stalls 2 y u c.loop-turn.self why w is) c.loop-turn.invariant.fits.1 c.in_err-entry.ensures.err in
    if_err c.from_residual.result p.0 P p.1 (subst P e (then_stalled c.laws.ensures.rows c.loop-turn.invariant.chilling.chills s).1)

pub returns-in_default-clause-fits : goal.returns-in_default-clause-fits
returns-in_default-clause-fits g c = (c.turn.ensures.fits.0, c.turn.ensures.fits.1 ∙ c.loop-turn.invariant.fits.1)

pub returns-in_default-clause-ok : goal.returns-in_default-clause-ok
returns-in_default-clause-ok g c =
    let j = c.loop-turn.invariant.chilling in
    let t = turned c.args.path.now (g.R.Rows.view c.loop-turn.seat) (g.R.Rows.view c.turn.new.seat) c.loop-turn.self c.turn.new.self None c.loop-turn.invariant.fits.1 c.in_default.is c.in_ok-entry.ensures.ok in
    (idle_chills c.laws.ensures.rows j t.0, idle_nobody c.laws.ensures.rows j t.0)

pub returns-in_default-clause-none_cools : goal.returns-in_default-clause-none_cools
returns-in_default-clause-none_cools g c = (turned c.args.path.now (g.R.Rows.view c.loop-turn.seat) (g.R.Rows.view c.turn.new.seat) c.loop-turn.self c.turn.new.self None c.loop-turn.invariant.fits.1 c.in_default.is c.in_ok-entry.ensures.ok).1

pub judge-requires-clause-flushed : goal.judge-requires-clause-flushed
judge-requires-clause-flushed g c =
    let s = turned c.args.path.now (g.R.Rows.view c.loop-turn.seat) (g.R.Rows.view c.turn.new.seat) c.loop-turn.self c.turn.new.self (Some c.in-Some.entry) c.loop-turn.invariant.fits.1 c.in-Some.is c.in_ok-entry.ensures.ok in
    subst (λ (y : Shape). IsFlushed y c.args.flushed (g.R.Rows.view c.turn.new.seat)) (sym (c.turn.ensures.fits.1 ∙ c.loop-turn.invariant.fits.1)) (stepped_flushed c.laws.ensures.rows c.loop-turn.invariant.chilling s)

pub judge-requires-clause-there : goal.judge-requires-clause-there
judge-requires-clause-there g c =
    let s = turned c.args.path.now (g.R.Rows.view c.loop-turn.seat) (g.R.Rows.view c.turn.new.seat) c.loop-turn.self c.turn.new.self (Some c.in-Some.entry) c.loop-turn.invariant.fits.1 c.in-Some.is c.in_ok-entry.ensures.ok in
    stepped_there c.laws.ensures.rows c.loop-turn.invariant.chilling s

pub returns-in_err-judge-clause-fits : goal.returns-in_err-judge-clause-fits
returns-in_err-judge-clause-fits g c = (c.judge.ensures.fits.0, c.judge.ensures.fits.1 ∙ (c.turn.ensures.fits.1 ∙ c.loop-turn.invariant.fits.1))

pub returns-in_err-judge-clause-err : goal.returns-in_err-judge-clause-err
returns-in_err-judge-clause-err g c =
    let z = g.R.Rows.shape c.args.rows.now in
    let v = g.R.Rows.view c.args.seat.now in
    let w = g.R.Rows.view c.turn.new.seat in
    let x = g.R.Rows.view c.judge.new.seat in
    let is = c.turn.new.self in
    let p = err_from_is_err_and c.from_residual-in_err-judge.result c.from_residual-in_err-judge.ensures.1 in
    let p2 = p.2 in
    let why = c.in_err-judge.field-0.0 in
    let e : why ≡ p.0 = cc in
    let P : Refusal → Type 0 = λ q. HasRefused 3 z c.args.path.now v c.args.self.now q x is in
    let s = turned c.args.path.now (g.R.Rows.view c.loop-turn.seat) (g.R.Rows.view c.turn.new.seat) c.loop-turn.self c.turn.new.self (Some c.in-Some.entry) c.loop-turn.invariant.fits.1 c.in-Some.is c.in_ok-entry.ensures.ok in
    let m = subst (λ (y : Shape). Missed y w why x) (c.turn.ensures.fits.1 ∙ c.loop-turn.invariant.fits.1) c.in_err-judge.ensures.err in
    if_err c.from_residual-in_err-judge.result p.0 P p.1 (subst P e (stepped_missed c.laws.ensures.rows c.loop-turn.invariant.chilling s m).0)

pub returns-in_err-judge-clause-halted : goal.returns-in_err-judge-clause-halted
returns-in_err-judge-clause-halted g c =
    let z = g.R.Rows.shape c.args.rows.now in
    let v = g.R.Rows.view c.args.seat.now in
    let w = g.R.Rows.view c.turn.new.seat in
    let x = g.R.Rows.view c.judge.new.seat in
    let is = c.turn.new.self in
    let p = err_from_is_err_and c.from_residual-in_err-judge.result c.from_residual-in_err-judge.ensures.1 in
    let p2 = p.2 in
    let why = c.in_err-judge.field-0.0 in
    let e : why ≡ p.0 = cc in
    let P : Refusal → Type 0 = λ q. HasHalted z v c.args.self.now q x is in
    let s = turned c.args.path.now (g.R.Rows.view c.loop-turn.seat) (g.R.Rows.view c.turn.new.seat) c.loop-turn.self c.turn.new.self (Some c.in-Some.entry) c.loop-turn.invariant.fits.1 c.in-Some.is c.in_ok-entry.ensures.ok in
    let m = subst (λ (y : Shape). Missed y w why x) (c.turn.ensures.fits.1 ∙ c.loop-turn.invariant.fits.1) c.in_err-judge.ensures.err in
    if_err c.from_residual-in_err-judge.result p.0 P p.1 (subst P e (stepped_missed c.laws.ensures.rows c.loop-turn.invariant.chilling s m).1)

pub returns-in-Yes-clause-fits : goal.returns-in-Yes-clause-fits
returns-in-Yes-clause-fits g c = (c.judge.ensures.fits.0, c.judge.ensures.fits.1 ∙ (c.turn.ensures.fits.1 ∙ c.loop-turn.invariant.fits.1))

pub returns-in-Yes-clause-ok : goal.returns-in-Yes-clause-ok
returns-in-Yes-clause-ok g c =
    let s = turned c.args.path.now (g.R.Rows.view c.loop-turn.seat) (g.R.Rows.view c.turn.new.seat) c.loop-turn.self c.turn.new.self (Some c.in-Some.entry) c.loop-turn.invariant.fits.1 c.in-Some.is c.in_ok-entry.ensures.ok in
    stepped_yes c.laws.ensures.rows c.loop-turn.invariant.chilling s (told leave.Yes (c.turn.ensures.fits.1 ∙ c.loop-turn.invariant.fits.1) c.in-Yes.is c.in_ok-judge.ensures.ok)

pub overflow_add-held : goal.overflow_add-held
overflow_add-held g c =
    let few = chilling_few c.laws.ensures.rows c.loop-turn.invariant.chilling in
    let a = few.1 in
    let b = few.2 in
    let d = c.frames-turn-end.ensures in
    let e = ap (λ (p : Provider). p.frames) c.self.view_is in
    let fits = c.frames-turn-end.type_inv in
    omega arith

pub loop-turn-preserved : goal.loop-turn-preserved
loop-turn-preserved g c =
    let z = g.R.Rows.shape c.args.rows.now in
    let v = g.R.Rows.view c.args.seat.now in
    let x = g.R.Rows.view c.judge.new.seat in
    let laws = c.laws.ensures.rows in
    let j = c.loop-turn.invariant.chilling in
    let shape = c.turn.ensures.fits.1 ∙ c.loop-turn.invariant.fits.1 in
    let s = turned c.args.path.now (g.R.Rows.view c.loop-turn.seat) (g.R.Rows.view c.turn.new.seat) c.loop-turn.self c.turn.new.self (Some c.in-Some.entry) c.loop-turn.invariant.fits.1 c.in-Some.is c.in_ok-entry.ensures.ok in
    record {
      fits = (c.judge.ensures.fits.0, c.judge.ensures.fits.1 ∙ shape);
      chilling = elim c.match-branch-4.branch [
        | in-Above b ↦
            subst (λ n. IsChilling z c.args.path.now v c.args.self.now c.args.flushed (c.loop-turn._turn + 1) n x c.turn.new.self) (sym b.held-is)
            (stepped_above laws j s (told leave.Above shape b.in-Above.is c.in_ok-judge.ensures.ok))
        | in-Held b ↦
            subst (λ n. IsChilling z c.args.path.now v c.args.self.now c.args.flushed (c.loop-turn._turn + 1) n x c.turn.new.self) (sym b.held-is)
            (stepped_held laws j s (told leave.Held shape b.in-Held.is c.in_ok-judge.ensures.ok))
      ];
    }

pub unreachable-requires : goal.unreachable-requires
unreachable-requires g c =
    let few = chilling_few c.laws.ensures.rows c.loop-turn.invariant.chilling in
    let a = few.0 in
    let b = few.2 in
    let d = c.frames-turn-end.ensures in
    let e = ap (λ (p : Provider). p.frames) c.self.view_is in
    let last = c.loop-turn-test.false in
    omega arith

pub returns-in-Yes-clause-others : goal.returns-in-Yes-clause-others
returns-in-Yes-clause-others g c =
    let s = turned c.args.path.now (g.R.Rows.view c.loop-turn.seat) (g.R.Rows.view c.turn.new.seat) c.loop-turn.self c.turn.new.self (Some c.in-Some.entry) c.loop-turn.invariant.fits.1 c.in-Some.is c.in_ok-entry.ensures.ok in
    stepped_others c.laws.ensures.rows c.loop-turn.invariant.chilling s (told leave.Yes (c.turn.ensures.fits.1 ∙ c.loop-turn.invariant.fits.1) c.in-Yes.is c.in_ok-judge.ensures.ok)
