use Rattle.std.proofs.Common.{◌≡◌, ◌∙◌, ◌+◌, refl, length, slice_get, arith, sym, ap, subst}
use Rattle.std.specs.Prelude.{IsSome}
use Rattle.std.proofs.lemmas.Result.{err_from_is_err_and}
use Rattle.btree_descent.specs.rows_trait.Views.{Shape}
use Rattle.cooling_stage.specs.Queue.{behind, found}
use Rattle.page_provider.specs.declared.leaving.Leave.{Leave}
use Rattle.page_provider.specs.declared.refusal.Refusal.{Refusal}
use Rattle.page_provider.specs.Inside.{Missed}
use Rattle.page_provider.specs.Leaves.{IsFlushed, MissedLater, Tells}
use Rattle.page_provider.specs.Providers.{Provider}
use Rattle.page_provider.proofs.Flushing.{flushed_ran}
use Rattle.page_provider.proofs.Judging.{Walked, slice_some, walked_above, walked_all, walked_few, walked_held, walked_keeps, walked_missed, walked_none, walked_some, walked_there, walked_yes}
use Rattle.page_provider.proofs.Parts.{keeps_shape}
use Rattle.page_provider.proofs.Savings.{if_err}
use Rattle.page_provider.proofs.pager.Pager.choose.Goals as goal
use Rattle.page_provider.proofs.pager.Pager.choose.Goals.{in-Above, in-Held}

pub loop-place-init : goal.loop-place-init
loop-place-init g c = record {
  fits = (c.requires.fits, refl);
  walked = walked_none (c.head-next.ensures ∙ ap (λ (p : Provider). slice_get p.queue 0) c.self.view_is);
}

pub unreachable-requires : goal.unreachable-requires
unreachable-requires g c =
    let a = c.len-place-end.ensures.answer in
    let b = ap (λ (p : Provider). length p.queue) c.self.view_is in
    let d = c.loop-place-test.true in
    slice_some c.args.self.now.queue c.loop-place._place (omega arith) (sym c.in_default.is ∙ c.loop-place.invariant.walked.next_is)

pub judge-requires-clause-fits : goal.judge-requires-clause-fits
judge-requires-clause-fits g c = c.loop-place.invariant.fits.0

pub judge-requires-clause-keeps : goal.judge-requires-clause-keeps
judge-requires-clause-keeps g c = keeps_shape c.loop-place.invariant.fits.1 (walked_keeps c.laws.ensures.rows c.requires.keeps (walked_some c.in-Some.is c.loop-place.invariant.walked))

pub judge-requires-clause-held : goal.judge-requires-clause-held
judge-requires-clause-held g c = c.loop-place.invariant.walked.free ∙ c.requires.held

pub judge-requires-clause-flushed : goal.judge-requires-clause-flushed
judge-requires-clause-flushed g c =
    subst (λ (s : Shape). IsFlushed s c.args.flushed (g.R.Rows.view c.loop-place.seat)) (sym c.loop-place.invariant.fits.1)
    (flushed_ran c.laws.ensures.rows c.requires.held c.loop-place.invariant.walked.ran c.requires.flushed)

pub judge-requires-clause-there : goal.judge-requires-clause-there
judge-requires-clause-there g c = walked_there c.laws.ensures.rows c.requires.keeps (walked_some c.in-Some.is c.loop-place.invariant.walked)

pub returns-in_err-judge-clause-fits : goal.returns-in_err-judge-clause-fits
returns-in_err-judge-clause-fits g c = (c.judge.ensures.fits.0, c.judge.ensures.fits.1 ∙ c.loop-place.invariant.fits.1)

pub returns-in_err-judge-clause-err : goal.returns-in_err-judge-clause-err
returns-in_err-judge-clause-err g c =
    let z = g.R.Rows.shape c.args.rows.now in
    let v = g.R.Rows.view c.args.seat.now in
    let u = g.R.Rows.view c.loop-place.seat in
    let w = g.R.Rows.view c.judge.new.seat in
    let p = err_from_is_err_and c.from_residual.result c.from_residual.ensures.1 in
    let p2 = p.2 in
    let why = c.in_err-judge.field-0.0 in
    let e : why ≡ p.0 = cc in
    let P : Refusal → Type 0 = λ q. MissedLater z v q w in
    if_err c.from_residual.result p.0 P p.1
    (subst P e (walked_missed c.laws.ensures.rows c.requires.keeps (walked_some c.in-Some.is c.loop-place.invariant.walked) (subst (λ (s : Shape). Missed s u why w) c.loop-place.invariant.fits.1 c.in_err-judge.ensures.err)))

pub returns-in-Yes-clause-fits : goal.returns-in-Yes-clause-fits
returns-in-Yes-clause-fits g c = (c.judge.ensures.fits.0, c.judge.ensures.fits.1 ∙ c.loop-place.invariant.fits.1)

pub returns-in-Yes-clause-ok : goal.returns-in-Yes-clause-ok
returns-in-Yes-clause-ok g c =
    let u = g.R.Rows.view c.loop-place.seat in
    let w = g.R.Rows.view c.judge.new.seat in
    walked_yes c.laws.ensures.rows c.requires.keeps (walked_some c.in-Some.is c.loop-place.invariant.walked)
    (subst (λ (s : Shape × Leave). Tells s.0 u c.in-Some.entry.page s.1 w) (λ i. (c.loop-place.invariant.fits.1 i, c.in-Yes.is i)) c.in_ok-judge.ensures.ok)

pub overflow_add-held : goal.overflow_add-held
overflow_add-held g c =
    let a = c.len-place-end.ensures.answer in
    let b = ap (λ (p : Provider). length p.queue) c.self.view_is in
    let d = c.loop-place-test.true in
    let few = walked_few c.laws.ensures.rows c.requires.keeps (omega arith) c.loop-place.invariant.walked in
    let e = c.frames-frames.ensures in
    let h = ap (λ (p : Provider). p.frames) c.self.view_is in
    let fits = c.frames-frames.type_inv in
    omega arith

pub behind-next-requires : goal.behind-next-requires
behind-next-requires g c =
    let there = walked_there c.laws.ensures.rows c.requires.keeps (walked_some c.in-Some.is c.loop-place.invariant.walked) in
    subst (λ o. IsSome o) (sym (ap (λ (p : Provider). found c.in-Some.entry.page p.queue) c.self.view_is ∙ there)) refl

pub loop-place-preserved : goal.loop-place-preserved
loop-place-preserved g c =
    let z = g.R.Rows.shape c.args.rows.now in
    let v = g.R.Rows.view c.args.seat.now in
    let u = g.R.Rows.view c.loop-place.seat in
    let x = g.R.Rows.view c.judge.new.seat in
    let k = c.args.self.now in
    let i = c.loop-place._place in
    let laws = c.laws.ensures.rows in
    let w = walked_some c.in-Some.is c.loop-place.invariant.walked in
    let next = c.behind-next.ensures ∙ ap (λ (p : Provider). slice_get (behind c.in-Some.entry.page p.queue) 0) c.self.view_is in
    record {
      fits = (c.judge.ensures.fits.0, c.judge.ensures.fits.1 ∙ c.loop-place.invariant.fits.1);
      walked = elim c.match-branch-2.branch [
        | in-Above b ↦
            subst (λ n. Walked z v k (i + 1) c.behind-next.result n x) (sym b.held-is)
            (walked_above laws c.requires.keeps w (subst (λ (s : Shape × Leave). Tells s.0 u c.in-Some.entry.page s.1 x) (λ j. (c.loop-place.invariant.fits.1 j, b.in-Above.is j)) c.in_ok-judge.ensures.ok) next)
        | in-Held b ↦
            subst (λ n. Walked z v k (i + 1) c.behind-next.result n x) (sym b.held-is)
            (walked_held laws c.requires.keeps w (subst (λ (s : Shape × Leave). Tells s.0 u c.in-Some.entry.page s.1 x) (λ j. (c.loop-place.invariant.fits.1 j, b.in-Held.is j)) c.in_ok-judge.ensures.ok) next)
      ];
    }

pub returns-clause-fits : goal.returns-clause-fits
returns-clause-fits g c = c.loop-place.invariant.fits

pub returns-clause-ok : goal.returns-clause-ok
returns-clause-ok g c =
    let a = c.len-place-end.ensures.answer in
    let b = ap (λ (p : Provider). length p.queue) c.self.view_is in
    let d = c.loop-place-test.false in
    let e = c.loop-place.auto._place-end in
    walked_all c.laws.ensures.rows c.requires.keeps (omega arith) c.loop-place.invariant.walked
