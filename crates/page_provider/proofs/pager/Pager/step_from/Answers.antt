use Rattle.std.proofs.Common.{◌≡◌, ◌==◌, false, Option, sym, ap, subst, ◌∙◌, arith}
use Rattle.std.proofs.lemmas.Result.{err_from_is_err_and, IfOk-weaker}
use Rattle.map_model.specs.Lists.{any}
use Rattle.cooling_stage.specs.declared.stage.Cooling.{Cooling}
use Rattle.btree_descent.specs.rows_trait.Views.{Shape}
use Rattle.page_provider.specs.Cools.{CoolsOrNot, Steps}
use Rattle.page_provider.specs.Finds.{Candidate, Halts, IsSeen, SinceFound, Stopped}
use Rattle.page_provider.specs.declared.refusal.Refusal.{Refusal}
use Rattle.page_provider.proofs.Hands.{any_is, halts_up, err_both, candidate_cooled, candidate_few, candidate_framed, candidate_halts, candidate_none, candidate_seen, candidate_zero, there}
use Rattle.page_provider.proofs.Moving.{missed_halts}
use Rattle.page_provider.proofs.Parts.{keeps_shape}
use Rattle.page_provider.proofs.Savings.{if_err}
use Rattle.page_provider.proofs.pager.Pager.step_from.Goals as goal
use Rattle.page_provider.specs.Providers.{Provider}
use Rattle.page_provider.proofs.Asks.{sized_of}
use Rattle.page_provider.proofs.pager.Pager.step_from.Goals.{then-number-eq0-via-then-number-eq0, then-number-eq0-via-else-number-eq0+then-contains}

pub returns-in_default-clause-ok : goal.returns-in_default-clause-ok
returns-in_default-clause-ok g c =
    candidate_none c.args.path.now c.laws.ensures.rows c.requires.keeps (c.in_ok-seen.ensures.fits.2 ∙ c.requires.held)
    (subst (λ s. Candidate (g.R.Rows.shape c.args.rows.now) (g.R.Rows.view c.args.seat.now) c.args.frame s (g.R.Rows.view c.candidate.new.seat)) c.in_default.is c.in_ok-seen.ensures.ok)

pub returns-then-number-eq0-clause-ok : goal.returns-then-number-eq0-clause-ok
returns-then-number-eq0-clause-ok g c =
    let h = subst (λ s. Candidate (g.R.Rows.shape c.args.rows.now) (g.R.Rows.view c.args.seat.now) c.args.frame s (g.R.Rows.view c.candidate.new.seat)) c.in-Some.is c.in_ok-seen.ensures.ok in
    elim c.then-number-eq0.branch [
      | then-number-eq0-via-then-number-eq0 w ↦ candidate_zero c.laws.ensures.rows c.requires.keeps (c.in_ok-seen.ensures.fits.2 ∙ c.requires.held) h c.args.path.now (sym c.number.ensures ∙ w.if-number-eq0.true)
      | then-number-eq0-via-else-number-eq0+then-contains w ↦ candidate_framed c.laws.ensures.rows c.requires.keeps (c.in_ok-seen.ensures.fits.2 ∙ c.requires.held) h c.args.path.now
          (ap (any (λ i. i == c.in-Some.seen.glimpse.row)) (sym w.frames.ensures) ∙ (any_is w.frames.result.now c.in-Some.seen.glimpse.row w.contains.result w.contains.ensures.cases ∙ w.if-contains.true))
    ]

pub cool_seen-requires-clause-keeps : goal.cool_seen-requires-clause-keeps
cool_seen-requires-clause-keeps g c =
    let h = subst (λ s. Candidate (g.R.Rows.shape c.args.rows.now) (g.R.Rows.view c.args.seat.now) c.args.frame s (g.R.Rows.view c.candidate.new.seat)) c.in-Some.is c.in_ok-seen.ensures.ok in
    keeps_shape c.in_ok-seen.ensures.fits.1 (there c.laws.ensures.rows c.requires.keeps (c.in_ok-seen.ensures.fits.2 ∙ c.requires.held) h)

pub cool_seen-requires-clause-seen : goal.cool_seen-requires-clause-seen
cool_seen-requires-clause-seen g c =
    let h = subst (λ s. Candidate (g.R.Rows.shape c.args.rows.now) (g.R.Rows.view c.args.seat.now) c.args.frame s (g.R.Rows.view c.candidate.new.seat)) c.in-Some.is c.in_ok-seen.ensures.ok in
    subst (λ (z : Shape). IsSeen z c.in-Some.seen (g.R.Rows.view c.candidate.new.seat)) (sym c.in_ok-seen.ensures.fits.1)
    (candidate_seen c.laws.ensures.rows c.requires.keeps (c.in_ok-seen.ensures.fits.2 ∙ c.requires.held) h)

pub cool_seen-requires-clause-below : goal.cool_seen-requires-clause-below
cool_seen-requires-clause-below g c =
    let h = subst (λ s. Candidate (g.R.Rows.shape c.args.rows.now) (g.R.Rows.view c.args.seat.now) c.args.frame s (g.R.Rows.view c.candidate.new.seat)) c.in-Some.is c.in_ok-seen.ensures.ok in
    candidate_few c.laws.ensures.rows c.requires.keeps (c.in_ok-seen.ensures.fits.2 ∙ c.requires.held) h

pub returns-clause-ok : goal.returns-clause-ok
returns-clause-ok g c =
    let z = g.R.Rows.shape c.args.rows.now in
    let v = g.R.Rows.view c.args.seat.now in
    let t = g.R.Rows.view c.candidate.new.seat in
    let u = g.R.Rows.view c.cool_seen.new.seat in
    let h = subst (λ s. Candidate z v c.args.frame s t) c.in-Some.is c.in_ok-seen.ensures.ok in
    let off : any (λ i. i == c.in-Some.seen.glimpse.row) c.args.path.now ≡ false =
    ap (any (λ i. i == c.in-Some.seen.glimpse.row)) (sym c.frames.ensures) ∙ (any_is c.frames.result.now c.in-Some.seen.glimpse.row c.contains.result c.contains.ensures.cases ∙ c.if-contains.false) in
    let P : Option Cooling → Type 0 = λ done. CoolsOrNot (g.R.Rows.shape c.candidate.new.rows) t c.args.self.now c.in-Some.seen.node.number c.in-Some.seen.glimpse.row done u c.cool_seen.new.self in
    let Q : Option Cooling → Type 0 = λ done. Steps z c.args.path.now c.args.frame v c.args.self.now done u c.cool_seen.new.self in
    IfOk-weaker c.cool_seen.result P Q (λ done x. candidate_cooled c.laws.ensures.rows c.requires.keeps (c.in_ok-seen.ensures.fits.2 ∙ c.requires.held) h c.args.path.now u c.cool_seen.new.self (λ e. c.if-number-eq0.false (c.number.ensures ∙ e)) off done
    (subst (λ (y : Shape). CoolsOrNot y t c.args.self.now c.in-Some.seen.node.number c.in-Some.seen.glimpse.row done u c.cool_seen.new.self) c.in_ok-seen.ensures.fits.1 x)) c.cool_seen.ensures.ok

pub returns-clause-err : goal.returns-clause-err
returns-clause-err g c =
    let z = g.R.Rows.shape c.args.rows.now in
    let v = g.R.Rows.view c.args.seat.now in
    let t = g.R.Rows.view c.candidate.new.seat in
    let u = g.R.Rows.view c.cool_seen.new.seat in
    let h = subst (λ s. Candidate z v c.args.frame s t) c.in-Some.is c.in_ok-seen.ensures.ok in
    let P : Refusal → Type 0 = λ why. Stopped 2 (g.R.Rows.shape c.candidate.new.rows) t why u in
    let Q : Refusal → Type 0 = λ why. SinceFound c.in-Some.seen t why u in
    let W : Refusal → Type 0 = λ why. Halts 2 z v why u in
    err_both P Q W c.cool_seen.result (λ why a b. candidate_halts c.laws.ensures.rows c.requires.keeps (c.in_ok-seen.ensures.fits.2 ∙ c.requires.held) h (subst (λ (y : Shape). Stopped 2 y t why u) c.in_ok-seen.ensures.fits.1 a) b) c.cool_seen.ensures.err c.cool_seen.ensures.cause

pub returns-in_err-seen-clause-err : goal.returns-in_err-seen-clause-err
returns-in_err-seen-clause-err g c =
    let z = g.R.Rows.shape c.args.rows.now in
    let v = g.R.Rows.view c.args.seat.now in
    let t = g.R.Rows.view c.candidate.new.seat in
    let p = err_from_is_err_and c.from_residual.result c.from_residual.ensures.1 in
    let p2 = p.2 in
    let why = c.in_err-seen.field-0.0 in
    let e : why ≡ p.0 = cc in
    let P : Refusal → Type 0 = λ q. Halts 2 z v q t in
    if_err c.from_residual.result p.0 P p.1 (subst P e (halts_up (omega arith) (missed_halts c.requires.held c.in_err-seen.ensures.err)))

pub candidate-requires-clause-sized : goal.candidate-requires-clause-sized
candidate-requires-clause-sized g c = sized_of c.requires.keeps (c.frames-frames.ensures ∙ ap (λ (p : Provider). p.frames) c.self.view_is)

pub cool_seen-requires-clause-fits : goal.cool_seen-requires-clause-fits
cool_seen-requires-clause-fits g c = c.in_ok-seen.ensures.fits.0

pub cool_seen-requires-clause-held : goal.cool_seen-requires-clause-held
cool_seen-requires-clause-held g c = c.in_ok-seen.ensures.fits.2 ∙ c.requires.held

pub returns-clause-fits : goal.returns-clause-fits
returns-clause-fits g c = let o = c.in_ok-seen.ensures.fits in let e = c.cool_seen.ensures.fits in (e.0, e.1 ∙ o.1)
