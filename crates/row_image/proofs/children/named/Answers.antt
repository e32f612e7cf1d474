use Rattle.std.proofs.Common.{◌≤◌, ◌^◌, ◌∙◌, ℕ, refl, subst, arith}
use Rattle.std.proofs.lemmas.Result.{IfOk-weaker, IfErr-weaker}
use Rattle.btree_descent.specs.row_words.Sealed.{Shown}
use Rattle.btree_descent.specs.rows_trait.Views.{state}
use Rattle.row_image.specs.Inside.{Watched, IsNamed}
use Rattle.row_image.proofs.Watching.{watched_none, refused_one}
use Rattle.row_image.proofs.children.named.Goals as goal

pub returns-then-word-lt-FRAME_BIT-clause-ok : goal.returns-then-word-lt-FRAME_BIT-clause-ok
returns-then-word-lt-FRAME_BIT-clause-ok g c =
    let alone = (g.R.Rows.shape c.args.rows.now).alone in
    let v = g.R.Rows.view c.args.seat.now in
    (watched_none alone v, record { number = λ l. refl; frame = λ h l. absurd (let t = c.if-word-lt-FRAME_BIT.true in omega arith) })

pub returns-clause-ok : goal.returns-clause-ok
returns-clause-ok g c =
    let alone = (g.R.Rows.shape c.args.rows.now).alone in
    let v = g.R.Rows.view c.args.seat.now in
    let w = g.R.Rows.view c.number.new.seat in
    let one : (n : ℕ) → Watched alone v w × Shown w.given (state w) c.row_of.result 0 n → Watched alone v w × IsNamed alone c.args.frames v c.args.word n w = λ n k. (
      k.0,
      record {
        number = λ l. absurd (let t = c.if-word-lt-FRAME_BIT.false in omega arith);
        frame = λ h l. record { at = w; before = k.0; after = watched_none alone w; shown = subst (λ q. Shown w.given (state w) q 0 n) (c.row_of.ensures.same l) k.1 };
      },
    ) in
    IfOk-weaker c.number.result _ _ one c.number.ensures.ok

pub returns-clause-err : goal.returns-clause-err
returns-clause-err g c =
    let h : 2 ^ 63 ≤ c.args.word = (let t = c.if-word-lt-FRAME_BIT.false in omega arith) in
    IfErr-weaker c.number.result _ _ (λ why r. refused_one (λ q is. (h, λ l. is ∙ c.row_of.ensures.same l)) r) c.number.ensures.err
