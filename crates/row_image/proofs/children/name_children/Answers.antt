use Rattle.std.proofs.Common.{◌<◌, ◌/◌, ◌%◌, refl, arith}
use Rattle.std.specs.Prelude.{slice_index}
use Rattle.std.proofs.lemmas.Result.{IfErr-weaker}
use Rattle.row_image.proofs.Watching.{watched_none, refused_one}
use Rattle.row_image.proofs.children.name_children.Goals as goal

pub returns-then-words-eq0-clause-ok : goal.returns-then-words-eq0-clause-ok
returns-then-words-eq0-clause-ok g c =
    (watched_none (g.R.Rows.shape c.args.rows.now).alone (g.R.Rows.view c.args.seat.now), record { leaf = λ z. refl; inner = λ up. absurd (let z = c.if-words-eq0.true in omega arith) })

pub returns-clause-err : goal.returns-clause-err
returns-clause-err g c =
    let t = c.if-words-eq0.false in
    let up : 0 < slice_index c.args.words.now 3 / 256 % 256 = omega arith in
    IfErr-weaker c.name_pairs.result _ _ (λ why r. refused_one (λ q x. record { inner = up; names = x }) r) c.name_pairs.ensures.err
