use Rattle.std.proofs.Common.{◌≡◌, ◌+◌, ◌*◌, ◌∙◌, suc, set, length-set, refl, subst, arith}
use Rattle.std.specs.Prelude.{slice_index}
use Rattle.std.proofs.lemmas.Result.{err_from_is_err_and}
use Rattle.row_image.specs.declared.refusal.Unseen.{Unseen}
use Rattle.row_image.specs.Inside.{AreNamed, IsNamed, Refused, IsRowOf, IsRowIn}
use Rattle.btree_descent.specs.rows_trait.Views.{Shape}
use Rattle.row_image.proofs.Watching.{watched_none, watched_then, watched_shape, named_none, named_more, refused_after, refused_one, refused_shape, if_err}
use Rattle.row_image.proofs.children.name_pairs.Goals as goal

pub loop-i-init : goal.loop-i-init
loop-i-init g c =
    let alone = (g.R.Rows.shape c.args.rows.now).alone in
    let v = g.R.Rows.view c.args.seat.now in record {
      fits = (c.requires.fits, refl, refl);
      size = c.told-words;
      watched = watched_none alone v;
      named = named_none alone c.args.frames v v c.args.words.now;
    }

pub returns-in_err-words-clause-err : goal.returns-in_err-words-clause-err
returns-in_err-words-clause-err g c =
    let y = g.R.Rows.shape c.args.rows.now in
    let v = g.R.Rows.view c.args.seat.now in
    let w = g.R.Rows.view c.named.new.seat in
    let p = err_from_is_err_and c.from_residual.result c.from_residual.ensures.1 in
    let p2 = p.2 in
    let why = c.in_err-words.field-0.0 in
    let e : why ≡ p.0 = cc in
    let i = c.loop-i.i in
    let same = c.loop-i.invariant.named.same (7 + 2 * i) (λ j lt z. absurd (omega arith)) in
    let P : Unseen → Type 0 = λ q. Refused y.alone c.args.actor (IsRowIn c.args.frames c.args.words.now) v q w in
    let r = refused_after c.loop-i.invariant.watched (refused_shape c.loop-i.invariant.fits.1 c.in_err-words.ensures.err) in
    if_err c.from_residual.result p.0 P p.1 (subst P e (refused_one (λ q x. record { pair = i; few = c.loop-i-test.true; names = subst (λ z. IsRowOf c.args.frames z q) same x }) r))

pub loop-i-preserved : goal.loop-i-preserved
loop-i-preserved g c =
    let y = g.R.Rows.shape c.args.rows.now in
    let z = g.R.Rows.shape c.loop-i.rows in
    let v = g.R.Rows.view c.args.seat.now in
    let u = g.R.Rows.view c.loop-i.seat in
    let w = g.R.Rows.view c.named.new.seat in
    let inv = c.loop-i.invariant in
    let i = c.loop-i.i in
    let k = c.in_ok-words.ensures.ok in
    let step = watched_shape inv.fits.1 k.0 in
    let one = subst (λ (s : Shape). IsNamed s.alone c.args.frames u (slice_index c.loop-i.words (7 + 2 * i)) c.in_ok-words.field-0 w) inv.fits.1 k.1 in
    let e : suc i ≡ i + 1 = omega arith in record {
      fits = (c.named.ensures.fits.0, c.named.ensures.fits.1 ∙ inv.fits.1, c.named.ensures.fits.2 ∙ inv.fits.2);
      size = length-set c.loop-i.words (7 + 2 * i) c.in_ok-words.field-0 ∙ inv.size;
      watched = watched_then inv.watched step;
      named = subst (λ n. AreNamed y.alone c.args.frames n v c.args.words.now (set c.loop-i.words (7 + 2 * i) c.in_ok-words.field-0) w) e
          (named_more y.alone c.args.frames i v u w c.args.words.now c.loop-i.words c.in_ok-words.field-0 inv.size (omega arith) inv.watched step inv.named one);
    }
