use Rattle.std.proofs.Common.{◌≡◌, ◌∙◌, set, subst}
use Rattle.std.proofs.lemmas.Result.{err_from_is_err_and, IfOk-weaker, IfErr-weaker}
use Rattle.btree_descent.specs.rows_trait.Views.{Shape}
use Rattle.btree_descent.proofs.rows_trait.Causes.{found_after}
use Rattle.row_image.specs.declared.refusal.Unseen.{Unseen}
use Rattle.row_image.specs.Images.{IsMissed}
use Rattle.row_image.specs.Looks.{AreKnown}
use Rattle.row_image.specs.Inside.{Again, HasChildren, IsLoaded}
use Rattle.row_image.proofs.Watching.{watched_then, watched_shape, refused_after, refused_shape, never_refused, missed_refused, if_err}
use Rattle.row_image.proofs.Sighting.{begun_at, again_shape, moved_since}
use Rattle.row_image.proofs.Writing.{whole}
use Rattle.row_image.proofs.page.load_written.Goals as goal

pub returns-in_err-name_children-clause-cause : goal.returns-in_err-name_children-clause-cause
returns-in_err-name_children-clause-cause g c =
    let y = g.R.Rows.shape c.args.rows.now in
    let v = g.R.Rows.view c.args.seat.now in
    let v3 = g.R.Rows.view c.name_children.new.seat in
    let s1 = c.begin.ensures.fits.1 in
    let k2 = watched_shape s1 c.load.ensures.watched in
    let p = err_from_is_err_and c.from_residual.result c.from_residual.ensures.1 in
    let p2 = p.2 in
    let why = c.in_err-name_children.field-0.0 in
    let e : why ≡ p.0 = cc in
    let P : Unseen → Type 0 = λ q. IsMissed y.alone c.args.actor v q v3 in
    if_err c.from_residual.result p.0 P p.1 (subst P e (missed_refused y.alone c.args.actor v v3 why
    (refused_after (watched_then c.in-Ok.ensures.ok.1.watched k2) (refused_shape (c.load.ensures.fits.1 ∙ s1) c.in_err-name_children.ensures.err))))

pub returns-clause-cause : goal.returns-clause-cause
returns-clause-cause g c =
    let y = g.R.Rows.shape c.args.rows.now in
    let v = g.R.Rows.view c.args.seat.now in
    let w = g.R.Rows.view c.again.new.seat in
    let o = c.in-Ok.ensures.ok in
    let s1 = c.begin.ensures.fits.1 in
    let s2 = c.load.ensures.fits.1 ∙ s1 in
    let k = watched_then (watched_shape s1 c.load.ensures.watched) (watched_shape s2 c.in_ok-name_children.ensures.ok.0) in
    IfErr-weaker c.again.result _ _ (λ why e. missed_refused y.alone c.args.actor v w why (moved_since (c.name_children.ensures.fits.1 ∙ s2) (begun_at o.0 o.1) k e)) c.again.ensures.err

pub returns-clause-quiet : goal.returns-clause-quiet
returns-clause-quiet g c =
    let o = c.in-Ok.ensures.ok in
    let s1 = c.begin.ensures.fits.1 in
    let s2 = c.load.ensures.fits.1 ∙ s1 in
    let k = watched_then (watched_shape s1 c.load.ensures.watched) (watched_shape s2 c.in_ok-name_children.ensures.ok.0) in
    IfErr-weaker c.again.result _ _ (λ why e. never_refused (moved_since (c.name_children.ensures.fits.1 ∙ s2) (begun_at o.0 o.1) k e)) c.again.ensures.err

pub returns-clause-answer : goal.returns-clause-answer
returns-clause-answer g c =
    let y = g.R.Rows.shape c.args.rows.now in
    let v = g.R.Rows.view c.args.seat.now in
    let v1 = g.R.Rows.view c.begin.new.seat in
    let v2 = g.R.Rows.view c.load.new.seat in
    let v3 = g.R.Rows.view c.name_children.new.seat in
    let w = g.R.Rows.view c.again.new.seat in
    let row = c.args.row in
    let version = c.in-Ok.found.version in
    let o = c.in-Ok.ensures.ok in
    let b = o.1 in
    let s1 = c.begin.ensures.fits.1 in
    let s2 = c.load.ensures.fits.1 ∙ s1 in
    let k2 = watched_shape s1 c.load.ensures.watched in
    let k3 = watched_shape s2 c.in_ok-name_children.ensures.ok.0 in
    let children = subst (λ (s : Shape). HasChildren s.alone c.args.frames v2 c.load.new.into c.name_children.new.words v3) s2 c.in_ok-name_children.ensures.ok.1 in
    IfOk-weaker c.again.result (λ _. Again (g.R.Rows.shape c.name_children.new.rows).alone c.in-Ok.found.row version v3 w) (λ _. IsLoaded y.alone v row c.args.generation (set c.name_children.new.words 2 c.args.generation) w)
    (λ _ again.
    let a = subst (λ q. Again y.alone q version v3 w) o.0 (again_shape (c.name_children.ensures.fits.1 ∙ s2) again) in
    let after = watched_then k2 (watched_then k3 a.watched) in record {
      ran = (watched_then b.watched after).ran;
      version = version;
      free = b.free;
      found = found_after row version v v1 w b.found after.loads;
      spelled = λ p stays.
          whole y.alone v v1 v2 v3 w row version c.args.frames p c.args.generation c.load.new.into c.name_children.new.words b.watched k2 k3 a.watched c.requires.sized.given c.requires.row c.requires.sound b.since
          (subst (λ q. AreKnown q version 126 c.load.new.into v2.steps) o.0 c.load.ensures.words) children c.name_children.array_long a.shown a.still stays;
    })
    c.again.ensures.ok
