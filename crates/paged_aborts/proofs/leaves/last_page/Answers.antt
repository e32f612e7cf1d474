use Rattle.std.proofs.Common.{◌∙◌, [], ap, subst, sym}
use Rattle.paged_desks.specs.btree_descent.Descents.{Sized}
use Rattle.paged_desks.specs.rows_trait.Turns.{Ran}
use Rattle.paged_desks.specs.rows_trait.Views.{Shape}
use Rattle.row_changes.proofs.SeenLemmas.{none_seen}
use Rattle.paged_aborts.proofs.LoseLemmas.{leaf_place, loaded_seen}
use Rattle.paged_aborts.proofs.leaves.last_page.Goals as goal

pub load_word-requires-clause-place : goal.load_word-requires-clause-place
load_word-requires-clause-place g c =
    let v = g.R.Rows.view c.args.seat.now in
    let t = c.in-Leaf.ensures.went in
    leaf_place (g.R.Rows.shape c.reach.new.rows) v (g.R.Rows.view c.reach.new.seat) c.args.frames c.in-Leaf.row t.page c.args.key c.requires.sound (subst (λ (z : Shape). Sized z v c.args.frames) (sym c.reach.ensures.fits.1) c.requires.sized) t.ran.given t.leaf

pub returns-in-Leaf-clause-given : goal.returns-in-Leaf-clause-given
returns-in-Leaf-clause-given g c = c.load_word.ensures.step.goes.given ∙ c.in-Leaf.ensures.went.ran.given

pub returns-in-Leaf-clause-seen : goal.returns-in-Leaf-clause-seen
returns-in-Leaf-clause-seen g c =
    let z = g.R.Rows.shape c.reach.new.rows in
    let u = g.R.Rows.view c.args.seat.now in
    let v = g.R.Rows.view c.reach.new.seat in
    loaded_seen z u v (g.R.Rows.view c.load_word.new.seat) c.in-Leaf.row 0 c.load_word.result (ap (λ (k : Shape). k.alone) c.reach.ensures.fits.1 ∙ c.requires.alone)
    (subst (λ (k : Shape). Ran k.alone u [] v) (sym c.reach.ensures.fits.1) c.in-Leaf.ensures.went.ran) c.load_word.ensures.step

pub returns-in-Cold-clause-seen : goal.returns-in-Cold-clause-seen
returns-in-Cold-clause-seen g c = none_seen (g.R.Rows.shape c.args.rows.now).alone (g.R.Rows.view c.args.seat.now) (g.R.Rows.view c.reach.new.seat) c.requires.alone c.in-Cold.ensures.went.ran
