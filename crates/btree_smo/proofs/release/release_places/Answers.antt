use Rattle.std.proofs.Common.{◌≡◌, ◌==◌, ◌<◌, ◌+◌, ◌∙◌, ◌∷◌, ℕ, List, [], length, drop, true, refl, sym, ap, subst, arith}
use Rattle.std.specs.Prelude.{slice_index}
use Rattle.std.proofs.lemmas.Bool.{cond-true, eq-eqb}
use Rattle.std.proofs.lemmas.List.{drop_more}
use Rattle.page_model.specs.Pairs.{is_in}
use Rattle.btree_descent.specs.rows_trait.declared.view.View.{View}
use Rattle.btree_descent.specs.rows_trait.Views.{Shape}
use Rattle.btree_descent.specs.rows_trait.Turns.{Released}
use Rattle.btree_smo.specs.Outcomes.{MissedUpTo}
use Rattle.btree_smo.specs.Inside.Purging.{KeepsPlaces}
use Rattle.btree_smo.proofs.GivingUp.{keeps_next, keeps_none, missed_none, missed_one}
use Rattle.btree_smo.proofs.release.release_places.Goals as goal

pub loop-i-init : goal.loop-i-init
loop-i-init g c = record {
  fits = (c.requires.fits, refl);
  reach = omega arith;
  keeps = c.requires.places;
  missed = missed_none (g.R.Rows.shape c.args.rows.now).alone (g.R.Rows.view c.args.seat.now);
}

-- the place that is next, and those behind it
next : (z : Shape) (u : View) (frames i : ℕ) (all places : List ℕ) → all ≡ places → i < length places → KeepsPlaces z u frames (drop i places) → KeepsPlaces z u frames (slice_index all i ∷ drop (i + 1) places)
next z u frames i all places same lt k = subst (KeepsPlaces z u frames) (drop_more places i 0 lt ∙ ap (λ (ys : List ℕ). slice_index ys i ∷ drop (i + 1) places) (sym same)) k

head : (x : ℕ) (xs : List ℕ) → is_in x (x ∷ xs) ≡ true
head x xs = cond-true (x == x) true (is_in x xs) (eq-eqb x x refl)

pub overflow_add-frames : goal.overflow_add-frames
overflow_add-frames g c =
    let inv = c.loop-i.invariant in
    let same = c.all-all.ensures in
    let n = ap (λ (ys : List ℕ). length ys) same in
    let k = next _ _ c.args.frames c.loop-i.i c.all-all.result.now c.args.places.now same (let lt = c.loop-i-test.true in omega arith) inv.keeps in
    let a = (k.each (slice_index c.all-all.result.now c.loop-i.i) (head (slice_index c.all-all.result.now c.loop-i.i) (drop (c.loop-i.i + 1) c.args.places.now))).inside in
    let b = c.requires.small in
    (omega arith)

pub release-requires-clause-row : goal.release-requires-clause-row
release-requires-clause-row g c =
    let inv = c.loop-i.invariant in
    let same = c.all-all.ensures in
    let n = ap (λ (ys : List ℕ). length ys) same in
    let k = next _ _ c.args.frames c.loop-i.i c.all-all.result.now c.args.places.now same (let lt = c.loop-i-test.true in omega arith) inv.keeps in
    let a = (k.each (slice_index c.all-all.result.now c.loop-i.i) (head (slice_index c.all-all.result.now c.loop-i.i) (drop (c.loop-i.i + 1) c.args.places.now))).inside in
    subst (λ (y : Shape). c.args.frames + slice_index c.all-all.result.now c.loop-i.i < Rattle.btree_descent.specs.rows_trait.Layout.rows_of y.sizes) (sym inv.fits.1) a

pub release-requires-clause-held : goal.release-requires-clause-held
release-requires-clause-held g c =
    let inv = c.loop-i.invariant in
    let same = c.all-all.ensures in
    let n = ap (λ (ys : List ℕ). length ys) same in
    let k = next _ _ c.args.frames c.loop-i.i c.all-all.result.now c.args.places.now same (let lt = c.loop-i-test.true in omega arith) inv.keeps in
    let a = k.each (slice_index c.all-all.result.now c.loop-i.i) (head (slice_index c.all-all.result.now c.loop-i.i) (drop (c.loop-i.i + 1) c.args.places.now)) in (a.mine, a.same)

pub loop-i-preserved : goal.loop-i-preserved
loop-i-preserved g c =
    let inv = c.loop-i.invariant in
    let same = c.all-all.ensures in
    let n = ap (λ (ys : List ℕ). length ys) same in
    let x = slice_index c.all-all.result.now c.loop-i.i in
    let u = g.R.Rows.view c.loop-i.seat in
    let w = g.R.Rows.view c.release.new.seat in
    let k = next _ _ c.args.frames c.loop-i.i c.all-all.result.now c.args.places.now same (let lt = c.loop-i-test.true in omega arith) inv.keeps in
    let r = subst (λ (y : Shape). Released y (c.args.frames + x) u w) inv.fits.1 c.release.ensures.step in record {
      fits = (c.release.ensures.fits, c.release.ensures.shape ∙ inv.fits.1);
      reach = (let lt = c.loop-i-test.true in omega arith);
      keeps = keeps_next k r;
      missed = missed_one (k.each x (head (slice_index c.all-all.result.now c.loop-i.i) (drop (c.loop-i.i + 1) c.args.places.now))) r inv.missed;
    }

-- all are given up
ended : (z : Shape) (frames i : ℕ) (places : List ℕ) (w : View) → i ≡ length places → KeepsPlaces z w frames (drop i places) → w.held ≡ []
ended z frames i places w e k = keeps_none (subst (KeepsPlaces z w frames) (ap (λ n. drop n places) e ∙ Rattle.std.proofs.Math.Seq.drop-length places) k)

pub returns-clause-fits : goal.returns-clause-fits
returns-clause-fits g c =
    let inv = c.loop-i.invariant in
    let n = ap (λ (ys : List ℕ). length ys) c.all-all.ensures in
    (inv.fits.0, inv.fits.1, ended (g.R.Rows.shape c.args.rows.now) c.args.frames c.loop-i.i c.args.places.now (g.R.Rows.view c.loop-i.seat) (let t = c.loop-i-test.false in let r = inv.reach in omega arith) inv.keeps)

pub returns-clause-missed : goal.returns-clause-missed
returns-clause-missed g c =
    let inv = c.loop-i.invariant in
    let n = ap (λ (ys : List ℕ). length ys) c.all-all.ensures in
    let e : c.loop-i.i ≡ length c.args.places.now = (let t = c.loop-i-test.false in let r = inv.reach in omega arith) in
    subst (λ m. MissedUpTo m (g.R.Rows.shape c.args.rows.now).alone (g.R.Rows.view c.args.seat.now) (g.R.Rows.view c.loop-i.seat)) e inv.missed
