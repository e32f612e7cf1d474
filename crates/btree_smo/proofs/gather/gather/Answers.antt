use Rattle.std.proofs.Common.{◌≡◌, ◌≤◌, ◌<◌, ◌%◌, ◌+◌, ◌∙◌, ℕ, List, length, refl, sym, ap, subst, arith}
use Rattle.btree_descent.specs.rows_trait.declared.view.View.{View}
use Rattle.btree_descent.specs.rows_trait.Views.{Shape}
use Rattle.page_model.specs.Needs.{key_at}
use Rattle.key_locks.specs.Rows.{Sized, IsSound}
use Rattle.btree_smo.specs.declared.quiet.Quiet.{Quiet}
use Rattle.btree_smo.specs.Inside.Purging.{TookPlace, Passing, CanGo, IsLast}
use Rattle.btree_smo.proofs.Tombstones.{pass_none, pass_skip, pass_busy, pass_taken, way_of, sized_on, spent_last}
use Rattle.btree_smo.proofs.LockRows.{hold_stood, bare_since}
use Rattle.btree_smo.proofs.gather.gather.Goals as goal
use Rattle.btree_smo.proofs.gather.gather.Goals.{then-word_at+in-Taken, then-word_at+in-Busy, else-word_at}

pub loop-i-init : goal.loop-i-init
loop-i-init g c = record {
  fits = (c.requires.fits, refl);
  reach = omega arith;
  passing = subst (λ (q : List ℕ × List ℕ). Passing (g.R.Rows.shape c.args.rows.now) c.args.frames c.args.floor c.args.locks c.args.leaf.now.row c.args.node.now.node.pairs 0 q.0 q.1 (g.R.Rows.view c.args.seat.now) (g.R.Rows.view c.args.seat.now)) (λ i. (sym c.requires.places i, sym c.requires.keys i))
      (pass_none (way_of c.requires.sized c.requires.leaf c.requires.floor c.pairs.ensures.fits));
}

pub take_place-requires-clause-fits : goal.take_place-requires-clause-fits
take_place-requires-clause-fits g c = c.loop-i.invariant.fits.0

pub take_place-requires-clause-sized : goal.take_place-requires-clause-sized
take_place-requires-clause-sized g c = let inv = c.loop-i.invariant in sized_on inv.fits.1 inv.passing.holding.stood.waited.ran.given c.requires.sized

pub take_place-requires-clause-sound : goal.take_place-requires-clause-sound
take_place-requires-clause-sound g c = subst IsSound (sym c.loop-i.invariant.passing.holding.stood.waited.ran.given) c.requires.sound

pub take_place-requires-clause-room : goal.take_place-requires-clause-room
take_place-requires-clause-room g c = let d = c.loop-i.invariant.passing.gone in let a = d.few in let b = d.fewer in let lt = c.loop-i-test.true in let n = c.count-i-end.ensures.bound in omega arith

pub push-requires : goal.push-requires
push-requires g c = record { room = (let d = c.loop-i.invariant.passing.gone in let a = d.few in let lt = c.loop-i-test.true in let n = c.count-i-end.ensures.bound in omega arith) }

pub returns-in-Spent-clause-fits : goal.returns-in-Spent-clause-fits
returns-in-Spent-clause-fits g c = (c.take_place.ensures.fits.0, c.take_place.ensures.fits.1 ∙ c.loop-i.invariant.fits.1)

-- a key's place is one of the lock rows
small : {z : Shape} {v : View} {worker frames locks : ℕ} (k : ℕ) → Sized z v worker frames locks → k % locks < locks
small k s = let some = s.spans.some in omega arith

-- what came of the place, of the shape at the start and of the lock row's place
took : (y z : Shape) (frames f m n k : ℕ) (places more : List ℕ) (v w : View) (got got2 : Quiet) → y ≡ z → m ≡ n → got ≡ got2 → TookPlace y frames (k % m) f places v got more w → TookPlace z frames (k % n) f places v got2 more w
took y z frames f m n k places more v w got got2 e a b t = subst (λ (q : Shape × ℕ × Quiet). TookPlace q.0 frames (k % q.1) f places v q.2 more w) (λ i. (e i, a i, b i)) t

pub returns-in-Spent-clause-holding : goal.returns-in-Spent-clause-holding
returns-in-Spent-clause-holding g c =
    let inv = c.loop-i.invariant in
    let t = took _ _ _ _ _ _ c.key_at-key.result _ _ _ _ c.take_place.result _ inv.fits.1 c.from.ensures c.in-Spent.is c.take_place.ensures.took in
    let h = hold_stood c.requires.sized.given inv.passing.holding t.1.stood in
    subst (λ ps. Rattle.btree_smo.specs.Inside.Purging.Holding (g.R.Rows.shape c.args.rows.now) c.args.frames c.args.floor c.args.leaf.now.row ps (g.R.Rows.view c.args.seat.now) (g.R.Rows.view c.take_place.new.seat)) (sym t.0) h

pub returns-in-Spent-clause-few : goal.returns-in-Spent-clause-few
returns-in-Spent-clause-few g c =
    let inv = c.loop-i.invariant in
    let t = took _ _ _ _ _ _ c.key_at-key.result _ _ _ _ c.take_place.result _ inv.fits.1 c.from.ensures c.in-Spent.is c.take_place.ensures.took in
    let d = inv.passing.gone in
    subst (λ ps. length ps ≤ 60) (sym t.0) (let a = d.few in let b = d.fewer in let lt = c.loop-i-test.true in let n = c.count-i-end.ensures.bound in omega arith)

pub returns-in-Spent-clause-spent : goal.returns-in-Spent-clause-spent
returns-in-Spent-clause-spent g c =
    let inv = c.loop-i.invariant in
    let v = g.R.Rows.view c.args.seat.now in
    let w = g.R.Rows.view c.take_place.new.seat in
    let t = took _ _ _ _ _ _ c.key_at-key.result _ _ _ _ c.take_place.result _ inv.fits.1 c.from.ensures c.in-Spent.is c.take_place.ensures.took in
    subst (λ n. IsLast (c.args.frames + c.key_at-key.result % n) v w) (sym c.from.ensures) (spent_last (bare_since v inv.passing.holding.stood.waited.ran.since) t.1)

pub loop-i-preserved : goal.loop-i-preserved
loop-i-preserved g c =
    let z = g.R.Rows.shape c.args.rows.now in
    let inv = c.loop-i.invariant in
    let y = way_of c.requires.sized c.requires.leaf c.requires.floor c.pairs.ensures.fits in
    let lt : c.loop-i.i < length c.args.node.now.node.pairs = (let e = c.count-i-end.ensures.answer in let l = c.loop-i-test.true in omega arith) in
    elim c.if-word_at.branch [
      | then-word_at+in-Taken w ↦
          let t = took _ _ _ _ _ _ w.key_at-key.result _ _ _ _ w.take_place.result _ inv.fits.1 w.from.ensures w.in-Taken.is w.take_place.ensures.took in
          let p = pass_taken y inv.passing w.key_at-key.result c.word_at.result lt w.key_at-key.ensures c.word_at.ensures w.if-word_at.true (small w.key_at-key.result c.requires.sized) t in
          record {
            fits = (subst (λ (q : g.row.R.Denot × g.row.R-Seat.Denot). g.R.Rows.fits q.0 q.1) (λ i. (sym w.rows-is i, sym w.seat-is i)) w.take_place.ensures.fits.0, ap g.R.Rows.shape w.rows-is ∙ (w.take_place.ensures.fits.1 ∙ inv.fits.1));
            reach = (let l = c.loop-i-test.true in omega arith);
            passing = subst (λ (q : List ℕ × List ℕ × View). Passing z c.args.frames c.args.floor c.args.locks c.args.leaf.now.row c.args.node.now.node.pairs (c.loop-i.i + 1) q.0 q.1 (g.R.Rows.view c.args.seat.now) q.2) (λ i. (sym w.places-is i, sym (w.keys-is ∙ w.push.ensures) i, g.R.Rows.view (sym w.seat-is i))) p;
          }
      | then-word_at+in-Busy w ↦
          let t = took _ _ _ _ _ _ w.key_at-key.result _ _ _ _ w.take_place.result _ inv.fits.1 w.from.ensures w.in-Busy.is w.take_place.ensures.took in
          let p = pass_busy y inv.passing w.key_at-key.result c.word_at.result lt w.key_at-key.ensures c.word_at.ensures w.if-word_at.true t in
          record {
            fits = (subst (λ (q : g.row.R.Denot × g.row.R-Seat.Denot). g.R.Rows.fits q.0 q.1) (λ i. (sym w.rows-is i, sym w.seat-is i)) w.take_place.ensures.fits.0, ap g.R.Rows.shape w.rows-is ∙ (w.take_place.ensures.fits.1 ∙ inv.fits.1));
            reach = (let l = c.loop-i-test.true in omega arith);
            passing = subst (λ (q : List ℕ × List ℕ × View). Passing z c.args.frames c.args.floor c.args.locks c.args.leaf.now.row c.args.node.now.node.pairs (c.loop-i.i + 1) q.0 q.1 (g.R.Rows.view c.args.seat.now) q.2) (λ i. (sym w.places-is i, sym w.keys-is i, g.R.Rows.view (sym w.seat-is i))) p;
          }
      | else-word_at w ↦
          let p = pass_skip y inv.passing (key_at c.loop-i.i c.args.node.now.node.pairs) c.word_at.result lt refl c.word_at.ensures w.if-word_at.false in
          record {
            fits = (subst (λ (q : g.row.R.Denot × g.row.R-Seat.Denot). g.R.Rows.fits q.0 q.1) (λ i. (sym w.rows-is i, sym w.seat-is i)) inv.fits.0, ap g.R.Rows.shape w.rows-is ∙ inv.fits.1);
            reach = (let l = c.loop-i-test.true in omega arith);
            passing = subst (λ (q : List ℕ × List ℕ × View). Passing z c.args.frames c.args.floor c.args.locks c.args.leaf.now.row c.args.node.now.node.pairs (c.loop-i.i + 1) q.0 q.1 (g.R.Rows.view c.args.seat.now) q.2) (λ i. (sym w.places-is i, sym w.keys-is i, g.R.Rows.view (sym w.seat-is i))) p;
          }
    ]

pub returns-clause-fits : goal.returns-clause-fits
returns-clause-fits g c = c.loop-i.invariant.fits

pub returns-clause-holding : goal.returns-clause-holding
returns-clause-holding g c = c.loop-i.invariant.passing.holding

pub returns-clause-gone : goal.returns-clause-gone
returns-clause-gone g c =
    let inv = c.loop-i.invariant in
    let e : c.loop-i.i ≡ length c.args.node.now.node.pairs = (let a = c.count-i-end.ensures.answer in let t = c.loop-i-test.false in let r = inv.reach in omega arith) in
    subst (λ n. CanGo (g.R.Rows.shape c.args.rows.now) c.args.locks c.args.node.now.node.pairs n c.loop-i.places c.loop-i.keys (g.R.Rows.view c.loop-i.seat)) e inv.passing.gone

pub returns-clause-few : goal.returns-clause-few
returns-clause-few g c = let inv = c.loop-i.invariant in let a = inv.passing.gone.few in let b = inv.passing.gone.fewer in let r = inv.reach in let n = c.count-i-end.ensures.bound in omega arith
