use Rattle.std.proofs.Common.{◌≡◌, ◌≤◌, ◌<◌, ◌-◌, ◌∙◌, ℕ, List, length, refl, sym, ap, subst, arith}
use Rattle.std.specs.Prelude.{slice_index}
use Rattle.row_changes.specs.session_state.core_state.States.{Place}
use Rattle.row_walks.specs.Inside.Nexts.{IsLastChild}
use Rattle.row_walks.proofs.LookLemmas.{core_looked, hot_on, looked_self, looked_then, seen_back}
use Rattle.row_walks.proofs.RootLemmas.{below_frame, below_hot, last_child, leaf_root, many_root, root_hot}
use Rattle.row_walks.proofs.SightLemmas.{low_number}
use Rattle.row_walks.proofs.nexts.look_root.Goals as goal

pub returns-then-tall-lt2-clause-looked : goal.returns-then-tall-lt2-clause-looked
returns-then-tall-lt2-clause-looked g c = looked_self (g.R.Rows.view c.args.seat.now)

pub returns-then-tall-lt2-clause-drops : goal.returns-then-tall-lt2-clause-drops
returns-then-tall-lt2-clause-drops g c =
    leaf_root (g.R.Rows.shape c.args.rows.now) (g.R.Rows.view c.args.seat.now) c.args.session.now c.args.log.now c.requires.holds c.requires.way.0 c.args.path.now c.requires.way.1 (let e = ap (λ (xs : List ℕ). length xs) c.frames-frames.ensures in let t = c.if-tall-lt2.true in omega arith)

pub see-root-requires-clause-hot : goal.see-root-requires-clause-hot
see-root-requires-clause-hot g c =
    (0, root_hot (g.R.Rows.shape c.args.rows.now) (g.R.Rows.view c.args.seat.now) c.args.session.now c.args.log.now c.requires.holds c.requires.way.0 c.args.path.now c.requires.way.1)

pub returns-then-pairs-ne1-clause-drops : goal.returns-then-pairs-ne1-clause-drops
returns-then-pairs-ne1-clause-drops g c =
    many_root (g.R.Rows.shape c.args.rows.now) (g.R.Rows.view c.args.seat.now) c.args.session.now c.args.log.now c.requires.holds c.requires.way.0 c.args.path.now c.requires.way.1 c.see-root.result.node c.see-root.ensures.seen (λ one. c.if-pairs-ne1.true (c.count-pairs.ensures.answer ∙ one))

pub see-child-requires-clause-hot : goal.see-child-requires-clause-hot
see-child-requires-clause-hot g c =
    let k = below_hot (g.R.Rows.shape c.args.rows.now) (g.R.Rows.view c.args.seat.now) c.args.session.now c.args.log.now c.requires.holds c.requires.way.0 c.args.path.now c.requires.way.1 (let e = ap (λ (xs : List ℕ). length xs) c.frames-frames.ensures in let t = c.if-tall-lt2.false in omega arith) in
    (c.requires.way.1.page (length c.args.path.now - 2), hot_on (g.R.Rows.view c.args.seat.now) (g.R.Rows.view c.see-root.new.seat) c.see-root.ensures.looked.given (core_looked (g.R.Rows.view c.args.seat.now) (g.R.Rows.view c.see-root.new.seat) c.see-root.ensures.looked) _ _ (k ∙ ap Place.Hot (sym (below_frame c.frames-frames.result.now c.args.path.now c.frames-frames.ensures (let e = ap (λ (xs : List ℕ). length xs) c.frames-frames.ensures in let t = c.if-tall-lt2.false in omega arith)))))

pub overflow_cast-result : goal.overflow_cast-result
overflow_cast-result g c =
    let low = low_number (g.R.Rows.shape c.see-root.new.rows) (g.R.Rows.view c.see-root.new.seat) c.args.session.now c.args.log.now c.see-root.ensures.holds _ c.see-child.result c.see-child.ensures.seen in let e = c.number.ensures in omega arith

pub returns-clause-looked : goal.returns-clause-looked
returns-clause-looked g c =
    looked_then (g.R.Rows.view c.args.seat.now) (g.R.Rows.view c.see-root.new.seat) (g.R.Rows.view c.see-child.new.seat) c.see-root.ensures.looked c.see-child.ensures.looked

pub returns-clause-drops : goal.returns-clause-drops
returns-clause-drops g c =
    subst (λ (p : ℕ). IsLastChild (g.R.Rows.view c.args.seat.now) (slice_index c.frames-frames.result.now 1) p) (sym c.number.ensures)
    (last_child (g.R.Rows.shape c.args.rows.now) (g.R.Rows.view c.args.seat.now) c.args.session.now c.args.log.now c.requires.holds c.requires.way.0 c.args.path.now c.requires.way.1 (let e = ap (λ (xs : List ℕ). length xs) c.frames-frames.ensures in let t = c.if-tall-lt2.false in omega arith) c.see-root.result.node c.see-root.ensures.seen (sym c.count-pairs.ensures.answer ∙ c.if-pairs-ne1.false) c.see-child.result.node (slice_index c.frames-frames.result.now 1) (below_frame c.frames-frames.result.now c.args.path.now c.frames-frames.ensures (let e = ap (λ (xs : List ℕ). length xs) c.frames-frames.ensures in let t = c.if-tall-lt2.false in omega arith))
    (seen_back (g.R.Rows.view c.args.seat.now) (g.R.Rows.view c.see-root.new.seat) c.see-root.ensures.looked (slice_index c.frames-frames.result.now 1) c.see-child.result c.see-child.ensures.seen))

pub returns-clause-fits : goal.returns-clause-fits
returns-clause-fits g c = (c.see-child.ensures.fits.0, c.see-child.ensures.fits.1 ∙ c.see-root.ensures.fits.1)
