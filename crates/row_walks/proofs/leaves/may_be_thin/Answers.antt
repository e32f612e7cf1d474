use Rattle.std.proofs.Common.{◌≡◌, ◌≤◌, ◌<◌, ◌-◌, ◌∙◌, ℕ, suc, List, length, refl, sym, ap, subst, arith}
use Rattle.std.specs.Prelude.{slice_index}
use Rattle.row_changes.specs.session_state.rows_trait.Views.{state}
use Rattle.row_image.specs.Hot.{StandsIn}
use Rattle.row_walks.proofs.LeafLemmas.{answered, leaf_frame, root_leaf}
use Rattle.row_walks.proofs.LookLemmas.{looked_self}
use Rattle.row_walks.proofs.SightLemmas.{hot_at}
use Rattle.row_walks.proofs.leaves.may_be_thin.Goals as goal

pub returns-then-tall-lt2-clause-looked : goal.returns-then-tall-lt2-clause-looked
returns-then-tall-lt2-clause-looked g c = looked_self (g.R.Rows.view c.args.seat.now)

pub returns-then-tall-lt2-clause-thin : goal.returns-then-tall-lt2-clause-thin
returns-then-tall-lt2-clause-thin g c =
    root_leaf (g.R.Rows.shape c.args.rows.now) (g.R.Rows.view c.args.seat.now) c.args.session.now c.args.log.now c.requires.holds c.args.key c.args.path.now c.requires.way (let e = ap (λ (xs : List ℕ). length xs) c.frames-frames.ensures in let t = c.if-tall-lt2.true in omega arith)

pub overflow_sub-frame : goal.overflow_sub-frame
overflow_sub-frame g c = let t = c.if-tall-lt2.false in omega arith

pub bounds-frames-tall : goal.bounds-frames-tall
bounds-frames-tall g c = let t = c.if-tall-lt2.false in omega arith

pub see-leaf-requires-clause-hot : goal.see-leaf-requires-clause-hot
see-leaf-requires-clause-hot g c =
    hot_at (g.R.Rows.view c.args.seat.now) c.args.key c.args.path.now c.requires.way 0 _ (let s = c.requires.way.some in omega arith) (leaf_frame c.frames-frames.result.now c.args.path.now c.frames-frames.ensures)

pub returns-clause-thin : goal.returns-clause-thin
returns-clause-thin g c =
    answered (g.R.Rows.shape c.args.rows.now) (g.R.Rows.view c.args.seat.now) c.args.session.now c.args.log.now c.requires.holds c.args.key c.args.path.now c.requires.way c.see-leaf.result.node (subst (λ f. StandsIn (g.R.Rows.view c.args.seat.now).given (state (g.R.Rows.view c.args.seat.now)) f c.see-leaf.result.node) (leaf_frame c.frames-frames.result.now c.args.path.now c.frames-frames.ensures) c.see-leaf.ensures.seen)
    (let e = ap (λ (xs : List ℕ). length xs) c.frames-frames.ensures in let t = c.if-tall-lt2.false in omega arith) c.is_value.result c.find.result c.is_value.ensures c.find.ensures
