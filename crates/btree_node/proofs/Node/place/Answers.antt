use Rattle.std.proofs.Common.{◌+◌, ◌-◌, ◌/◌, ◌<◌, ◌≤◌, length, arith}
use Rattle.page_model.specs.Needs.{key_at}
use Rattle.btree_node.proofs.SpellingLemmas.{spells-view, spells-key}
use Rattle.btree_node.proofs.PlaceLemmas.{place-length, place-below, place-above}
use Rattle.btree_node.proofs.Node.place.Goals as goal

pub loop-low-init : goal.loop-low-init
loop-low-init c =
    let le = place-length c.args.key c.args.self.now.node.pairs in
    record { after = omega arith; before = omega arith; within = omega arith }

pub loop-low-preserved-then-words-middle : goal.loop-low-preserved-then-words-middle
loop-low-preserved-then-words-middle c =
    let v = c.args.self.now in
    let m = c.loop-low.low + (c.loop-low.high - c.loop-low.low) / 2 in
    let h : m < length v.node.pairs = omega arith in
    let s = spells-view _ v c.self.view_is c.self.invariant in
    let k = spells-key c.self.inside.words v m s h in
    let lt : key_at m v.node.pairs < c.args.key = omega arith in
    let b = place-below v.node.low v.node.high c.args.key v.node.pairs m s.fits.ordered h lt in
    record { after = omega arith; before = c.loop-low.invariant.before; within = c.loop-low.invariant.within }

pub loop-low-preserved : goal.loop-low-preserved
loop-low-preserved c =
    let v = c.args.self.now in
    let m = c.loop-low.low + (c.loop-low.high - c.loop-low.low) / 2 in
    let h : m < length v.node.pairs = omega arith in
    let k = spells-key c.self.inside.words v m (spells-view _ v c.self.view_is c.self.invariant) h in
    let le : c.args.key ≤ key_at m v.node.pairs = omega arith in
    let a = place-above c.args.key v.node.pairs m h le in
    record { after = c.loop-low.invariant.after; before = omega arith; within = omega arith }
