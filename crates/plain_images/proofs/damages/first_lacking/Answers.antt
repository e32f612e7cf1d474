use Rattle.std.proofs.Common.{◌-◌, arith, length, ℕ}
use Rattle.page_model.specs.Tree as tree
use Rattle.page_model.specs.Redo.{is_some}
use Rattle.image_model.specs.Undo.{nodes_of}
use Rattle.plain_images.specs.Images.{redone_of}
use Rattle.plain_images.specs.Replayed.{lost_in}
use Rattle.plain_images.specs.Damages.{told}
use Rattle.plain_images.proofs.DamageLemmas.{without_more}
use Rattle.plain_images.proofs.damages.first_lacking.Goals as goal

pub loop-left-preserved : goal.loop-left-preserved
loop-left-preserved c =
    let w = c.loop-left.invariant.within in
    let t = c.loop-left-test.true in
    record {
      within = omega arith;
      is = without_more (lost_in c.args.replayed.now) (λ (k : ℕ). is_some (tree.entry (length c.args.bases.now) (nodes_of (redone_of c.args.bases.now c.args.replayed.now.redone)) k))
          c.args.replayed.now.records.items (c.loop-left.left - 1) c.loop-left.left c.index.result.now (told c.loop-left.first) (told c.in_ok-found.found) (told c.or_first-first.result)
          (omega arith) (omega arith) c.index.ensures c.loop-left.invariant.is c.in_ok-found.ensures c.or_first-first.ensures;
    }
