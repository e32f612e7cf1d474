use Rattle.std.proofs.Common.{◌-◌, arith}
use Rattle.plain_images.specs.Images.{bases_of, redone_of}
use Rattle.plain_images.proofs.RedoLemmas.{redone_more}
use Rattle.plain_images.proofs.redone.redo.Goals as goal

pub loop-left-preserved : goal.loop-left-preserved
loop-left-preserved c =
    let w = c.loop-left.invariant.within in
    let t = c.loop-left-test.true in
    record {
      within = omega arith;
      is = redone_more (bases_of c.args.bases.now) c.args.records.now (c.loop-left.left - 1) c.loop-left.left c.index-records-left.result (redone_of c.args.bases.now c.loop-left.redone) (redone_of c.args.bases.now c.in_ok-redone.redone)
          (omega arith) (omega arith) c.index-records-left.is c.loop-left.invariant.is c.in_ok-redone.ensures;
    }
