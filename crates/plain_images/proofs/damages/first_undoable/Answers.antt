use Rattle.std.proofs.Common.{◌-◌, arith, length}
use Rattle.plain_images.specs.Pages.{format_of}
use Rattle.plain_images.specs.Images.{bases_of}
use Rattle.plain_images.specs.Damages.{told}
use Rattle.plain_images.proofs.DamageLemmas.{undoable_more}
use Rattle.plain_images.proofs.damages.first_undoable.Goals as goal

pub loop-left-preserved : goal.loop-left-preserved
loop-left-preserved c =
    let w = c.loop-left.invariant.within in
    let t = c.loop-left-test.true in
    record {
      within = omega arith;
      is = undoable_more (format_of (length c.args.bases.now)) (bases_of c.args.bases.now) c.args.records.now (c.loop-left.left - 1) c.loop-left.left c.index-records-left.result (told c.loop-left.first) (told c.in_ok-found.found) (told c.or_first-first.result)
          (omega arith) (omega arith) c.index-records-left.is c.loop-left.invariant.is c.in_ok-found.ensures c.or_first-first.ensures;
    }
