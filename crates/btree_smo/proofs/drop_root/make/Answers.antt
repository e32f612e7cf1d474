use Rattle.btree_smo.proofs.LoweredPages.{lowered, lowered_as, both_formed}
use Rattle.btree_smo.proofs.drop_root.make.Goals as goal

pub finish-requires-clause-lowered : goal.finish-requires-clause-lowered
finish-requires-clause-lowered g c =
    let r = c.requires in
    lowered_as c.number.ensures c.lower.ensures.root c.lower.ensures.child (lowered c.args.dropping r.two r.first r.dropping r.actor r.sound c.args.number r.number)

pub lower-requires-clause-live : goal.lower-requires-clause-live
lower-requires-clause-live g c = let r = c.requires in (both_formed c.args.dropping r.two r.first r.dropping r.actor r.sound).0

pub lower-requires-clause-low : goal.lower-requires-clause-low
lower-requires-clause-low g c = let r = c.requires in (both_formed c.args.dropping r.two r.first r.dropping r.actor r.sound).1

pub lower-requires-clause-high : goal.lower-requires-clause-high
lower-requires-clause-high g c = let r = c.requires in (both_formed c.args.dropping r.two r.first r.dropping r.actor r.sound).2
