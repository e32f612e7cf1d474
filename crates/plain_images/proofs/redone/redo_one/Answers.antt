use Rattle.std.proofs.Common.{refl}
use Rattle.plain_images.specs.declared.redone.Mark.{Mark}
use Rattle.plain_images.specs.Records.{entry_of}
use Rattle.plain_images.specs.Images.{bases_of}
use Rattle.plain_images.proofs.RedoLemmas.{redone_with, marked_with}
use Rattle.plain_images.proofs.redone.redo_one.Goals as goal

pub returns-then-counts : goal.returns-then-counts
returns-then-counts c =
    let m : Mark = record { log = c.args.entry.now.log; number = c.args.entry.now.number; counts = c.stands-counts.result } in
    redone_with (bases_of c.args.bases.now) c.in_ok-newer.newer.items c.args.redone.placed.items c.in_ok-placed.placed.items c.deref.result.now c.deref-then-counts.result.now m c.args.redone.marks.items c.insert.new.self.items (entry_of c.args.entry.now)
    refl refl c.if-counts.true c.in_ok-placed.ensures c.in_ok-insert.ensures.items c.deref.ensures.value c.deref-then-counts.ensures.value c.if-counts.ensures c.in_ok-newer.ensures

pub returns : goal.returns
returns c =
    let m : Mark = record { log = c.args.entry.now.log; number = c.args.entry.now.number; counts = c.stands-counts.result } in
    marked_with (bases_of c.args.bases.now) c.args.redone.placed.items c.deref.result.now m c.args.redone.marks.items c.insert.new.self.items (entry_of c.args.entry.now)
    refl refl c.if-counts.false c.in_ok-insert.ensures.items c.deref.ensures.value c.if-counts.ensures
