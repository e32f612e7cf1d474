use Rattle.std.proofs.Common.{◌∙◌, sym, length, ◌<◌, arith}
use Rattle.edge_tests.proofs.disks.lent.Goals as goal

pub split-part-requires : goal.split-part-requires
split-part-requires c =
    let d = c.in_ok-disk.disk in
    let inside : 1 < length d.areas.items = omega (arith, c.in_ok-disk.ensures.areas) in
    record { here = λ some. (inside, c.every_area.ensures d 1 c.in_ok-disk.ensures.counts) }

pub rejoin-requires-clause-notes : goal.rejoin-requires-clause-notes
rejoin-requires-clause-notes c told =
    let d = c.in_ok-disk.disk in
    let split = c.split-part.ensures.split in
    c.sync-synced.ensures.synced.notes ∙ c.write-wrote.ensures.wrote.notes ∙ (split.here (c.every_area.ensures d 1 c.in_ok-disk.ensures.counts)).2 ∙ sym split.notes
