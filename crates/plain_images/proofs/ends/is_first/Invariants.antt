use Rattle.std.proofs.Common.{◌≡◌, drop}
use Rattle.map_model.specs.Lists.{any}
use Rattle.image_model.specs.Entries.{same_txn}
use Rattle.plain_images.specs.Records.{entry_of, entries_of}
use Rattle.plain_images.proofs.ends.is_first.Given as goal

abbrev pub invariant-loop-other : goal.invariant-loop-other
invariant-loop-other l = any (same_txn (entry_of l.entry)) (entries_of l.earlier) ≡ any (same_txn (entry_of l.entry)) (entries_of (drop l.other-index l.earlier))
