use Rattle.std.proofs.Common.{◌≡◌, drop}
use Rattle.map_model.specs.Lists.{any}
use Rattle.image_model.specs.Ends as ends
use Rattle.plain_images.specs.Records.{entry_of, entries_of}
use Rattle.plain_images.proofs.ends.is_ended.Given as goal

abbrev pub invariant-loop-end : goal.invariant-loop-end
invariant-loop-end l = any (ends.ends l.far (entry_of l.entry)) (entries_of l.records) ≡ any (ends.ends l.far (entry_of l.entry)) (entries_of (drop l.end-index l.records))
