use Rattle.std.proofs.Common.{drop}
use Rattle.image_model.specs.Ends as ends
use Rattle.plain_images.specs.Records.{entries_of}
use Rattle.plain_images.proofs.LoopFacts.{HasNamed, lost_among}
use Rattle.plain_images.proofs.ends.losers.Given as goal

abbrev pub invariant-loop-place : goal.invariant-loop-place
invariant-loop-place l = HasNamed l.losers.items (lost_among l.far (entries_of l.records) (entries_of (drop l.place l.records))) (ends.losers l.far (entries_of l.records))
