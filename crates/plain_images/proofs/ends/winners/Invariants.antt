use Rattle.std.proofs.Common.{drop}
use Rattle.image_model.specs.Ends as ends
use Rattle.plain_images.specs.Records.{entries_of}
use Rattle.plain_images.proofs.LoopFacts.{HasNamed}
use Rattle.plain_images.proofs.ends.winners.Given as goal

abbrev pub invariant-loop-entry : goal.invariant-loop-entry
invariant-loop-entry l = HasNamed l.winners.items (ends.winners l.far (entries_of (drop l.entry-index l.records))) (ends.winners l.far (entries_of l.records))
