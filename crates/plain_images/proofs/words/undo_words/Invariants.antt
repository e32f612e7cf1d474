use Rattle.std.proofs.Common.{◌≡◌, drop}
use Rattle.plain_images.specs.Pages.{pairs_of}
use Rattle.plain_images.specs.Records.{entries_of}
use Rattle.plain_images.specs.Replayed.{lost_in}
use Rattle.plain_images.specs.Words as listed
use Rattle.plain_images.proofs.words.undo_words.Given as goal

abbrev pub invariant-loop-entry : goal.invariant-loop-entry
invariant-loop-entry l =
    listed.undo_words (lost_in l.replayed) (entries_of l.replayed.records.items) (pairs_of l.initial.undone.items) ≡ listed.undo_words (lost_in l.replayed) (entries_of (drop l.entry-index l.replayed.records.items)) (pairs_of l.undone.items)
