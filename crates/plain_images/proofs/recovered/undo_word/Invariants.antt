use Rattle.std.proofs.Common.{◌≡◌, drop}
use Rattle.plain_images.specs.Records.{entries_of}
use Rattle.plain_images.specs.Replayed.{lost_in}
use Rattle.plain_images.specs.Undo.{word_undone}
use Rattle.plain_images.proofs.recovered.undo_word.Given as goal

abbrev pub invariant-loop-entry : goal.invariant-loop-entry
invariant-loop-entry l =
    word_undone (lost_in l.replayed) (entries_of l.replayed.records.items) l.key l.word ≡ word_undone (lost_in l.replayed) (entries_of (drop l.entry-index l.replayed.records.items)) l.key l.undone
