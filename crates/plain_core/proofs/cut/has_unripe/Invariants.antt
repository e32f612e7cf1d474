use Rattle.std.proofs.Common.{◌≡◌, Bool, drop}
use Rattle.map_model.specs.Lists.{any}
use Rattle.core_state.specs.image_model.Entries as entries
use Rattle.plain_core.specs.Inside.{is_unripe}
use Rattle.plain_core.specs.Tables.{at}
use Rattle.plain_core.specs.Records.{entries_of}
use Rattle.plain_core.proofs.cut.has_unripe.Given as goal

abbrev pub invariant-loop-entry : goal.invariant-loop-entry
invariant-loop-entry l =
    let p : entries.Entry → Bool = is_unripe (at l.flushed) l.by_all l.number (entries_of l.entries) in
    any p (entries_of l.entries) ≡ any p (entries_of (drop l.entry-index l.entries))
