use Rattle.std.proofs.Common.{◌≡◌, Bool, drop}
use Rattle.map_model.specs.Lists.{any}
use Rattle.core_state.specs.image_model.Entries as entries
use Rattle.core_state.specs.Needs as needs
use Rattle.plain_core.specs.Tables.{at}
use Rattle.plain_core.specs.Records.{entry_of, entries_of}
use Rattle.plain_core.proofs.cut.has_ripe_end.Given as goal

abbrev pub invariant-loop-last : goal.invariant-loop-last
invariant-loop-last l =
    let p : entries.Entry → Bool = λ e. needs.is_ripe_end (at l.flushed) l.by_all (entry_of l.entry) e in
    any p (entries_of l.entries) ≡ any p (entries_of (drop l.last-index l.entries))
