use Rattle.std.proofs.Common.{◌≡◌, ltb, ◌&&◌, Bool, drop}
use Rattle.map_model.specs.Lists.{any}
use Rattle.core_state.specs.image_model.Entries as entries
use Rattle.plain_core.specs.Tables.{at}
use Rattle.plain_core.specs.Records.{entries_of}
use Rattle.plain_core.proofs.needs.is_behind.Given as goal

abbrev pub invariant-loop-entry : goal.invariant-loop-entry
invariant-loop-entry l =
    let p : entries.Entry → Bool = λ r. entries.is_record r.kind && ltb (at l.flushed r.log) r.number in
    any p (entries_of l.entries) ≡ any p (entries_of (drop l.entry-index l.entries))
