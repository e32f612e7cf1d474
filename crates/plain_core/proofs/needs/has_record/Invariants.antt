use Rattle.std.proofs.Common.{◌≡◌, ◌==◌, ◌&&◌, Bool, drop}
use Rattle.map_model.specs.Lists.{any}
use Rattle.core_state.specs.image_model.Entries as entries
use Rattle.plain_core.specs.Records.{entries_of}
use Rattle.plain_core.proofs.needs.has_record.Given as goal

abbrev pub invariant-loop-entry : goal.invariant-loop-entry
invariant-loop-entry l =
    let p : entries.Entry → Bool = λ r. entries.is_record r.kind && ((r.log == l.log) && (r.number == l.number)) in
    any p (entries_of l.entries) ≡ any p (entries_of (drop l.entry-index l.entries))
