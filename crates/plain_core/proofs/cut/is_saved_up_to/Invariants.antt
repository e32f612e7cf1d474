use Rattle.std.proofs.Common.{◌≡◌, Bool, drop}
use Rattle.map_model.specs.Lists.{all}
use Rattle.core_state.specs.image_model.Entries as entries
use Rattle.plain_core.specs.Inside.{is_saved}
use Rattle.plain_core.specs.Tables.{at}
use Rattle.plain_core.specs.Records.{page_of, entries_of}
use Rattle.plain_core.proofs.cut.is_saved_up_to.Given as goal

abbrev pub invariant-loop-entry : goal.invariant-loop-entry
invariant-loop-entry l =
    let p : entries.Entry → Bool = is_saved (λ q. page_of (at l.saved q)) l.number in
    all p (entries_of l.entries) ≡ all p (entries_of (drop l.entry-index l.entries))
