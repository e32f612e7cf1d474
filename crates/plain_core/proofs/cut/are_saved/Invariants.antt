use Rattle.std.proofs.Common.{◌≡◌, Bool, leb, map, drop}
use Rattle.map_model.specs.Lists.{all}
use Rattle.page_model.specs.Records as records
use Rattle.plain_core.specs.Tables.{at}
use Rattle.plain_core.specs.Records.{page_of, ref_of}
use Rattle.plain_core.proofs.cut.are_saved.Given as goal

abbrev pub invariant-loop-changed : goal.invariant-loop-changed
invariant-loop-changed l =
    let p : records.Ref → Bool = λ f. leb l.number (page_of (at l.saved f.page)).gsn in
    all p (map ref_of l.refs) ≡ all p (map ref_of (drop l.changed-index l.refs))
