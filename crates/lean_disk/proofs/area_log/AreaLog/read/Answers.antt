use Rattle.std.proofs.Common.{refl, is_ok}
use Rattle.lean_disk.specs.Area.{fresh}
use Rattle.lean_disk.specs.declared.area_log.What.TheVariants.{Looked}
use Rattle.lean_disk.specs.declared.area_log.Call.{Call}
use Rattle.lean_disk.specs.Inside.Lists.{kept_push}
use Rattle.lean_disk.specs.Inside.Newest.{ordered_if}
use Rattle.lean_disk.proofs.area_log.AreaLog.read.Goals as goal

pub invariant_of-self : goal.invariant_of-self
invariant_of-self c =
    let log = c.args.self.now in
    let call : Call = record { number = c.args.number; notes = c.args.notes; what = Looked } in
    record {
      kept = kept_push (fresh log.first.items) log.calls.items c.push.new.self.items call log.bytes.items (is_ok c.push.result) c.push.ensures.items (λ y. refl) log.kept;
      ordered = ordered_if log.calls.items c.push.new.self.items call (is_ok c.push.result) c.push.ensures.items c.requires log.ordered;
    }
