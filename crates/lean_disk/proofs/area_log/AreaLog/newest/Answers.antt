use Rattle.std.proofs.Common.{◌≡◌, ◌∙◌, ◌+◌, ◌-◌, length, ap, arith}
use Rattle.lean_disk.specs.declared.area_log.Call.{Call}
use Rattle.lean_disk.specs.Inside.Newest.{last_get}
use Rattle.lean_disk.proofs.area_log.AreaLog.newest.Goals as goal

pub returns : goal.returns
returns c =
    let last : (c.len-count.result - 1) + 1 ≡ length c.args.self.now.calls.items = omega arith in
    ap (λ (d : Call). d.number) c.index.ensures ∙ last_get c.args.self.now.calls.items (c.len-count.result - 1) c.index.result.now last
