use Rattle.std.proofs.Common.{◌∙◌, ◌<◌, ◌≤◌, length, sym, ap, arith}
use Rattle.lean_disk.specs.Memory.{View, area_now, slot_view}
use Rattle.lean_disk.specs.declared.slot.Slot.{Slot}
use Rattle.lean_disk.specs.Inside.Slots.{view_get}
use Rattle.lean_disk.proofs.BeginLemmas.{view_past}
use Rattle.lean_disk.proofs.mem_disk.MemDisk.bytes.Goals as goal

pub returns-then-area-len : goal.returns-then-area-len
returns-then-area-len c =
    let areas = c.args.self.now.areas.items in
    let lt : c.args.area < length areas = omega arith in
    c.bytes.ensures ∙ ap (λ (s : Slot). (area_now (slot_view s)).bytes) c.index.ensures ∙ ap (λ (v : View). (area_now v).bytes) (sym (view_get areas c.args.area c.index.result.now lt))

pub returns-else-area-len : goal.returns-else-area-len
returns-else-area-len c =
    let d = c.args.self.now in
    let past : length d.areas.items ≤ c.args.area = omega arith in
    ap (λ (v : View). (area_now v).bytes) (sym (view_past d.areas.items c.args.area past))
