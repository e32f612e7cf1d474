use Rattle.std.proofs.Common.{◌-◌, length, ap}
use Rattle.disk_slots.proofs.SlotLemmas.{sealed-by}
use Rattle.disk_slots.proofs.slot.is_sealed.Goals as goal

pub returns : goal.returns
returns c =
    let l = c.if-bytes-ne1024.false in
    let bs = c.args.bytes.now in
    let n = length bs - 16 in
    sealed-by c.args.tag.now bs n (length bs - n) n c.check.result l (ap (λ j. j - 16) l) (ap (λ j. j - n) l) c.check.ensures
