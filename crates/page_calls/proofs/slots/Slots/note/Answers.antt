use Rattle.std.proofs.Common.{◌∙◌, length, ap, arith}
use Rattle.page_calls.specs.Slots.{saved_slot}
use Rattle.page_calls.proofs.Knowing.{saved_set, get_some}
use Rattle.page_calls.proofs.slots.Slots.note.Goals as goal

pub returns : goal.returns
returns c =
    let is = ap length c.self.view_is in
    let r = c.requires in
    saved_set c.args.page c.self.inside.slots.items c.index-slot.result.now (get_some c.self.inside.slots.items c.args.page c.index-slot.result.now (omega arith) c.index-slot.ensures) ∙ ap (saved_slot c.args.page) c.self.view_is
