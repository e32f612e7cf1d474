use Rattle.std.proofs.Common.{ap, ◌∙◌, codes}
use Rattle.disk_slots.specs.Slots.{slot_of}
use Rattle.disk_slots.specs.Masters.{master_slot}
use Rattle.disk_slots.proofs.master.master_bytes.Goals as goal

pub returns : goal.returns
unfolding master_slot
returns c = c.put_slot.ensures.after ∙ ap (slot_of (codes "LEANMAST")) c.words_of.ensures
