use Rattle.std.proofs.Common.{◌≡◌, ◌<◌, ◌^◌, ◌∙◌, sym, ap, length, true, arith}
use Rattle.lean_disk.specs.Memory.{all_own, view_at}
use Rattle.lean_disk.proofs.NoteLemmas.{story_noted}
use Rattle.lean_disk.proofs.mem_disk.MemDiskDisk.note.Goals as goal

pub returns-then-is_told-clause-noted : goal.returns-then-is_told-clause-noted
returns-then-is_told-clause-noted c =
    let d = c.args.self.now in
    let fits : d.notes < 2 ^ 64 = omega arith in
    let whole : all_own d.own d.areas.items ≡ true = sym (ap (all_own d.own) c.deref.ensures.value) ∙ sym c.is_told.ensures ∙ c.if-is_told.true in
    story_noted (view_at d.areas.items) (all_own d.own d.areas.items) (length d.areas.items) d.made d.notes d.dated whole c.saturating_add-self.result fits c.saturating_add-self.ensures
