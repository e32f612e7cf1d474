use Rattle.std.proofs.Common.{◌≡◌, ◌∙◌, ◌+◌, ◌++◌, ◌∷◌, [], List, max, take, sym, ap, subst}
use Rattle.std.proofs.lemmas.List.{take_more}
use Rattle.lean_disk.specs.Inside.Over.{IsNewest}
use Rattle.lean_disk.specs.Memory.{slot_view}
use Rattle.lean_disk.specs.Replay.{last_number}
use Rattle.lean_disk.specs.declared.slot.Slot.{Slot}
use Rattle.lean_disk.proofs.EndLemmas.{newest_more}
use Rattle.lean_disk.proofs.slots.newest.Goals as goal

pub loop-slot-preserved : goal.loop-slot-preserved
loop-slot-preserved c =
    let areas = c.args.areas.now in
    let i = c.loop-slot.slot-index in
    let slot = c.slot-item.result in
    let n = c.max-newest.result in
    let more : take (i + 1) areas ≡ take i areas ++ slot ∷ [] = take_more areas i slot c.loop-slot-test.true ∙ ap (λ (s : Slot). take i areas ++ s ∷ []) (sym c.slot-item.is) in
    let greatest : n ≡ max c.loop-slot.newest (last_number (slot_view slot).line) = c.max-newest.ensures ∙ ap (max c.loop-slot.newest) c.newest.ensures in
    subst (λ (xs : List Slot). IsNewest c.args.made xs n) (sym more) (newest_more c.args.made c.loop-slot.newest n (take i areas) slot c.loop-slot.invariant greatest)
