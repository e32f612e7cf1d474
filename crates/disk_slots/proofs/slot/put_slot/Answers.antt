use Rattle.std.proofs.Common.{◌-◌, length, ap, refl, ◌∙◌}
use Rattle.disk_slots.proofs.SlotLemmas.{slot-written}
use Rattle.disk_slots.proofs.slot.put_slot.Goals as goal

pub returns-clause-after : goal.returns-clause-after
returns-clause-after c = slot-written c.args.tag.now c.args.into.now c.args.words.now c.put_words.new.into c.copy_from_slice.new.self (length c.args.into.now - 16) _ c.told-words c.requires (ap (λ j. j - 16) c.requires) c.put_words.ensures (c.copy_from_slice.ensures.after ∙ c.seal-seal.ensures) refl

pub returns-clause-words : goal.returns-clause-words
returns-clause-words c = record { word = c.fits-words }
