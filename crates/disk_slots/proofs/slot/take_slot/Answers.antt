use Rattle.std.proofs.Common.{◌-◌, length, ap}
use Rattle.disk_slots.specs.Slots.{IsSealed}
use Rattle.disk_slots.proofs.SlotLemmas.{slot-read}
use Rattle.disk_slots.proofs.slot.take_slot.Goals as goal

pub returns-clause-answer : goal.returns-clause-answer
returns-clause-answer c =
    let s : IsSealed c.args.tag.now c.args.bytes.now = c.is_sealed.ensures.0 c.if-not-is_sealed.false in
    slot-read c.args.tag.now c.args.bytes.now c.take_words.new.words (length c.args.bytes.now - 16) (ap (λ j. j - 16) s.long) s c.take_words.auto.words c.take_words.ensures.after c.take_words.ensures.fits
