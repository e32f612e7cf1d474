use Rattle.std.proofs.Common.{◌∙◌, sym, true≢false}
use Rattle.disk_slots.proofs.SlotLemmas.{slot-sealed}
use Rattle.disk_slots.proofs.MasterLemmas.{slot-sound, master-read}
use Rattle.disk_slots.proofs.master.read_master.Goals as goal

pub returns-then-not-is_master-clause-cause_malformed : goal.returns-then-not-is_master-clause-cause_malformed
returns-then-not-is_master-clause-cause_malformed c _ =
    let h = c.in-Some.ensures.answer in
    (slot-sealed _ _ _ h, (λ m s. true≢false (sym (c.is_master.ensures.1 (slot-sound c.args.slot c.args.bytes.now c.in-Some.words m h s)) ∙ c.if-not-is_master.true)))

pub returns-clause-answer : goal.returns-clause-answer
returns-clause-answer c =
    let e = c.master_of.ensures in
    master-read c.args.slot c.args.bytes.now c.in-Some.words c.master_of.result c.in-Some.ensures.answer (c.is_master.ensures.0 c.if-not-is_master.false)
    (record { sequence = e.sequence; generation = e.generation; floor = e.floor; pages = e.pages; blocks = e.blocks; heads = e.heads })
