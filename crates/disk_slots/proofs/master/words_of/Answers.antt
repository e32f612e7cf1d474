use Rattle.std.proofs.Common.{◌∙◌, arith}
use Rattle.disk_slots.proofs.MasterLemmas.{master-written}
use Rattle.disk_slots.proofs.master.words_of.Goals as goal

pub returns : goal.returns
returns c =
    let b = c.logs.ensures.bound in
    let a = c.logs.ensures.answer in
    master-written c.args.master.now c.put.new.words c.from.result c.from-2.result c.from-3.result (omega arith) c.put.ensures c.from.ensures c.from-2.ensures (c.from-3.ensures ∙ a)
