use Rattle.std.proofs.Common.{◌∙◌}
use Rattle.plain_core.specs.Tables.{at}
use Rattle.plain_core.proofs.Placings.{set_more}
use Rattle.plain_core.proofs.table.Table.set_all.Goals as goal

pub loop-change-preserved : goal.loop-change-preserved
loop-change-preserved g c = λ i.
    set_more c.pop.new.self.items c.loop-change.newer.items c.in-Some.change (at c.set.new.self) (at c.loop-change.self) i c.in-Some.ensures.items c.in_ok-set.ensures ∙ c.loop-change.invariant i
