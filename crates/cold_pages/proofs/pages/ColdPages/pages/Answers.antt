use Rattle.std.proofs.Common.{ap, length, arith, List}
use Rattle.cold_pages.specs.declared.kept.Kept.{Kept}
use Rattle.cold_pages.proofs.RowLemmas.{length-rows}
use Rattle.cold_pages.proofs.pages.ColdPages.pages.Goals as goal

pub returns : goal.returns
returns c =
    let n = length-rows _ _ _ _ _ _ _ c.self.invariant in
    let e = ap (λ (z : List Kept). length z) c.self.view_is in
    let l = c.len.ensures in
    omega arith
