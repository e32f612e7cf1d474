-- A new set.
use Rattle.std.proofs.Common.{◌≡◌, replicate, false, arith}
use Rattle.std.proofs.lemmas.Grind.{common_steps, div_ceil_times}
use Rattle.free_pages.specs.declared.blocks.TheConstants.{BLOCK}
use Rattle.free_pages.proofs.PartLemmas.{counted_none}
use Rattle.free_pages.proofs.pages.FreePages.new.Goals as goal

pub invariant_of-result : goal.invariant_of-result
invariant_of-result c =
    let k = counted_none BLOCK c.args.pages c.div_ceil.result (omega arith) (omega (arith, div_ceil_times c.args.pages 256 (omega arith))) in
    let marks : c.resize.new.self.items ≡ replicate c.args.pages false = grind (arith, common_steps) in
    let counts : c.resize-2.new.self.items ≡ replicate c.div_ceil.result 0 = grind (arith, common_steps) in
    rw (marks, counts) k
