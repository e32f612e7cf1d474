-- A new table.
use Rattle.std.proofs.Common.{◌≡◌, replicate, arith}
use Rattle.std.proofs.lemmas.Grind.{common_steps}
use Rattle.cold_pages.specs.declared.kept.TheConstants.{FREE, NOBODY}
use Rattle.cold_pages.proofs.RowLemmas.{rows-replicate}
use Rattle.cold_pages.proofs.pages.ColdPages.new.Goals as goal

pub returns : goal.returns
returns c =
    let g : c.resize.new.self.items ≡ replicate c.args.pages 0 = grind (arith, common_steps) in
    let o : c.resize-2.new.self.items ≡ replicate c.args.pages 0 = grind (arith, common_steps) in
    let v : c.resize-3.new.self.items ≡ replicate c.args.pages FREE = grind (arith, common_steps) in
    let l : c.resize-4.new.self.items ≡ replicate c.args.pages 0 = grind (arith, common_steps) in
    let h : c.resize-5.new.self.items ≡ replicate c.args.pages 0 = grind (arith, common_steps) in
    let n : c.resize-6.new.self.items ≡ replicate c.args.pages 0 = grind (arith, common_steps) in
    let w : c.resize-7.new.self.items ≡ replicate c.args.pages NOBODY = grind (arith, common_steps) in
    rw (g, o, v, l, h, n, w) (rows-replicate c.args.pages)
