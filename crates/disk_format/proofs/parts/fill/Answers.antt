use Rattle.std.proofs.Common.{◌≡◌, ◌*◌, ◌++◌, ℕ, drop, subst, arith}
use Rattle.disk_format.proofs.FreshLemmas.{length-fresh_page}
use Rattle.disk_format.proofs.PieceLemmas.{pages_from-written, pages_from-all}
use Rattle.disk_format.specs.Fresh.{fresh_page}
use Rattle.disk_format.specs.Pieces.{pages_from}
use Rattle.disk_format.proofs.parts.fill.Goals as goal

pub loop-i-preserved : goal.loop-i-preserved
loop-i-preserved c = pages_from-written fresh_page 2048 length-fresh_page c.args.first c.loop-i.i c.args.buffer.now c.loop-i.buffer c.write_fresh_at.new.buffer c.loop-i.invariant c.write_fresh_at.ensures

pub returns : goal.returns
returns c =
    let all : c.loop-i.i ≡ c.args.count = omega (arith, c.loop-i-test.false, c.loop-i.auto.i-end) in
    let P = λ (n : ℕ). c.loop-i.buffer ≡ pages_from fresh_page c.args.first n ++ drop (2048 * n) c.args.buffer.now in
    pages_from-all fresh_page 2048 c.args.first c.args.count c.args.buffer.now c.loop-i.buffer (subst P all c.loop-i.invariant) c.requires.room
