use Rattle.std.proofs.Common.{◌*◌, subst, ◌∙◌, arith}
use Rattle.lean_disk.specs.Calls.{Wrote}
use Rattle.lean_disk.specs.Story.{Seat}
use Rattle.lean_disk.proofs.FaultLemmas.{done_still}
use Rattle.lean_disk.proofs.MomentLemmas.{framed_wrote}
use Rattle.disk_format.specs.Fresh.{fresh_page}
use Rattle.disk_format.specs.Pieces.{pages_from}
use Rattle.disk_format.proofs.FormatLemmas.{anything_wrote, pages_written}
use Rattle.disk_format.proofs.parts.write_pages.Goals as goal

pub loop-first-preserved : goal.loop-first-preserved
loop-first-preserved g c =
    let s0 = g.P.Part.story c.args.dev.now in
    let s = g.P.Part.story c.loop-first.dev in
    let s1 = g.P.Part.story c.write_piece.new.dev in
    let a = (g.P.Part.seat c.args.dev.now).area in
    let first = c.loop-first.first in
    let count = c.min-count.result in
    let is = c.loop-first.invariant in
    let wrote : Wrote a (2048 * first) (pages_from fresh_page first count) c.write_piece.result s s1 =
    subst (λ (q : Seat). Wrote q.area (2048 * first) (pages_from fresh_page first count) c.write_piece.result s s1) is.seat c.write_piece.ensures.wrote in
    record {
      within = omega (arith, c.min-count.ensures, c.loop-first-test.true);
      room = omega (arith, is.room, c.write_piece.auto.buffer);
      run = anything_wrote a (2048 * first) (pages_from fresh_page first count) c.write_piece.result s0 s s1 is.run is.frame wrote;
      frame = framed_wrote a (2048 * first) (pages_from fresh_page first count) c.write_piece.result s0 s s1 is.frame wrote;
      seat = c.write_piece.ensures.seat ∙ is.seat;
      pages = pages_written first count a s s1 c.write_piece.result wrote c.in-Done.is is.pages;
      faults = done_still (g.P.Part.faults c.args.dev.now) (g.P.Part.faults c.loop-first.dev) (g.P.Part.faults c.write_piece.new.dev) c.write_piece.result is.faults c.write_piece.ensures.cause c.in-Done.is;
    }
