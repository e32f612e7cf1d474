use Rattle.std.proofs.Common.{◌≡◌, ◌≤◌, ◌-◌, length}
use Rattle.lean_disk.specs.Moments.{LeavesOnly, CrashIn, Framed}
use Rattle.lean_disk.specs.Story.{Tells}
use Rattle.disk_format.specs.Formatted.{Anything, HasPages}
use Rattle.disk_format.proofs.parts.write_pages.Given as goal

abbrev pub decreases-loop-first : goal.decreases-loop-first
decreases-loop-first g l = l.pages - l.first

abbrev pub invariant-loop-first : goal.invariant-loop-first
invariant-loop-first g l =
    let s0 = g.P.Part.story l.fn.dev in
    let s = g.P.Part.story l.dev in
    let a = (g.P.Part.seat l.fn.dev).area in
    record {
      within : l.first ≤ l.pages;
      room : length l.buffer ≡ 65536;
      run : LeavesOnly s0 s (CrashIn s0 a Anything);
      frame : Framed a s0 s;
      seat : g.P.Part.seat l.dev ≡ g.P.Part.seat l.fn.dev;
      pages : Tells s a → HasPages l.first (s.area a).bytes;
      faults : g.P.Part.faults l.dev ≡ g.P.Part.faults l.fn.dev;
    }
