use Rattle.std.proofs.Common.{◌≡◌, ◌*◌, ◌++◌, drop}
use Rattle.disk_format.specs.Fresh.{fresh_page}
use Rattle.disk_format.specs.Pieces.{pages_from}
use Rattle.disk_format.proofs.parts.fill.Given as goal

abbrev pub invariant-loop-i : goal.invariant-loop-i
invariant-loop-i l = l.buffer ≡ pages_from fresh_page l.first l.i ++ drop (2048 * l.i) l.initial.buffer
