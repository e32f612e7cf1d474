use Rattle.std.proofs.Common.{◌≤◌, length}
use Rattle.disk_file.proofs.area_file.read_from.Given as goal

abbrev pub invariant-loop : goal.invariant-loop
invariant-loop l = l.count ≤ length l.into
