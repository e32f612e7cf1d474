use Rattle.std.proofs.Common.{◌≡◌, drop}
use Rattle.session_desks.specs.Syncs.{greatest}
use Rattle.session_desks.proofs.syncs.greatest_clock.Given as goal

abbrev pub invariant-loop-desk : goal.invariant-loop-desk
invariant-loop-desk l = greatest l.found (drop l.desk-index l.desks) ≡ greatest l.first.clock.clock l.desks
