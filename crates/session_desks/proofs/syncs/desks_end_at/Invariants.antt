use Rattle.std.proofs.Common.{◌≡◌, drop}
use Rattle.map_model.specs.Lists.{all}
use Rattle.session_desks.specs.Syncs.{ends_at}
use Rattle.session_desks.proofs.syncs.desks_end_at.Given as goal

abbrev pub invariant-loop-desk : goal.invariant-loop-desk
invariant-loop-desk l = all (ends_at l.number) (drop l.desk-index l.desks) ≡ all (ends_at l.number) l.desks
