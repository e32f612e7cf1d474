use Rattle.std.proofs.Common.{◌≡◌, drop}
use Rattle.map_model.specs.Lists.{all}
use Rattle.session_desks.specs.Syncs.{finds_room_desk}
use Rattle.session_desks.proofs.syncs.desks_may_flush.Given as goal

abbrev pub invariant-loop-desk : goal.invariant-loop-desk
invariant-loop-desk l = all finds_room_desk (drop l.desk-index l.desks) ≡ all finds_room_desk l.desks
