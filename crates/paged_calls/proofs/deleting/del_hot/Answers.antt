use Rattle.std.proofs.Common.{◌≡◌, Err, subst}
use Rattle.row_room.proofs.row_changes.DelLemmas.{none_lost_by_del}
use Rattle.row_room.specs.row_changes.Dels.{Dels}
use Rattle.row_room.specs.row_changes.declared.ways.Unmade.{Unmade}
use Rattle.paged_desks.specs.Machines.{view_of}
use Rattle.paged_calls.proofs.deleting.del_hot.Goals as goal

pub unserved_of-requires-clause-cut : goal.unserved_of-requires-clause-cut
unserved_of-requires-clause-cut g c = c.in-Err.ensures.cause_cold c.requires.warm

pub unserved_of-requires-clause-lost : goal.unserved_of-requires-clause-lost
unserved_of-requires-clause-lost g c = none_lost_by_del c.in-Err.unmade _ _ _ _ _ _ _ _ _ _ c.in-Err.ensures.dels

pub returns-in-Err-clause-dels : goal.returns-in-Err-clause-dels
returns-in-Err-clause-dels g c =
    let m = c.args.machine.now in
    let n = c.del_in_leaf.new.machine in
    subst (λ (r : Unmade). Dels (Err r) m.machine.work.session.own (view_of m) (view_of n) c.args.key m.machine.work.log n.machine.work.log (g.D.Disk.story m.machine.work.disk) (g.D.Disk.story n.machine.work.disk) (n.machine.work ≡ m.machine.work) (n.machine.work.disk ≡ m.machine.work.disk)) c.unserved_of.ensures c.in-Err.ensures.dels
