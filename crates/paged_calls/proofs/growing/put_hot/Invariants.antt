use Rattle.std.proofs.Common.{◌≡◌, ◌≤◌, ◌<◌, ◌+◌, ◌*◌, ◌^◌, ℕ}
use Rattle.paged_desks.specs.core_calls.Room.{room_takes}
use Rattle.paged_desks.specs.Machines.{IsReady, pages, view_of}
use Rattle.paged_desks.specs.paged_rows.Paged.{IsWarm}
use Rattle.paged_desks.specs.row_words.Openings.{opening}
use Rattle.paged_desks.specs.rows_trait.Views.{state}
use Rattle.paged_calls.specs.Growths.{HasMade, MayPut}
use Rattle.paged_calls.specs.Rounds.{most_a_round}
use Rattle.paged_calls.proofs.growing.put_hot.Given as goal

abbrev pub invariant-room : goal.invariant-room
invariant-room g l = record {
  ready : IsReady g.D.Disk.story l.machine;
  may : MayPut l.key l.machine;
  small : l.machine.machine.work.session.clock.clock < 2 ^ 62;
  warm : IsWarm (pages l.machine) l.key 0;
  most : ℕ;
  made : HasMade g.D.Disk.story l.key most l.fn.machine l.machine;
  few : most + room_takes (opening (view_of l.machine).given) (state (view_of l.machine)).core l.key * most_a_round ≤ 9 * most_a_round;
  faults : g.D.Disk.faults l.machine.machine.work.disk ≡ g.D.Disk.faults l.fn.machine.machine.work.disk;
}

abbrev pub decreases-room : goal.decreases-room
decreases-room g l = room_takes (opening (view_of l.machine).given) (state (view_of l.machine)).core l.key
