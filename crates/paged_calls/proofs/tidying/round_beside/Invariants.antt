use Rattle.std.proofs.Common.{◌≡◌, ◌≤◌, ◌+◌, ◌-◌, ◌*◌, ℕ}
use Rattle.page_model.specs.Limits.{top_level}
use Rattle.paged_desks.specs.Machines.{IsReady, pages, view_of}
use Rattle.paged_desks.specs.paged_rows.Paged.{IsWarm}
use Rattle.paged_calls.specs.Tidyings.{HasPassed, HasTidied, IsLive, MayDel, WantsNeighbour, most_a_neighbour}
use Rattle.paged_calls.proofs.tidying.round_beside.Given as goal

abbrev pub invariant-climb : goal.invariant-climb
invariant-climb g l = record {
  ready : IsReady g.D.Disk.story l.machine;
  may : MayDel l.key l.at l.machine;
  warm : IsWarm (pages l.machine) l.key 0;
  live : IsLive l.key l.at l.machine;
  passed : HasPassed l.key l.at l.height l.machine;
  wants : WantsNeighbour l.key l.neighbour l.height l.machine;
  most : ℕ;
  made : HasTidied g.D.Disk.story l.key l.at l.at most l.fn.machine l.machine;
  given : (view_of l.machine).given ≡ (view_of l.fn.machine).given;
  few : most + (top_level - l.height) * most_a_neighbour ≤ 8 * most_a_neighbour;
  faults : g.D.Disk.faults l.machine.machine.work.disk ≡ g.D.Disk.faults l.fn.machine.machine.work.disk;
}

abbrev pub decreases-climb : goal.decreases-climb
decreases-climb g l = top_level - l.height
