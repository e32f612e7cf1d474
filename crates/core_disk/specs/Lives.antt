-- What recovery gives from a disk that a crash of a run left.
use Rattle.std.specs.Prelude.{List}
use Rattle.map_model.specs.Lists.{Has}
use Rattle.map_model.specs.Journals.{Txn, Journal, IsClosed, after}
use Rattle.core_crash.specs.image_model.Ends.{kept}
use Rattle.core_crash.specs.image_model.Images.{found, won_by}
use Rattle.core_crash.specs.core_state.Openings.{Opening, first_map}
use Rattle.core_crash.specs.core_state.States.{State}
use Rattle.core_crash.specs.core_state.Events.{Event}
use Rattle.core_crash.specs.Crashes.{Follows, IsRipe, journal_in}
use Rattle.disk_image.specs.disk_slots.declared.master.Master.{Master}
use Rattle.disk_image.specs.Shown.{Areas, DiskStandsFor, IsCleanDisk, image_by}
use Rattle.core_crash.specs.core_state.Steps.{state_after}
use Rattle.core_disk.specs.Held.{HoldsRun}

-- the transactions that a disk keeps: up to its master's floor, and its winners
abbrev pub kept_on : Opening → State → Master → Areas → Journal
kept_on g s n area = kept g.workers n.floor (found (image_by n area)) (journal_in g s)

-- No rule is broken. The disk stands for the map after the kept, by its own winners; these are closed, and hold each ripe one.
pub record Lives (g : Opening) (s : State) (n : Master) (area : Areas) : Type 0 where
  pub clean : IsCleanDisk n area
  pub stands : DiskStandsFor n area (after (first_map g) (kept_on g s n area)) (won_by (image_by n area))
  pub closed : IsClosed (journal_in g s) (kept_on g s n area)
  pub followed : (t u : Txn) → Has t (kept_on g s n area) → Follows g s t u → Has u (kept_on g s n area)
  pub ripe : (t : Txn) → Has t (journal_in g s) → IsRipe g s t → Has t (kept_on g s n area)

-- Whatever run it was, a disk that holds what a crash of it left lives.
abbrev pub EveryHeld : Type 0
EveryHeld = (g : Opening) (es : List Event) (n : Master) (area : Areas) → HoldsRun g es n area → Lives g (state_after g es) n area
