-- Which crash of the core's state the bytes of a disk show.
use Rattle.std.specs.Prelude.{ℕ, List}
use Rattle.core_crash.specs.image_model.Entries.{Entry, Contents}
use Rattle.core_crash.specs.image_model.Images.{found}
use Rattle.core_crash.specs.core_state.Openings.{Opening}
use Rattle.core_crash.specs.core_state.Events.{Event}
use Rattle.core_crash.specs.Crashes.{Leaves, image_of}
use Rattle.disk_image.specs.disk_slots.declared.master.Master.{Master}
use Rattle.disk_image.specs.Laws.{Agree}
use Rattle.disk_image.specs.Shown.{Areas, IsCleanDisk, image_by}
use Rattle.core_crash.specs.core_state.Steps.{state_after}
use Rattle.core_disk.specs.FloorLaws.{ReachesAsFar, at_floor}
use Rattle.core_disk.specs.Held.{HoldsRun}

-- The image of the bytes is one that a crash of the core's state may leave, but for its floor, by which recovery finds the same; and nothing of a later generation
-- lies there.
pub record Shows (g : Opening) (es : List Event) (n : Master) (area : Areas) : Type 0 where
  pub logs : ℕ → List Entry
  pub page : ℕ → Contents
  pub leaves : Leaves g es logs page
  pub agree : Agree (at_floor n.floor (image_of g (state_after g es) logs page)) (image_by n area)
  pub as_far : ReachesAsFar g (state_after g es) n.floor (found (image_of g (state_after g es) logs page))
  pub clean : IsCleanDisk n area

-- Whatever run it was, a disk that holds what a crash of it left shows such a crash.
abbrev pub EveryShown : Type 0
EveryShown = (g : Opening) (es : List Event) (n : Master) (area : Areas) → HoldsRun g es n area → Shows g es n area
