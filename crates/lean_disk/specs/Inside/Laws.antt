-- What a disk in memory and its parts tell is lawful.
use Rattle.std.proofs.Common.{◌≡◌, ℕ, Bool, List, length, false, true, IsTrue}
use Rattle.std.specs.List.{AllByRecursion}
use Rattle.lean_disk.specs.Story.{IsLawful, Tells}
use Rattle.lean_disk.specs.Memory.{AreDated, IsDated, areas_story, part_story, view_at, all_own, only, log_view}
use Rattle.lean_disk.specs.Inside.Kept.{lawful}
use Rattle.lean_disk.specs.Inside.Slots.{only_dated, each_here}
use Rattle.lean_disk.specs.declared.area_log.AreaLog.{AreaLog}
use Rattle.lean_disk.specs.declared.slot.Slot.{Slot}

pub areas_lawful : (own : Bool) (areas : List Slot) (made notes : ℕ) → AreDated own areas made notes → IsLawful (areas_story own areas made notes)
areas_lawful own areas made notes dated = lawful (view_at areas) (all_own own areas) (length areas) made notes dated

pub areas_whole : (own : Bool) (areas : List Slot) (made notes a : ℕ) → IsTrue (areas_story own areas made notes).counts → Tells (areas_story own areas made notes) a
areas_whole true areas made notes a counts = each_here areas a counts
areas_whole false areas made notes a counts = absurd (let no : false ≡ true = counts in cc)

pub part_lawful : (area : ℕ) (log : AreaLog) (made notes : ℕ) → AllByRecursion (IsDated made 1 notes) log.calls.items → IsLawful (part_story area log made notes)
part_lawful area log made notes dated = lawful (only area (log_view log)) false 0 made notes (only_dated area (log_view log) made notes dated)

pub part_seated : (area : ℕ) (log : AreaLog) (made notes : ℕ) → IsTrue (part_story area log made notes).counts → Tells (part_story area log made notes) area
part_seated area log made notes counts = absurd (let no : false ≡ true = counts in cc)
