-- A call on a part of a disk in memory.
use Rattle.std.proofs.Common.{◌≡◌, ℕ, ◌+◌, ◌≤◌, false, List, refl, sym, ◌∙◌, subst, arith}
use Rattle.std.specs.List.{AllByRecursion}
use Rattle.lean_disk.specs.Area.{Area, torn, written, synced}
use Rattle.lean_disk.specs.Calls.{Gave, Looked, Wrote, Synced}
use Rattle.lean_disk.specs.Replay.{last_number}
use Rattle.lean_disk.specs.Memory.{View, IsDated, area_now, part_story, log_view, only}
use Rattle.lean_disk.specs.Inside.Grown.{Grew}
use Rattle.lean_disk.specs.Inside.Slots.{only_same, only_other, only_dated}
use Rattle.lean_disk.specs.declared.area_log.AreaLog.{AreaLog}
use Rattle.lean_disk.specs.declared.disk.Did.TheVariants as did
use Rattle.lean_disk.specs.declared.disk.Read.{Read}
use Rattle.lean_disk.proofs.DiskLemmas.{last_in_time}
use Rattle.lean_disk.proofs.TellingLemmas as telling

pub part_in_time : (log : AreaLog) (made notes : ℕ) → AllByRecursion (IsDated made 1 notes) log.calls.items → last_number log.calls.items ≤ made + 1
part_in_time log made notes dated = last_in_time log.calls.items made 1 notes (omega arith) dated

module _ (area : ℕ) (log log' : AreaLog) (made notes : ℕ) (dated : AllByRecursion (IsDated made 1 notes) log.calls.items)
    (does : Area → Area) (grew : Grew (made + 1) notes does (log_view log) (log_view log')) where
  abbrev before : ℕ → View
  before = only area (log_view log)

  abbrev after : ℕ → View
  after = only area (log_view log')

  here : Grew (made + 1) notes does (before area) (after area)
  here = subst (λ (v : View). Grew (made + 1) notes does v (after area)) (sym (only_same area (log_view log)))
      (subst (λ (v : View). Grew (made + 1) notes does (log_view log) v) (sym (only_same area (log_view log'))) grew)

  there : (b : ℕ) → (b ≡ area → ⊥) → after b ≡ before b
  there b other = only_other area b (log_view log') other ∙ sym (only_other area b (log_view log) other)

  all_dated : (b : ℕ) → AllByRecursion (IsDated made 1 notes) (before b).line
  all_dated = only_dated area (log_view log) made notes dated

  pub part_dated : AllByRecursion (IsDated made 1 notes) log'.calls.items
  part_dated = subst (λ (v : View). AllByRecursion (IsDated made 1 notes) v.line) (only_same area (log_view log')) (telling.grew_dated before after false 0 made notes made area all_dated refl does here there area)

  pub part_looked : (at : ℕ) (into bytes : List ℕ) (result : Read) → ((x : Area) → does x ≡ x) → Gave at (area_now (log_view log)).bytes into bytes result
      → Looked area at into bytes result (part_story area log made notes) (part_story area log' made notes)
  part_looked at into bytes result nothing gave = telling.story_looked before after false 0 made notes made area all_dated refl does here there at into bytes result nothing
      (subst (λ (v : View). Gave at (area_now v).bytes into bytes result) (sym (only_same area (log_view log))) gave)

  pub part_written : (at : ℕ) (bytes : List ℕ) → ((x : Area) → does x ≡ written at bytes x) → Wrote area at bytes did.Done (part_story area log made notes) (part_story area log' made notes)
  part_written at bytes is = telling.story_written before after false 0 made notes made area all_dated refl does here there at bytes is

  pub part_torn : (at : ℕ) (bytes : List ℕ) → ((x : Area) → does x ≡ torn at bytes x) → Wrote area at bytes did.Failed (part_story area log made notes) (part_story area log' made notes)
  part_torn at bytes is = telling.story_torn before after false 0 made notes made area all_dated refl does here there at bytes is

  pub part_synced : ((x : Area) → does x ≡ synced x) → Synced area did.Done (part_story area log made notes) (part_story area log' made notes)
  part_synced is = telling.story_synced before after false 0 made notes made area all_dated refl does here there is

  pub part_not_synced : ((x : Area) → does x ≡ x) → Synced area did.Failed (part_story area log made notes) (part_story area log' made notes)
  part_not_synced is = telling.story_not_synced before after false 0 made notes made area all_dated refl does here there is
