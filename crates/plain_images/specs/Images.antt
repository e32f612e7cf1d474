-- What the program's images, and what redo leaves, stand for.
use Rattle.std.specs.Prelude.{ℕ, zero, suc, Bool, false, ◌&&◌, ◌==◌, List, [], ◌∷◌, length, map, Option, Some, None, slice_get, if◌then◌else◌}
use Rattle.page_model.specs.Records.{Ref}
use Rattle.image_model.specs.Entries.{Entry, written}
use Rattle.image_model.specs.Entries as entries
use Rattle.image_model.specs.Redo as redo
use Rattle.image_model.specs.Images as images
use Rattle.plain_images.specs.Pages.{format_of}
use Rattle.plain_images.specs.declared.records.Page.{Page}
use Rattle.plain_images.specs.declared.records.Log.{Log}
use Rattle.plain_images.specs.declared.records.Image.{Image}
use Rattle.plain_images.specs.declared.redone.Placed.{Placed}
use Rattle.plain_images.specs.declared.redone.Mark.{Mark}
use Rattle.plain_images.specs.declared.redone.Redone.{Redone}
use Rattle.plain_images.specs.Records.{page_of, entries_of}

abbrev pub log_or : Option Log → List Entry
log_or (Some log) = entries_of log.records.items
log_or None = []

-- the logs 1 to their number
abbrev pub log_of : List Log → ℕ → List Entry
log_of logs zero = []
log_of logs (suc w) = log_or (slice_get logs w)

abbrev pub base_or : Option (Option Page) → Option entries.Contents
base_or (Some (Some v)) = Some (page_of v)
base_or (Some None) = None
base_or None = None

abbrev pub base_of : List (Option Page) → ℕ → Option entries.Contents
base_of bases p = base_or (slice_get bases p)

abbrev pub bases_of : List (Option Page) → ℕ → entries.Contents
bases_of bases p = images.page_or (base_of bases p)

abbrev pub image_of : Image → images.Image
image_of i = record { format = format_of (length i.bases.items); logs = length i.logs.items; floor = i.floor; log = log_of i.logs.items; base = base_of i.bases.items }

-- ## What redo leaves

-- a page as a record left it
pub record Placing : Type 0 where
  pub page : ℕ
  pub made : entries.Contents

abbrev pub placing_of : Placed → Placing
placing_of x = record { page = x.page; made = page_of x.made }

abbrev pub placings_of : List Placed → List Placing
placings_of xs = map placing_of xs

-- the pages with those that were placed, the newest first
abbrev pub with_placed : List Placing → (ℕ → entries.Contents) → ℕ → entries.Contents
with_placed [] page p = page p
with_placed (x ∷ xs) page p = if x.page == p then x.made else with_placed xs page p

-- what a record places: its pages that stand at their prev
abbrev pub placed_by : (ℕ → entries.Contents) → Entry → List Ref → List Placing
placed_by page r [] = []
placed_by page r (f ∷ fs) = if (page f.page).gsn == f.prev then record { page = f.page; made = written r f.page (page f.page) } ∷ placed_by page r fs else placed_by page r fs

-- whether a record counted, where the newest mark of it stands first
abbrev pub counted : List Mark → ℕ → ℕ → Bool
counted [] log number = false
counted (m ∷ ms) log number = if (log == m.log) && (number == m.number) then m.counts else counted ms log number

abbrev pub pages_of : List (Option Page) → List Placed → ℕ → entries.Contents
pages_of bases placed = with_placed (placings_of placed) (bases_of bases)

abbrev pub redone_of : List (Option Page) → Redone → redo.Redone
redone_of bases d = record { page = pages_of bases d.placed.items; counts = counted d.marks.items }
