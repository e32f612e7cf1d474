-- Words of private functions: what is taken of two slots.
use Rattle.std.specs.Prelude.{◌≡◌, ℕ, Bool, true, false, ◌&&◌, ◌||◌, ltb, leb, ◌==◌, List, Option, Some, None, if◌then◌else◌}
use Rattle.page_model.specs.Page.{Page}
use Rattle.disk_image.specs.disk_slots.declared.master.Master.{Master}
use Rattle.disk_image.specs.Shown.{page_slot_in}
use Rattle.page_store.specs.declared.base.Base.{Base}
use Rattle.page_store.specs.declared.base.Seen.{Seen}
use Rattle.page_store.specs.declared.slot.Held.{Held}
use Rattle.page_store.specs.declared.slot.Held.TheVariants as held
use Rattle.page_store.specs.declared.slot.Seal.{Seal}
use Rattle.page_store.specs.declared.slot.Seal.TheVariants as seal

-- a page that the generation or an earlier one has saved
abbrev pub valid_page : ℕ → Option Page → Option Page
valid_page generation (Some p) = if leb p.generation generation then Some p else None
valid_page generation None = None

-- what slot i of page p holds, where it is valid for the master
abbrev pub valid_in : Master → (p i : ℕ) → List ℕ → Option Page
valid_in m p i area = valid_page m.generation (page_slot_in m.pages p i area)

-- the page that a slot holds, if it is valid
abbrev pub page_of : Held → Option Page
page_of (held.Page x) = Some x
page_of (held.NoPage s) = None

-- what its bytes are
abbrev pub seal_of : Held → Seal
seal_of (held.Page x) = seal.Valid
seal_of (held.NoPage s) = s

abbrev pub is_later : Seal → Bool
is_later seal.LaterGeneration = true
is_later _ = false

-- a later generation has saved it
abbrev pub is_ahead : Held → Bool
is_ahead (held.Page x) = false
is_ahead (held.NoPage s) = is_later s

-- by generation, then by number
abbrev pub is_older_page : Page → Page → Bool
is_older_page x y = ltb x.generation y.generation || ((x.generation == y.generation) && ltb x.gsn y.gsn)

-- the newer of two, with the number of its slot
abbrev pub newest : Option Page → Option Page → Option Base
newest None None = None
newest (Some x) None = Some (record { node = x; slot = 0 })
newest None (Some y) = Some (record { node = y; slot = 1 })
newest (Some x) (Some y) = if is_older_page x y then Some (record { node = y; slot = 1 }) else Some (record { node = x; slot = 0 })

abbrev pub IsNewest : Option Page → Option Page → Option Base → Type 0
IsNewest first second base = base ≡ newest first second

-- the base among what two slots hold
abbrev pub IsChosen : Held → Held → Option Seen → Type 0
IsChosen first second (Some seen) = (Some seen.base ≡ newest (page_of first) (page_of second)) × (seen.ahead ≡ is_ahead first || is_ahead second)
IsChosen first second None = None ≡ newest (page_of first) (page_of second)
