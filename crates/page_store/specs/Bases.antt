-- The base of a page, as it is fetched.
use Rattle.std.specs.Prelude.{◌≡◌, ◌⊎◌, ◌<◌, ◌≤◌, ◌-◌, ℕ, Bool, true, false, Some}
use Rattle.page_model.specs.Page as memory
use Rattle.disk_image.specs.image_model.Entries.{Contents}
use Rattle.disk_image.specs.image_model.Slots.{base_of}
use Rattle.disk_image.specs.disk_slots.declared.master.Master.{Master}
use Rattle.disk_image.specs.Shown.{Areas, page_slot_in, shown_by}
use Rattle.page_store.specs.declared.base.Base.{Base}

-- the page with the number and the log of its last record
abbrev pub image_page : memory.Page → Contents
image_page p = record { gsn = p.gsn; last = p.last_log; node = p.node }

-- It is a slot of the page that a generation up to the master's has saved.
pub record IsOwn (m : Master) (page : ℕ) (base : Base) : Type 0 where
  pub within : base.slot < 2
  pub number : base.node.number ≡ page
  pub generation : base.node.generation ≤ m.generation

-- by generation, then by number
abbrev pub IsOlder : (y x : memory.Page) → Type 0
IsOlder y x = (y.generation < x.generation) ⊎ ((y.generation ≡ x.generation) × (y.gsn < x.gsn))

-- beside the page of the base, y of its other slot does not count: it is older, or as old and in the slot that is looked at last
abbrev pub YieldsTo : Base → memory.Page → Type 0
YieldsTo base y = IsOlder y base.node ⊎ ((base.slot ≡ 0) × (y.generation ≡ base.node.generation) × (y.gsn ≡ base.node.gsn))

-- It is the page's base, and stands in this slot; no slot of the page is of a later generation up to the master's.
pub record IsBase (m : Master) (page : ℕ) (area : Areas) (base : Base) : Type 0 where
  pub own : IsOwn m page base
  pub is : base_of (shown_by m area) page ≡ Some (image_page base.node)
  pub there : page_slot_in m.pages page base.slot (area 1) ≡ Some base.node
  pub newest : (i : ℕ) (x : memory.Page) → i < 2 → page_slot_in m.pages page i (area 1) ≡ Some x → x.generation ≤ m.generation → x.generation ≤ base.node.generation
  -- and the other slot, if it is valid, does not count beside it
  pub yields : (y : memory.Page) → page_slot_in m.pages page (1 - base.slot) (area 1) ≡ Some y → y.generation ≤ m.generation → YieldsTo base y

-- whether the slot that is not the base's holds the page as a later generation has saved it
abbrev pub IsAhead : (m : Master) (page : ℕ) (area : Areas) (slot : ℕ) → Bool → Type 0
IsAhead m page area slot true = (y : memory.Page) × (page_slot_in m.pages page (1 - slot) (area 1) ≡ Some y) × (m.generation < y.generation)
IsAhead m page area slot false = (y : memory.Page) → page_slot_in m.pages page (1 - slot) (area 1) ≡ Some y → y.generation ≤ m.generation
