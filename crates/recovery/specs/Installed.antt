-- Which writes an opening made.
use Rattle.std.specs.Prelude.{◌≡◌, ◌⊎◌, ◌<◌, ◌*◌, ◌%◌, ◌++◌, ◌||◌, ℕ, suc, true, List, ◌∷◌, map, Some}
use Rattle.map_model.specs.Lists.{Has, any}
use Rattle.page_model.specs.Nodes.{holds}
use Rattle.page_model.specs.Page.{Page}
use Rattle.core_state.specs.image_model.Entries.{touches}
use Rattle.core_state.specs.image_model.Images.{Image, recovered_page, sorted}
use Rattle.lean_disk.specs.Story.{Story, areas_of}
use Rattle.master_store.specs.disk_slots.Masters.{master_slot}
use Rattle.master_store.specs.disk_slots.declared.master.Master.{Master}
use Rattle.master_store.specs.disk_image.Shown.{Areas, image_by, page_slot_in, IsCleanDisk}
use Rattle.master_store.specs.page_store.Bases.{image_page}
use Rattle.master_store.specs.page_store.Saved.{Save, AreApart, AreSaves, HoldsSaves, write_of}
use Rattle.recovery.specs.declared.opening.Recovered.{Recovered}

-- a record names the page, or its key is one that the recovered page, a leaf, may hold
abbrev pub IsMeant : Image → (p : ℕ) → Type 0
IsMeant i p = any (λ r. touches p r || holds (recovered_page i p).node r.key) (sorted i) ≡ true

-- A version of page p of a later generation than the master's stands in slot i, and is not the recovered page of the next one.
pub record HasStray (m : Master) (area : Areas) (p i : ℕ) : Type 0 where
  pub version : Page
  pub there : page_slot_in m.pages p i (area 1) ≡ Some version
  pub later : m.generation < version.generation
  pub other : version.generation ≡ suc m.generation → image_page version ≡ recovered_page (image_by m area) p → ⊥

-- why page p is saved to slot i: a record is about it, or a stray version is written over
abbrev pub SavesFor : (m : Master) (area : Areas) (p i : ℕ) → Type 0
SavesFor m area p i = IsMeant (image_by m area) p ⊎ HasStray m area p i

-- a clean disk has no stray version
abbrev pub EveryClean : Type 0
EveryClean = (m : Master) (area : Areas) (p i : ℕ) → IsCleanDisk m area → p < m.pages → i < 2 → HasStray m area p i → ⊥

-- the recovered page of its number is saved, under the generation that follows the master's, for a reason
pub record IsOwnSave (m : Master) (area : Areas) (x : Save) : Type 0 where
  pub generation : x.node.generation ≡ suc m.generation
  pub page_is : image_page x.node ≡ recovered_page (image_by m area) x.page
  pub cause : SavesFor m area x.page x.slot

-- Since s0 the next master alone was written to area 0; to area 1 recovered pages alone, under the next generation, each to a slot of its
-- own, and its bytes are what these saves make of those that it had.
pub record HasInstalled (m : Master) (r : Recovered) (s0 s : Story) : Type 0 where
  pub master : (s.area 0).writes ≡ (1024 * (r.master.sequence % 2), master_slot r.master) ∷ (s0.area 0).writes
  pub saves : List Save
  pub are : AreSaves m.pages saves
  pub apart : AreApart saves
  pub own : (x : Save) → Has x saves → IsOwnSave m (areas_of s0) x
  pub pages : (s.area 1).writes ≡ map write_of saves ++ (s0.area 1).writes
  pub holds : HoldsSaves m.pages (s0.area 1).bytes saves (s.area 1).bytes
