-- What a slot of a page holds.
use Rattle.std.specs.Prelude.{◌≡◌, ◌<◌, ◌≤◌, ◌+◌, ◌*◌, ℕ, List, Some, None, codes}
use Rattle.page_model.specs.Page.{Page}
use Rattle.disk_image.specs.image_model.Fair.{piece}
use Rattle.disk_image.specs.disk_slots.Pages.{IsPage}
use Rattle.disk_image.specs.disk_slots.Slots.{IsSealed}
use Rattle.disk_image.specs.PageSlots.{page_in}
use Rattle.page_store.specs.declared.slot.Bounds.{Bounds}
use Rattle.page_store.specs.declared.slot.Seal.{Seal}
use Rattle.page_store.specs.declared.slot.Seal.TheVariants as seal
use Rattle.page_store.specs.declared.slot.Held.{Held}
use Rattle.page_store.specs.declared.slot.Held.TheVariants as held

-- the bytes of slot i of page p
abbrev pub slot_bytes : (p i : ℕ) → List ℕ → List ℕ
slot_bytes p i area = piece 1024 (2 * p + i) area

-- The bytes of a slot of page p are so. No two of these are met by the same bytes.
abbrev pub HasSeal : Bounds → ℕ → List ℕ → Seal → Type 0
HasSeal b p bytes seal.NoSeal = IsSealed (codes "LEANPAGE") bytes → ⊥
HasSeal b p bytes seal.Malformed = IsSealed (codes "LEANPAGE") bytes × (page_in p b.pages bytes ≡ None)
HasSeal b p bytes seal.LaterGeneration = (x : Page) × (page_in p b.pages bytes ≡ Some x) × (b.generation < x.generation)
HasSeal b p bytes seal.Valid = (x : Page) × (page_in p b.pages bytes ≡ Some x) × (x.generation ≤ b.generation)

-- it holds this page, or bytes that are none
abbrev pub HoldsIn : Bounds → ℕ → List ℕ → Held → Type 0
HoldsIn b p bytes (held.Page x) = (page_in p b.pages bytes ≡ Some x) × (x.generation ≤ b.generation)
HoldsIn b p bytes (held.NoPage s) = HasSeal b p bytes s

-- Whatever the disk told: the page is the one that was asked for, of no later generation, and its contents are well formed by themselves.
pub record IsOf (b : Bounds) (page : ℕ) (x : Page) : Type 0 where
  pub number : x.number ≡ page
  pub generation : x.generation ≤ b.generation
  pub stored : IsPage page b.pages x

abbrev pub IsHeldOf : Bounds → ℕ → Held → Type 0
IsHeldOf b page (held.Page x) = IsOf b page x
IsHeldOf b page (held.NoPage s) = s ≡ seal.Valid → ⊥

-- the bytes of a slot are one thing
abbrev pub EverySeal : Type 0
EverySeal = (b : Bounds) (p : ℕ) (bytes : List ℕ) (s t : Seal) → HasSeal b p bytes s → HasSeal b p bytes t → s ≡ t
