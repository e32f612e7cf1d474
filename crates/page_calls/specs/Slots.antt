-- What is known of the slots of all pages.
use Rattle.std.specs.Prelude.{◌≡◌, ◌==◌, ℕ, zero, suc, Bool, true, false, not, cond, List, [], ◌∷◌, length, Option, Some, None, slice_get}
use Rattle.page_calls.specs.declared.slots.Slot.{Slot}
use Rattle.disk_runs.specs.Stands.{Known}

-- the slot's number
abbrev pub number_of : Bool → ℕ
number_of false = 0
number_of true = 1

-- behind an opening this slot is firm
abbrev pub opened_slot : ℕ → Slot
opened_slot n = record { second = n == 1; late = false }

-- the slot that was written last
abbrev pub last_slot : Slot → ℕ
last_slot s = number_of (cond s.late (not s.second) s.second)

-- after a sync the one that was saved last is firm
abbrev pub settled_slot : Slot → Slot
settled_slot s = cond s.late (record { second = not s.second; late = false }) s

-- after a save of page p the other one is late
abbrev pub saved_slot : ℕ → List Slot → List Slot
saved_slot p [] = []
saved_slot zero (s ∷ ss) = record { second = s.second; late = true } ∷ ss
saved_slot (suc p) (s ∷ ss) = s ∷ saved_slot p ss

-- it holds something
abbrev pub is_some : {A : Type 0} → Option A → Bool
is_some None = false
is_some (Some a) = true

-- The firm slot of each page is that one, and a page is late where it was saved since the last sync.
pub record Knows (slots : List Slot) (x : Known) : Type 0 where
  pub count : length slots ≡ x.master.pages
  pub each : (p : ℕ) (s : Slot) → slice_get slots p ≡ Some s → ((x.firm p).slot ≡ number_of s.second) × (is_some (x.late p) ≡ s.late)
