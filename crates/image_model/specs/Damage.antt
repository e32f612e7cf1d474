-- The first rule that an image breaks.
use Rattle.std.specs.Prelude.{if◌then◌else◌, ℕ, zero, suc, Bool, ◌||◌, not, ltb, List, [], ◌∷◌, Option, Some, None}
use Rattle.map_model.specs.Lists.{all}
use Rattle.page_model.specs.Check.{first_bad, first_break}
use Rattle.image_model.specs.Entries.{Entry}
use Rattle.image_model.specs.Redo.{redo, passes}
use Rattle.image_model.specs.Undo.{nodes_of}
use Rattle.image_model.specs.Images.{Image, has_base, bases, sorted, redone, lost, has_entry}

-- What breaks a rule: a page without a base; a record that is not above those before it in its log; one that names a page
-- that there is not, or counts and can't be done; a page that breaks the tree; a record whose key can't be put back.
pub data Damage : Type 0 where
  No_base : (page : ℕ) → Damage
  Unordered : (log number : ℕ) → Damage
  Undoable : (log number : ℕ) → Damage
  Broken : (page : ℕ) → Damage
  No_entry : (log number : ℕ) → Damage

abbrev pub page_damage : (ℕ → Damage) → Option ℕ → Option Damage
page_damage kind (Some p) = Some (kind p)
page_damage kind None = None

abbrev pub or_first : Option Damage → Option Damage → Option Damage
or_first (Some d) other = Some d
or_first None other = other

-- of the records that do not pass, the first in time, where the list has the newest first
abbrev pub first_failing : (Entry → List Entry → Bool) → (ℕ → ℕ → Damage) → List Entry → Option Damage
first_failing passes kind [] = None
first_failing passes kind (r ∷ z) = or_first (first_failing passes kind z) (if passes r z then None else Some (kind r.log r.number))

-- the logs in turn
abbrev pub first_in_logs : (ℕ → Option Damage) → ℕ → Option Damage
first_in_logs damage zero = None
first_in_logs damage (suc n) = or_first (first_in_logs damage n) (damage (suc n))

-- the first in the list that can't be put back
abbrev pub first_without : Image → List Entry → Option Damage
first_without i [] = None
first_without i (r ∷ z) = or_first (if not (lost i r) || has_entry i r.key then None else Some (Damage.No_entry r.log r.number)) (first_without i z)

-- The first rule that is broken: bases by page; the logs in turn; records by (number, log); the tree by page; and put-backs
-- in falling order.
abbrev pub damage : Image → Option Damage
damage i =
    or_first (page_damage Damage.No_base (first_bad i.format.pages (λ p. has_base (i.base p))))
    (or_first (first_in_logs (λ w. first_failing (λ r z. all (λ x. ltb x.number r.number) z) Damage.Unordered (i.log w)) i.logs)
    (or_first (first_failing (λ r z. passes i.format (redo (bases i) z).page r) Damage.Undoable (sorted i))
    (or_first (page_damage Damage.Broken (first_break i.format (nodes_of (redone i))))
    (first_without i (sorted i)))))
