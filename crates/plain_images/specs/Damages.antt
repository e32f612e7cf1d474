-- What the program's damages stand for.
use Rattle.std.specs.Prelude.{ℕ, zero, suc, Bool, ◌||◌, not, ltb, List, [], ◌∷◌, ◌++◌, Option, Some, None, if◌then◌else◌}
use Rattle.map_model.specs.Lists.{all}
use Rattle.page_model.specs.Nodes.{Format, Node}
use Rattle.page_model.specs.Check.{first_bad, first_break}
use Rattle.image_model.specs.Entries.{Entry, Contents}
use Rattle.image_model.specs.Redo.{redo, passes}
use Rattle.image_model.specs.Images as images
use Rattle.image_model.specs.Damage as rules
use Rattle.plain_images.specs.declared.damages.Damage.{Damage}
use Rattle.plain_images.specs.declared.damages.Damage.TheVariants as damage

abbrev pub damage_of : Damage → rules.Damage
damage_of (damage.NoBase page) = rules.Damage.No_base page
damage_of (damage.Unordered log number) = rules.Damage.Unordered log number
damage_of (damage.Undoable log number) = rules.Damage.Undoable log number
damage_of (damage.Broken page) = rules.Damage.Broken page
damage_of (damage.NoEntry log number) = rules.Damage.No_entry log number

abbrev pub told : Option Damage → Option rules.Damage
told (Some d) = Some (damage_of d)
told None = None

-- ## The rules one by one

abbrev pub missing_base : ℕ → (ℕ → Option Contents) → Option rules.Damage
missing_base n base = rules.page_damage rules.Damage.No_base (first_bad n (λ p. images.has_base (base p)))

abbrev pub is_above : Entry → List Entry → Bool
is_above r z = all (λ x. ltb x.number r.number) z

abbrev pub unordered : Entry → List Entry → Option rules.Damage
unordered r z = if is_above r z then None else Some (rules.Damage.Unordered r.log r.number)

abbrev pub unordered_in : List Entry → Option rules.Damage
unordered_in z = rules.first_failing is_above rules.Damage.Unordered z

abbrev pub undoable : Format → (ℕ → Contents) → Entry → List Entry → Option rules.Damage
undoable f page r z = if passes f (redo page z).page r then None else Some (rules.Damage.Undoable r.log r.number)

abbrev pub undoable_in : Format → (ℕ → Contents) → List Entry → Option rules.Damage
undoable_in f page z = rules.first_failing (λ r z. passes f (redo page z).page r) rules.Damage.Undoable z

abbrev pub broken : Format → (ℕ → Node) → Option rules.Damage
broken f node = rules.page_damage rules.Damage.Broken (first_break f node)

abbrev pub without : (Entry → Bool) → (ℕ → Bool) → Entry → Option rules.Damage
without lost has r = if not (lost r) || has r.key then None else Some (rules.Damage.No_entry r.log r.number)

abbrev pub without_in : (Entry → Bool) → (ℕ → Bool) → List Entry → Option rules.Damage
without_in lost has [] = None
without_in lost has (r ∷ z) = rules.or_first (without lost has r) (without_in lost has z)

-- the first n of the nodes
abbrev pub taken : ℕ → (ℕ → Node) → List Node
taken zero node = []
taken (suc p) node = taken p node ++ node p ∷ []
