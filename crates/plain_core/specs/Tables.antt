-- The function for which a table stands.
use Rattle.std.specs.Prelude.{ℕ, ◌==◌, List, [], ◌∷◌, if◌then◌else◌}
use Rattle.plain_core.specs.declared.table.Table.{Table}
use Rattle.plain_core.specs.declared.table.Placed.{Placed}

-- the value that was set last at i, or the default
abbrev pub found : {T : Type 0} → List (Placed T) → T → ℕ → T
found [] d i = d
found (x ∷ xs) d i = if i == x.place then x.value else found xs d i

-- the value at i
abbrev pub at : {T : Type 0} → Table T → ℕ → T
at t i = found t.changes.items t.default i
