-- The events of the steps of a look, by the number that was loaded.
use Rattle.std.specs.Prelude.{ℕ, ◌%◌, ◌==◌, List, [], ◌∷◌, if◌then◌else◌}
use Rattle.rows_trait.specs.row_words.declared.event.Event.{Event}
use Rattle.rows_trait.specs.row_words.declared.event.Event.TheVariants.{Miss}

-- a miss where the latch is odd
abbrev pub missed : ℕ → ℕ → List Event
missed worker n = if n % 2 == 0 then [] else Miss worker ∷ []

-- a miss where the version is another
abbrev pub checked : ℕ → ℕ → ℕ → List Event
checked worker version n = if n == version then [] else Miss worker ∷ []
