-- Why a row was not latched.
use Rattle.std.specs.Prelude.{◌≡◌, ◌≤◌, ℕ, List}
use Rattle.rows_trait.specs.row_words.declared.event.Event.{Event}
use Rattle.rows_trait.specs.declared.view.View.{View}
use Rattle.rows_trait.specs.Views.{Shape}
use Rattle.rows_trait.specs.Causes.{HasFound, HasMoved}
use Rattle.rows_trait.specs.Turns.{Refused}
use Rattle.version_latch.specs.declared.glimpse.Unheld.{Unheld}
use Rattle.version_latch.specs.declared.glimpse.Unheld.TheVariants.{Moved, RowSpent}
use Rattle.version_latch.specs.declared.glimpse.TheConstants.{LAST}

-- the row is not held: its latch was another number, or its version has come to the last one, and then nothing was done
abbrev pub NotHeld : Shape → ℕ → ℕ → (ℕ → List Event) → View → Unheld → View → Type 0
NotHeld z row version names v (Moved m) w = (m.row ≡ row) × (m.seen ≡ version) × Refused z row version names v m.found w × ((u : View) → HasFound row version u v → HasMoved m.row m.seen m.found u w)
NotHeld z row version names v RowSpent w = (LAST ≤ version) × (w ≡ v)
