-- What a call has appended that was refused.
use Rattle.std.specs.Prelude.{◌≤◌, ℕ, Bool, List, [], ◌∷◌, length}
use Rattle.row_words.specs.declared.event.Event.{Event}
use Rattle.row_words.specs.declared.event.Event.TheVariants.{Miss}
use Rattle.rows_trait.specs.declared.view.View.{View}
use Rattle.rows_trait.specs.Turns.{Ran}

-- each of the events is a miss
abbrev pub AreMisses : List Event → Type 0
AreMisses [] = Unit {0}
AreMisses (Miss w ∷ es) = AreMisses es
AreMisses (_ ∷ es) = ⊥

-- nothing was appended but misses, and at most so many
pub record MissedUpTo (most : ℕ) (alone : Bool) (v w : View) : Type 0 where
  pub events : List Event
  pub ran : Ran alone v events w
  pub misses : AreMisses events
  pub few : length events ≤ most
