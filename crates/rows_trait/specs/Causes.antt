-- Why a call refused: what it has loaded since it began.
use Rattle.std.specs.Prelude.{◌≡◌, ◌≢◌, ℕ, ◌+◌, ◌*◌, ◌%◌, ◌≤◌, ◌⊎◌, List, [], ◌∷◌, ◌++◌}
use Rattle.rows_trait.specs.declared.view.Act.{Act}
use Rattle.rows_trait.specs.declared.view.Act.TheVariants.{Look, Load, Store, Set, Hear, Turn}
use Rattle.rows_trait.specs.declared.view.View.{View}
use Rattle.rows_trait.specs.Views.{AreLow}

-- each step loaded a latch, a word or a control word
abbrev pub AreLoads : List Act → Type 0
AreLoads [] = Unit {0}
AreLoads (Look q n at ∷ ss) = AreLoads ss
AreLoads (Load q i n ∷ ss) = AreLoads ss
AreLoads (Store q i n ∷ ss) = ⊥
AreLoads (Set q n ∷ ss) = ⊥
AreLoads (Hear c j n ∷ ss) = AreLoads ss
AreLoads (Turn c j n ∷ ss) = ⊥

-- the latch of the row was loaded as n
abbrev pub Finds : ℕ → ℕ → List Act → Type 0
Finds row n [] = ⊥
Finds row n (Look q m at ∷ ss) = ((q ≡ row) × (m ≡ n)) ⊎ Finds row n ss
Finds row n (Load q i m ∷ ss) = Finds row n ss
Finds row n (Store q i m ∷ ss) = Finds row n ss
Finds row n (Set q m ∷ ss) = Finds row n ss
Finds row n (Hear c j m ∷ ss) = Finds row n ss
Finds row n (Turn c j m ∷ ss) = Finds row n ss

-- since the view v the seat has only loaded
pub record OnlyLoads (v w : View) : Type 0 where
  pub acts : List Act
  pub steps : w.steps ≡ acts ++ v.steps
  pub loads : AreLoads acts

-- and in that found the latch of the row to be n
pub record HasFound (row n : ℕ) (v w : View) : Type 0 where
  pub loads : OnlyLoads v w
  pub finds : Finds row n loads.acts

-- An odd latch was loaded.
pub record IsLatched (row word : ℕ) (v w : View) : Type 0 where
  pub odd : word % 2 ≡ 1
  pub found : HasFound row word v w

-- Two unequal versions of a row were loaded, and nothing was stored.
pub record HasMoved (row seen found : ℕ) (v w : View) : Type 0 where
  pub unequal : found ≢ seen
  pub loads : OnlyLoads v w
  pub first : Finds row seen loads.acts
  pub last : Finds row found loads.acts

-- The number that a call found in a latch is low where all that were loaded are.
abbrev pub EveryLow : Type 0
EveryLow = (n : ℕ) (acts more : List Act) (row m : ℕ) → AreLow n (acts ++ more) → Finds row m acts → m ≤ 2 * n + 1
