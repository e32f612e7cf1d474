-- Why a call of the pager refused.
use Rattle.std.specs.Prelude.{◌≡◌, ◌≢◌, ◌≤◌, ◌<◌, ◌^◌, ◌%◌, ◌⊎◌, ℕ, Bool, true, false, List, [], ◌∷◌, ◌++◌}
use Rattle.btree_descent.specs.row_words.Openings.{opening}
use Rattle.btree_descent.specs.rows_trait.declared.view.View.{View}
use Rattle.btree_descent.specs.rows_trait.Views.{state}
use Rattle.btree_descent.specs.rows_trait.Causes.{Finds}
use Rattle.btree_descent.specs.rows_trait.declared.view.Act.{Act}
use Rattle.btree_descent.specs.rows_trait.declared.view.Act.TheVariants.{Look, Load, Store, Set, Hear, Turn}
use Rattle.page_provider.specs.declared.refusal.Refusal.{Refusal}
use Rattle.page_provider.specs.declared.refusal.Refusal.TheVariants as refusal

-- ## What the call has loaded

-- no number was stored to the row's latch
abbrev pub NoSet : ℕ → List Act → Type 0
NoSet row [] = Unit {0}
NoSet row (Look q n at ∷ ss) = NoSet row ss
NoSet row (Load q i n ∷ ss) = NoSet row ss
NoSet row (Store q i n ∷ ss) = NoSet row ss
NoSet row (Set q n ∷ ss) = (q ≢ row) × NoSet row ss
NoSet row (Hear c j n ∷ ss) = NoSet row ss
NoSet row (Turn c j n ∷ ss) = NoSet row ss

-- the row's latch was loaded as this number
pub record HasLoaded (row n : ℕ) (v u : View) : Type 0 where
  pub acts : List Act
  pub steps : u.steps ≡ acts ++ v.steps
  pub finds : Finds row n acts

-- At some time since the view it was loaded as two unequal numbers, and none was stored there meanwhile.
pub record HasLoadedTwo (row seen found : ℕ) (v u : View) : Type 0 where
  pub unequal : found ≢ seen
  pub early : List Act
  pub acts : List Act
  pub steps : u.steps ≡ acts ++ (early ++ v.steps)
  pub first : Finds row seen acts
  pub last : Finds row found acts
  pub unset : NoSet row acts

-- the row is a frame, and its latch was loaded as a version that is the last one, or behind it
abbrev pub HasSpent : View → (row : ℕ) → View → Type 0
HasSpent v row u = (row < (opening u.given).frames) × ((version : ℕ) × (2 ^ 62 ≤ version) × HasLoaded row version v u)

-- What was loaded since a view, by the time of the refusal. Of RowSpent: of a frame the last version was, or the global
-- epoch has come to its end, and a page was to cool.
abbrev pub Caused : View → Refusal → View → Type 0
Caused v (refusal.Moved m) u = HasLoadedTwo m.row m.seen m.found v u
Caused v (refusal.Latched l) u = (l.word % 2 ≡ 1) × HasLoaded l.row l.word v u
Caused v (refusal.RowSpent row) u = HasSpent v row u ⊎ ((row < (opening u.given).frames) × (2 ^ 62 ≤ (state u).core.epoch))
Caused v _ u = Unit {0}

-- if a row has come to its last version, it is this one, and that version was loaded since the view
abbrev pub SpentAt : (row : ℕ) → View → Refusal → View → Type 0
SpentAt row v (refusal.RowSpent q) u = (q ≡ row) × HasSpent v q u
SpentAt row v _ u = Unit {0}

-- never where nobody else steps
abbrev pub IsOthers : Refusal → Type 0
IsOthers (refusal.Moved m) = Unit {0}
IsOthers (refusal.Latched l) = Unit {0}
IsOthers _ = ⊥

-- the device failed, or a page that is needed is damaged, or altered
abbrev pub breaks : Refusal → Bool
breaks (refusal.DiskFault) = true
breaks (refusal.Damaged page counts other) = true
breaks (refusal.Altered page) = true
breaks _ = false

-- the row of a frame was another seat's, or its version has come to the last one
abbrev pub IsOfRow : Refusal → Type 0
IsOfRow (refusal.Moved m) = Unit {0}
IsOfRow (refusal.Latched l) = Unit {0}
IsOfRow (refusal.RowSpent row) = Unit {0}
IsOfRow _ = ⊥

-- an eviction refuses for these alone
abbrev pub IsOfEvict : Refusal → Type 0
IsOfEvict (refusal.Moved m) = Unit {0}
IsOfEvict (refusal.Latched l) = Unit {0}
IsOfEvict (refusal.RowSpent row) = Unit {0}
IsOfEvict (refusal.DiskFault) = Unit {0}
IsOfEvict (refusal.Broken) = Unit {0}
IsOfEvict _ = ⊥
