-- What each record asks of its pages.
use Rattle.std.specs.Prelude.{length, ◌≡◌, ◌<◌, ◌≤◌, ◌+◌, ℕ, true, false, [], ◌∷◌, Some, None}
use Rattle.page_model.specs.Pairs.{Pair, Has, find, onward, is_in}
use Rattle.page_model.specs.Nodes.{Format, Node}
use Rattle.page_model.specs.Tree.{Names, word_or}
use Rattle.page_model.specs.Records.{Kind, Record}
use Rattle.page_model.specs.Records.Kind.{Change, Put_back, Split, Lift, Join, Drop, Purge}

pub record FitsWrite (f : Format) (node : ℕ → Node) (r : Record) : Type 0 where
  pub page : r.left.page < f.pages
  pub live : (node r.left.page).live ≡ true
  pub leaf : (node r.left.page).level ≡ 0
  pub within : ((node r.left.page).low ≤ r.key) × (r.key < (node r.left.page).high)
  pub before : r.before ≡ word_or f.dead (find r.key (node r.left.page).pairs)
  pub after : r.after ≤ f.dead

pub record FitsChange (f : Format) (node : ℕ → Node) (r : Record) : Type 0 where
  pub write : FitsWrite f node r
  pub room : find r.key (node r.left.page).pairs ≡ None → length (node r.left.page).pairs < f.room

pub record FitsBack (f : Format) (node : ℕ → Node) (r : Record) : Type 0 where
  pub write : FitsWrite f node r
  pub entry : find r.key (node r.left.page).pairs ≡ None → ⊥

-- The parent names left; an inner left is split at a pair.
pub record FitsSplit (f : Format) (node : ℕ → Node) (r : Record) : Type 0 where
  pub right : r.right.page < f.pages
  pub parent : r.parent.page < f.pages
  pub empty : (node r.right.page).live ≡ false
  pub names : Names (node r.parent.page) (record { child = r.left.page; low = (node r.left.page).low; high = r.high })
  pub level : r.level ≡ (node r.left.page).level
  pub inside : ((node r.left.page).low < r.sep) × (r.sep < r.high)
  pub pair : 0 < (node r.left.page).level → (x : Pair) × Has x (node r.left.page).pairs × (x.key ≡ r.sep)
  pub pairs : r.pairs ≡ onward r.sep (node r.left.page).pairs
  pub room : length (node r.parent.page).pairs < f.room

pub record FitsLift (f : Format) (node : ℕ → Node) (r : Record) : Type 0 where
  pub right : r.right.page < f.pages
  pub empty : (node r.right.page).live ≡ false
  pub level : r.level ≡ (node 0).level
  pub low : (node 0).level < f.levels
  pub high : r.high ≡ (node 0).high
  pub pairs : r.pairs ≡ (node 0).pairs

-- The parent names both, side by side.
pub record FitsJoin (f : Format) (node : ℕ → Node) (r : Record) : Type 0 where
  pub parent : r.parent.page < f.pages
  pub left_named : Names (node r.parent.page) (record { child = r.left.page; low = (node r.left.page).low; high = r.sep })
  pub right_named : Names (node r.parent.page) (record { child = r.right.page; low = r.sep; high = r.high })
  pub pairs : r.pairs ≡ (node r.right.page).pairs
  pub room : length (node r.left.page).pairs + length (node r.right.page).pairs ≤ f.room

pub record FitsDrop (f : Format) (node : ℕ → Node) (r : Record) : Type 0 where
  pub inner : 0 < (node 0).level
  pub one : (k : ℕ) × ((node 0).pairs ≡ record { key = k; word = r.right.page } ∷ [])
  pub level : r.level ≡ (node r.right.page).level
  pub pairs : r.pairs ≡ (node r.right.page).pairs

pub record FitsPurge (f : Format) (node : ℕ → Node) (r : Record) : Type 0 where
  pub page : r.left.page < f.pages
  pub live : (node r.left.page).live ≡ true
  pub leaf : (node r.left.page).level ≡ 0
  pub dead : (k : ℕ) → is_in k r.keys ≡ true → find k (node r.left.page).pairs ≡ Some f.dead

abbrev pub FitsAs : Format → Kind → (ℕ → Node) → Record → Type 0
FitsAs f Change node r = FitsChange f node r
FitsAs f Put_back node r = FitsBack f node r
FitsAs f Split node r = FitsSplit f node r
FitsAs f Lift node r = FitsLift f node r
FitsAs f Join node r = FitsJoin f node r
FitsAs f Drop node r = FitsDrop f node r
FitsAs f Purge node r = FitsPurge f node r

abbrev pub Fits : Format → (ℕ → Node) → Record → Type 0
Fits f node r = FitsAs f r.kind node r
