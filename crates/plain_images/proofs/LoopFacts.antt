-- What the loops keep.
use Rattle.std.proofs.Common.{◌≡◌, ◌≤◌, ℕ, Bool, true, false, not, List, ◌++◌, length, drop, Option}
use Rattle.map_model.specs.Lists.{keep}
use Rattle.map_model.specs.Journals as journals
use Rattle.page_model.specs.Pairs as pairs
use Rattle.page_model.specs.Nodes.{Node}
use Rattle.image_model.specs.Entries.{Entry}
use Rattle.image_model.specs.Ends as ends
use Rattle.image_model.specs.Redo as redoing
use Rattle.plain_images.specs.declared.pages.Pair.{Pair}
use Rattle.plain_images.specs.Pages.{pairs_of}
use Rattle.plain_images.specs.declared.ends.Name.{Name}
use Rattle.plain_images.specs.declared.records.Record.{Record}
use Rattle.plain_images.specs.declared.records.Page.{Page}
use Rattle.plain_images.specs.declared.redone.Placed.{Placed}
use Rattle.plain_images.specs.Names.{names_of}
use Rattle.plain_images.specs.Records.{entries_of}
use Rattle.plain_images.specs.Images.{Placing, placings_of, bases_of}
use Rattle.plain_images.specs.Places.{sorted_into}
use Rattle.image_model.specs.Damage as rules
use Rattle.plain_images.specs.Words.{leaf_onto}

-- the pairs so far, with those of the rest, are all
abbrev pub HasMade : List Pair → List pairs.Pair → List pairs.Pair → Type 0
HasMade so_far rest whole = pairs_of so_far ++ rest ≡ whole

-- the rest, with the pair put in where that is not done
abbrev pub put_in : Bool → ℕ → ℕ → List pairs.Pair → List pairs.Pair
put_in true k w xs = xs
put_in false k w xs = pairs.put k w xs

-- the placings so far, with those of the rest, are all
abbrev pub HasPlaced : List Placed → List Placing → List Placing → Type 0
HasPlaced so_far rest whole = placings_of so_far ++ rest ≡ whole

-- the log from a place on is sorted into the others
pub record IsSortedInto (log : List Record) (others : List Entry) (left : ℕ) (so_far : List Entry) : Type 0 where
  pub within : left ≤ length log
  pub is : so_far ≡ sorted_into (entries_of (drop left log)) others

-- the records from a place on are redone
pub record IsRedone (bases : List (Option Page)) (records : List Record) (left : ℕ) (so_far : redoing.Redone) : Type 0 where
  pub within : left ≤ length records
  pub is : so_far ≡ redoing.redo (bases_of bases) (entries_of (drop left records))

-- the greatest number of the log from a place on
pub record IsGreatest (log : ℕ) (records : List Record) (left so_far : ℕ) : Type 0 where
  pub within : left ≤ length records
  pub most : so_far ≡ ends.greatest log (entries_of (drop left records))

-- the names of those before a place, with those of the rest, are all
abbrev pub HasNamed : List Name → List journals.Name → List journals.Name → Type 0
HasNamed so_far rest whole = names_of so_far ++ rest ≡ whole

-- the losers among the rest, as the whole ends them
abbrev pub lost_among : ℕ → List Entry → List Entry → List journals.Name
lost_among far whole z = ends.names_of (keep (λ r. not (ends.ended far whole r)) (ends.firsts z))

-- the leaf's pairs from a place on stand over the others
pub record IsLeafOnto (v : Node) (xs : List Pair) (others : List pairs.Pair) (left : ℕ) (so_far : List pairs.Pair) : Type 0 where
  pub within : left ≤ length xs
  pub is : so_far ≡ leaf_onto v (pairs_of (drop left xs)) others

-- the damage among the records from a place on
pub record IsFirst (whole : ℕ) (left : ℕ) (so_far rest : Option rules.Damage) : Type 0 where
  pub within : left ≤ whole
  pub is : so_far ≡ rest
