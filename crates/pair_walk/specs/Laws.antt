-- What holds of the pairs of each map, and of each tree of pages.
use Rattle.std.specs.Prelude.{◌≡◌, ◌≤◌, ◌++◌, ℕ, List}
use Rattle.map_model.specs.Maps.{Map, key_end}
use Rattle.page_model.specs.Pairs.{Pair}
use Rattle.page_model.specs.Nodes.{Format, Node}
use Rattle.page_model.specs.Tree.{IsTree, value}
use Rattle.pair_walk.specs.Listings.{Lists, ArePairsOf}

-- the pairs with keys between two numbers
pub record HasPairs (map : Map) (low high : ℕ) : Type 0 where
  pub pairs : List Pair
  pub are : Lists map low high pairs

pub record ListingLaws : Type 0 where
  -- there are such pairs
  pub some : (map : Map) (low high : ℕ) → low ≤ high → HasPairs map low high
  -- pairs up to a number and those from it on are the pairs of both
  pub joined : (map : Map) (low mid high : ℕ) (xs ys : List Pair) → Lists map low mid xs → Lists map mid high ys → Lists map low high (xs ++ ys)
  -- a tree has no key from the root's high fence on
  pub whole : (f : Format) (node : ℕ → Node) (pairs : List Pair) → f.top ≡ key_end → IsTree f node → Lists (value f node) 0 key_end pairs → ArePairsOf (value f node) pairs
