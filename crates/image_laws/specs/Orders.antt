-- What an image tells of its transactions does not depend on the order in which its records are listed.
use Rattle.std.specs.Prelude.{◌≡◌, ℕ, List, length}
use Rattle.map_model.specs.Lists.{Has, in_order}
use Rattle.image_model.specs.Entries.{Entry, earlier}
use Rattle.image_model.specs.Ends.{reach, ended, winners, losers}

-- put in order, the records are the same ones, and give the same reach, ends, and numbers of winners and losers
pub record OrderLaws (z : List Entry) : Type 0 where
  pub reach : (logs floor : ℕ) → reach logs floor (in_order earlier z) ≡ reach logs floor z
  pub ended : (far : ℕ) (r : Entry) → ended far (in_order earlier z) r ≡ ended far z r
  pub winners : (far : ℕ) → length (winners far (in_order earlier z)) ≡ length (winners far z)
  pub losers : (far : ℕ) → length (losers far (in_order earlier z)) ≡ length (losers far z)
  pub has : (r : Entry) → (Has r (in_order earlier z) → Has r z) × (Has r z → Has r (in_order earlier z))

abbrev pub EveryOrder : Type 0
EveryOrder = (z : List Entry) → OrderLaws z
