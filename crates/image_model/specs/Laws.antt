-- What holds of each image.
use Rattle.std.specs.Prelude.{◌≡◌, ◌<◌, ◌≤◌, ℕ, true, None}
use Rattle.map_model.specs.Lists.{Has}
use Rattle.page_model.specs.Tree.{IsTree, value}
use Rattle.image_model.specs.Entries.{Entry}
use Rattle.image_model.specs.Images.{Image, sorted, lost, recovered_page, map_of, IsSound}
use Rattle.image_model.specs.Damage.{damage}

-- There is a damage exactly where a rule is broken.
pub record DamageLaws (i : Image) : Type 0 where
  pub sound : 0 < i.format.pages → damage i ≡ None → IsSound i
  pub complete : IsSound i → damage i ≡ None

abbrev pub EveryDamage : Type 0
EveryDamage = (i : Image) → DamageLaws i

-- The recovered pages are a tree, and its live pairs are the map: to set the words back in the leaves is to set them back by key.
pub record UndoneLaws (i : Image) : Type 0 where
  pub tree : IsTree i.format (λ p. (recovered_page i p).node)
  pub values : (k : ℕ) → value i.format (λ p. (recovered_page i p).node) k ≡ map_of i k

abbrev pub EveryUndone : Type 0
EveryUndone = (i : Image) → IsSound i → ((r : Entry) → Has r (sorted i) → lost i r ≡ true → r.before ≤ i.format.dead) → UndoneLaws i
