-- Where leaves end.
use Rattle.std.specs.Prelude.{◌≡◌, ◌⊎◌, ◌<◌, ℕ, true}
use Rattle.page_model.specs.Nodes.{Node, holds}

-- a leaf that has a key ends there
pub record EndsLeaf (pages : ℕ) (node : ℕ → Node) (fence : ℕ) : Type 0 where
  pub page : ℕ
  pub within : page < pages
  pub key : ℕ
  pub has : holds (node page) key ≡ true
  pub high : (node page).high ≡ fence

-- no key is below it, or a leaf ends there
abbrev pub IsFence : (pages : ℕ) → (ℕ → Node) → ℕ → Type 0
IsFence pages node fence = (fence ≡ 0) ⊎ EndsLeaf pages node fence
