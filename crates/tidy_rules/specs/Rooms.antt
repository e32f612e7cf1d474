-- Room for a key whose leaf is full: what nobody can need goes first.
use Rattle.std.specs.Prelude.{◌≡◌, ◌<◌, ℕ, true, List, [], ◌∷◌, length}
use Rattle.page_model.specs.Nodes.{holds}
use Rattle.core_commit.specs.core_state.Events.{Event}
use Rattle.core_commit.specs.core_state.Openings.{Opening}
use Rattle.core_commit.specs.core_state.States.{State, nodes_of}
use Rattle.core_commit.specs.core_state.Steps.{step}
use Rattle.tidy_rules.specs.Growth.{is_full_for}
use Rattle.tidy_rules.specs.Growth as growth
use Rattle.tidy_rules.specs.Purges.{purgeable}

-- no tombstone of the key's leaf can go
abbrev pub NoneGoes : Opening → State → (key : ℕ) → Type 0
NoneGoes g s key = (p : ℕ) → p < g.format.pages → holds (nodes_of s p) key ≡ true → purgeable g s (nodes_of s p).pairs ≡ []

-- The key's leaf has no room. All its tombstones that nobody can need go, by session `own`; where there is none, a page is split or the root is lifted. The
-- tree is changed by nothing else.
abbrev pub IsNextRoom : (own : ℕ) → Opening → State → (key : ℕ) → Event → Type 0
IsNextRoom own g s key (Event.Purge w p keys) = (w ≡ own) × (is_full_for g s key ≡ true) × (holds (nodes_of s p) key ≡ true) × (keys ≡ purgeable g s (nodes_of s p).pairs) × (0 < length keys)
IsNextRoom own g s key (Event.Split w l r q i) = NoneGoes g s key × growth.IsNextRoom own g s key (Event.Split w l r q i)
IsNextRoom own g s key (Event.Lift w c) = NoneGoes g s key × growth.IsNextRoom own g s key (Event.Lift w c)
IsNextRoom own g s key e = growth.IsNextRoom own g s key e

-- so does each event, at its place
abbrev pub MakesRoom : (own : ℕ) → Opening → State → (key : ℕ) → List Event → Type 0
MakesRoom own g s key [] = Unit {0}
MakesRoom own g s key (e ∷ es) = IsNextRoom own g s key e × MakesRoom own g (step g s e) key es
