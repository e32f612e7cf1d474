-- Room for a key whose leaf is full, by pages: which split or lift comes next.
use Rattle.std.specs.Prelude.{◌≡◌, ◌/◌, ◌==◌, ◌&&◌, ℕ, suc, Bool, true, false, not, List, [], ◌∷◌, length}
use Rattle.page_model.specs.Check.{some_below}
use Rattle.page_model.specs.Limits.{leaf_room}
use Rattle.page_model.specs.Nodes.{covers, holds}
use Rattle.page_model.specs.Redo.{has_key}
use Rattle.core_commit.specs.core_state.Events.{Event}
use Rattle.core_commit.specs.core_state.Openings.{Opening}
use Rattle.core_commit.specs.core_state.States.{State, nodes_of}
use Rattle.core_calls.specs.Room.{free_list, full_run, is_all_full}

-- the leaf with the key in its fences has no room, and has not the key
abbrev pub is_full_for : Opening → State → ℕ → Bool
is_full_for g s k = some_below g.format.pages (λ p. holds (s.page p).node k && ((length (s.page p).node.pairs == g.format.room) && not (has_key k (s.page p).node)))

-- the page is the least free one
abbrev pub IsLeastFree : Opening → State → ℕ → Type 0
IsLeastFree g s p = (rest : List ℕ) × (free_list g s ≡ p ∷ rest)

-- The key's leaf has no room. Of the full nodes above it, without a gap, the topmost is split in halves by session `own`; if all nodes of the way are full, the
-- session lifts the root. The tree is changed by nothing else.
abbrev pub IsNextRoom : (own : ℕ) → Opening → State → (key : ℕ) → Event → Type 0
IsNextRoom own g s key (Event.Split w l r q i) =
    (w ≡ own) × (is_full_for g s key ≡ true) × (is_all_full g s key ≡ false) × (covers (nodes_of s l) key ≡ true) × (suc (nodes_of s l).level ≡ full_run g s key) × IsLeastFree g s r × (i ≡ leaf_room / 2)
IsNextRoom own g s key (Event.Lift w c) = (w ≡ own) × (is_full_for g s key ≡ true) × (is_all_full g s key ≡ true) × IsLeastFree g s c
IsNextRoom own g s key (Event.Join w l r q) = ⊥
IsNextRoom own g s key (Event.Drop w c) = ⊥
IsNextRoom own g s key (Event.Purge w p keys) = ⊥
IsNextRoom own g s key _ = Unit {0}
