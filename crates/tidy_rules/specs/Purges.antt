-- Which tombstones of a leaf nobody can need.
use Rattle.std.specs.Prelude.{ℕ, ◌&&◌, ◌==◌, List, [], ◌∷◌, if◌then◌else◌}
use Rattle.page_model.specs.Pairs.{Pair}
use Rattle.core_commit.specs.core_state.Needs.{is_settled}
use Rattle.core_commit.specs.core_state.Openings.{Opening}
use Rattle.core_commit.specs.core_state.States.{State}

-- The keys of the tombstones among these pairs that nobody can need, in their order: nobody has the key's lock row, and its last end is known to all,
-- since it is at most the least flushed number.
abbrev pub purgeable : Opening → State → List Pair → List ℕ
purgeable g s [] = []
purgeable g s (x ∷ xs) = if (x.word == g.format.dead) && is_settled g s x.key then x.key ∷ purgeable g s xs else purgeable g s xs
