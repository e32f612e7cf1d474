-- Which events a worker's call may make besides the steps of its transaction.
use Rattle.std.specs.Prelude.{◌≡◌, ℕ, Bool, true, false, ◌&&◌, not, ◌==◌, List, [], ◌∷◌, if◌then◌else◌}
use Rattle.core_state.specs.Events.{Event}

-- w makes room in the tree, or takes it back
abbrev pub is_structure_of : ℕ → Event → Bool
is_structure_of w (Event.Split v l r q i) = v == w
is_structure_of w (Event.Lift v c) = v == w
is_structure_of w (Event.Join v l r q) = v == w
is_structure_of w (Event.Drop v c) = v == w
is_structure_of w (Event.Purge v p keys) = v == w
is_structure_of w _ = false

-- w flushes its log
abbrev pub is_flush_of : ℕ → Event → Bool
is_flush_of w (Event.Flush v n) = v == w
is_flush_of w _ = false

-- w's flushes
abbrev pub flushes_of : ℕ → List Event → List Event
flushes_of w [] = []
flushes_of w (e ∷ es) = if is_flush_of w e then e ∷ flushes_of w es else flushes_of w es

-- of the structure w makes something in changes alone, and flushes its log where a group of commits is full, or before a begin
abbrev pub in_any : ℕ → Event → Bool
in_any w e = not (is_structure_of w e) && not (is_flush_of w e)

abbrev pub in_changes : ℕ → Event → Bool
in_changes w e = not (is_flush_of w e)

abbrev pub in_flushes : ℕ → Event → Bool
in_flushes w e = not (is_structure_of w e)

-- each of them may stand there
abbrev pub AllMay : (Event → Bool) → List Event → Type 0
AllMay p [] = Unit {0}
AllMay p (e ∷ es) = (p e ≡ true) × AllMay p es
