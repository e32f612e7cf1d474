-- What undo makes of one key's word, and which records it sets back, once the reach is known.
use Rattle.std.specs.Prelude.{ℕ, Bool, ◌&&◌, not, ◌==◌, List, [], ◌∷◌, if◌then◌else◌}
use Rattle.image_model.specs.Entries.{Entry, is_write}
use Rattle.image_model.specs.Ends.{ended}

abbrev pub is_lost_by : ℕ → List Entry → (ℕ → ℕ → Bool) → Entry → Bool
is_lost_by far z counts r = is_write r.kind && (counts r.log r.number && not (ended far z r))

abbrev pub word_undone : (Entry → Bool) → List Entry → ℕ → ℕ → ℕ
word_undone lost [] k w = w
word_undone lost (r ∷ z) k w = word_undone lost z k (if lost r && (k == r.key) then r.before else w)
