-- The numbers that bound pages, sessions and transactions, by name. src/limits.rt has them for code.
use Rattle.std.specs.Prelude.{ℕ, ◌^◌}

-- how many pairs a node has at most, so how many keys a leaf
abbrev pub leaf_room : ℕ
leaf_room = 60

-- the greatest level of a node
abbrev pub top_level : ℕ
top_level = 7

-- the word of a key that has no value; a value is below it
abbrev pub tombstone : ℕ
tombstone = 2 ^ 63

-- the bit that tells the word of a frame from the number of a page
abbrev pub frame_bit : ℕ
frame_bit = 2 ^ 63

-- how many sessions there are at most, so how many logs
abbrev pub most_sessions : ℕ
most_sessions = 16

-- how many changes a transaction has at most
abbrev pub transaction_changes : ℕ
transaction_changes = 64

-- how many ends of a session wait at most where it begins a transaction
abbrev pub waiting_ends : ℕ
waiting_ends = 256
