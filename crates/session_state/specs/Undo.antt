-- What a transaction has still to put back.
use Rattle.std.specs.Prelude.{◌≡◌, ◌≤◌, ◌<◌, ◌+◌, ◌-◌, ◌*◌, ◌^◌, ℕ, min, List, [], ◌∷◌, length, Option, Some, None}
use Rattle.btree_descent.specs.image_model.Entries.{Entry}
use Rattle.page_model.specs.Limits.{transaction_changes}
use Rattle.engine_calls.specs.worker_log.Logs.{Log, used}
use Rattle.session_state.specs.declared.undo.Undone.{Undone}

-- the newest one, if there is one
abbrev pub newest_of : List Undone → Option Undone
newest_of [] = None
newest_of (c ∷ cs) = Some c

-- all but that
abbrev pub without_newest : List Undone → List Undone
without_newest [] = []
without_newest (c ∷ cs) = cs

-- each is of a key that a leaf can have
abbrev pub AreKeys : List Undone → Type 0
AreKeys [] = Unit {0}
AreKeys (c ∷ cs) = (c.key < 2 ^ 64 - 1) × AreKeys cs

-- the list has room for as many as a transaction may make, and no more of them, each of such a key
pub record AreUndone (changes : List Undone) (most : ℕ) : Type 0 where
  pub room : transaction_changes ≤ most
  pub few : length changes ≤ transaction_changes
  pub keys : AreKeys changes

-- of each listed change its key, and the word before it
abbrev pub undo_of : List Entry → List Undone
undo_of [] = []
undo_of (c ∷ cs) = record { key = c.key; word = c.before } ∷ undo_of cs

-- ## Blocks

-- How far the log is filled: 1,900 bytes for each block that was written, and those of the block in hand. A block is closed where it has no room for the next
-- record. So a record of at most 64 bytes raises this by no more than 64, one of at most 1,031 by no more than 1,962, and a flush by no more than 1,900.
abbrev pub filled : Log → ℕ
filled log = 1900 * (log.next - log.head) + min (length log.payload) 2000

-- room for so many put-backs, each of at most 64 bytes, and an end
abbrev pub HasRoomToUndo : Log → ℕ → Type 0
HasRoomToUndo log many = filled log + (64 * many + 2064) ≤ 1900 * log.blocks

-- how many blocks are kept, behind all that a call stages, for its transaction to be put back: four for 64 put-backs and an end, and one for each of three
-- flushes among them
abbrev pub kept_blocks : ℕ
kept_blocks = 7

-- Room for so many records of any size, and the blocks that are kept. A record uses one block more at most; a flush uses none, since the block in hand counts
-- as used.
abbrev pub HasRoomToStage : Log → ℕ → Type 0
HasRoomToStage log many = used log + (many + kept_blocks) ≤ log.blocks

-- a block in hand without a record has no bytes
abbrev pub HasHand : Log → Type 0
HasHand log = log.count ≡ 0 → log.payload ≡ []
