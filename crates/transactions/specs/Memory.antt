-- What a session has in memory, and how it is the core's worker.
use Rattle.std.specs.Prelude.{◌≡◌, ◌<◌, ◌%◌, ◌^◌, ℕ, zero, suc, Bool, true, false, List, [], ◌∷◌, length, map, slice_index_or, Option, Some, None, ltb, if◌then◌else◌}
use Rattle.core_state.specs.image_model.Entries.{Entry}
use Rattle.core_state.specs.Openings.{Opening}
use Rattle.core_state.specs.Events as core
use Rattle.core_state.specs.Events.{Event}
use Rattle.core_state.specs.Needs.{holds_row, is_worker}
use Rattle.transactions.specs.declared.hindrance.Mode.{Mode}
use Rattle.transactions.specs.declared.hindrance.Mode.TheVariants as modes
use Rattle.transactions.specs.declared.session.Undo.{Undo}
use Rattle.transactions.specs.declared.session.Session.{Session}
use Rattle.transactions.specs.Steps.{is_half_after}
use Rattle.core_state.specs.Steps.{state_after}

-- how a row is held
abbrev pub mode_of : Mode → core.Mode
mode_of modes.Shared = core.Mode.Shared
mode_of modes.Alone = core.Mode.Alone

abbrev pub no_undo : Undo
no_undo = record { key = 0; word = 0 }

-- the first n of the list, the last first
abbrev pub newest : ℕ → List Undo → List Undo
newest zero us = []
newest (suc n) us = slice_index_or us n no_undo ∷ newest n us

-- Whether a transaction is open, whether its abort is half done, which lock rows are held, and what its changes were made of, the newest
-- first.
pub record Memory : Type 0 where
  pub session : ℕ
  pub is_open : Bool
  pub is_half : Bool
  pub held : List Bool
  pub undo : List Undo

abbrev pub memory_of : Session → Memory
memory_of s = record { session = s.session; is_open = s.is_open; is_half = s.is_half; held = s.held.items; undo = newest s.count s.undo.items }

-- the row is held
abbrev pub has_row : List Bool → ℕ → Bool
has_row held i = slice_index_or held i false

-- what a change was made of
abbrev pub undo_of : Entry → Undo
undo_of c = record { key = c.key; word = c.before }

-- what a word says: a value, or none
abbrev pub live_value : Option ℕ → Option ℕ
live_value None = None
live_value (Some word) = if ltb word (2 ^ 63) then Some word else None

-- the word before a change
abbrev pub word_before : Option ℕ → ℕ
word_before None = 2 ^ 63
word_before (Some word) = word

-- the opening has the engine's numbers
pub record IsUsual (g : Opening) (rows : ℕ) : Type 0 where
  pub row : (k : ℕ) → g.row_of k ≡ k % rows
  pub dead : g.format.dead ≡ 2 ^ 63
  pub most : g.changes ≡ 64

-- the held ones of the first n rows, the last first
abbrev pub held_rows : List Bool → ℕ → List ℕ
held_rows held zero = []
held_rows held (suc n) = if has_row held n then n ∷ held_rows held n else held_rows held n

-- none is held
abbrev pub HasNone : List Bool → Type 0
HasNone held = (i : ℕ) → i < length held → has_row held i ≡ false

-- The session is a worker of the core, after these events: it has in memory whether its transaction is open, whether its abort is half
-- done, what its changes were made of, and just the rows that it holds.
pub record Ties (g : Opening) (es : List Event) (m : Memory) : Type 0 where
  pub usual : IsUsual g (length m.held)
  pub worker : is_worker g m.session ≡ true
  pub is_open : ((state_after g es).worker m.session).is_open ≡ m.is_open
  pub undo : map undo_of ((state_after g es).worker m.session).changes ≡ m.undo
  pub held : (i : ℕ) → i < length m.held → holds_row ((state_after g es).row i) m.session ≡ has_row m.held i
  pub half : m.is_half ≡ is_half_after m.session false es

-- Between two calls it holds no row where no transaction is open.
pub record Knows (g : Opening) (es : List Event) (m : Memory) : Type 0 where
  pub ties : Ties g es m
  pub closed : m.is_open ≡ false → HasNone m.held
