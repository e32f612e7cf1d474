-- An opening with one empty leaf.
use Rattle.std.specs.Prelude.{◌<◌, ◌≤◌, ℕ}
use Rattle.map_model.specs.Maps.{key_end}
use Rattle.core_commit.specs.core_state.Openings.{Opening}
use Rattle.transactions.specs.Memory.{IsUsual}
use Rattle.mem_journal.specs.Places.{IsEmpty}

-- There is one, with so many workers and lock rows, and with what sessions ask of it.
pub record HasOpening (sessions rows base keys room : ℕ) : Type 0 where
  pub opening : Opening
  pub empty : IsEmpty opening sessions base keys room
  pub usual : IsUsual opening rows

abbrev pub EveryOpening : Type 0
EveryOpening = (sessions rows base keys room : ℕ) → 0 < sessions → 0 < room → 0 < keys → keys ≤ key_end → HasOpening sessions rows base keys room
