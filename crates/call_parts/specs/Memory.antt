-- What an engine has in memory of its disk.
use Rattle.std.specs.Prelude.{◌≡◌, ◌≤◌, ◌<◌, ℕ, List, Some, slice_get}
use Rattle.map_model.specs.Lists.{upd}
use Rattle.session_state.specs.core_state.Openings.{Opening}
use Rattle.session_state.specs.disk_runs.Stands.{Known}
use Rattle.session_state.specs.disk_slots.declared.master.Master.{Master}
use Rattle.page_calls.specs.Slots.{is_some, number_of}
use Rattle.page_calls.specs.declared.slots.Slot.{Slot}
use Rattle.session_state.specs.worker_log.Logs.{Log}

-- the log of each session, the master that counts, and the slots of the pages, of none where no page is ever saved
pub record Memory : Type 0 where
  pub log : ℕ → Log
  pub master : Master
  pub slots : List Slot

-- and that is known of a disk
pub record IsOf (g : Opening) (memory : Memory) (k : Known) : Type 0 where
  pub log : (w : ℕ) → 0 < w → w ≤ g.workers → k.log w ≡ memory.log w
  pub master : k.master ≡ memory.master
  -- which slot is firm, and whether the other one was written since: a save goes there
  pub slots : (p : ℕ) (s : Slot) → slice_get memory.slots p ≡ Some s → ((k.firm p).slot ≡ number_of s.second) × (is_some (k.late p) ≡ s.late)

-- the same, with this log of one session
abbrev pub with_own : (own : ℕ) → Log → Memory → Memory
with_own own log m = record m { log = upd m.log own log }

-- the same, with these slots
abbrev pub with_slots : List Slot → Memory → Memory
with_slots slots m = record m { slots = slots }

-- the same is in memory of so many logs
pub record IsSame (many : ℕ) (m n : Memory) : Type 0 where
  pub log : (w : ℕ) → 0 < w → w ≤ many → n.log w ≡ m.log w
  pub master : n.master ≡ m.master
  pub slots : n.slots ≡ m.slots
