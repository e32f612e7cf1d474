-- What the definitions refuse: rules that an engine may not follow.
use Rattle.std.specs.Prelude.{◌≡◌, ◌<◌, ◌≤◌, ◌*◌, ℕ, true, List, Option}
use Rattle.map_model.specs.Lists.{Has}
use Rattle.page_model.specs.Page as memory
use Rattle.master_store.specs.image_model.Entries.{Entry, Contents, touches}
use Rattle.core_disk.specs.core_state.Openings.{Opening}
use Rattle.core_disk.specs.core_state.States.{State, flushed_by_all}
use Rattle.core_disk.specs.core_state.Events.{Event}
use Rattle.lean_disk.specs.Area.{Area, Write, torn}
use Rattle.master_store.specs.disk_slots.declared.master.Master.{Master}
use Rattle.master_store.specs.page_store.Saved.{place_of}
use Rattle.worker_log.specs.Accounts.{Account}
use Rattle.worker_log.specs.Logs.{Log}
use Rattle.core_disk.specs.core_state.Steps.{state_after}
use Rattle.core_disk.specs.Held.{IsVersion}
use Rattle.disk_runs.specs.Logs.{Accounts}
use Rattle.disk_runs.specs.Masters.{MasterStands, slot_of}
use Rattle.disk_runs.specs.Pages.{Firm, PagesStand}

-- Five rules, each of which contradicts a definition.
pub record Refusals : Type 0 where
  -- a flush is counted before the log is synced
  pub early_flush : (s : State) (w : ℕ) (x : Account) (log : Log) → Accounts s w x log → log.flushed < s.flushed w → ⊥
  -- a page is left that has a number above the least flushed one
  pub unflushed : (g : Opening) (es : List Event) (p : ℕ) (v : Contents) → IsVersion g es p v → flushed_by_all g (state_after g es) < v.gsn → ⊥
  -- the firm slot of a page is written
  pub overwritten : (g : Opening) (es : List Event) (pages generation : ℕ) (first : List ℕ) (older : List Write) (firm : ℕ → Firm) (late : ℕ → Option memory.Page) (area : Area) (p : ℕ) (bytes : List ℕ)
      → p < pages → PagesStand g es pages generation first older firm late (torn (place_of p (firm p).slot) bytes area) → ⊥
  -- so is the slot of the master that counts
  pub lost_master : (n : Master) (first : List ℕ) (older : List Write) (area : Area) (bytes : List ℕ) → MasterStands n first older (torn (1024 * slot_of n) bytes area) → ⊥
  -- a cut is made before a page's changes up to its number are on the disk
  pub early_cut : (g : Opening) (es : List Event) (p : ℕ) (v : Contents) (r : Entry) → IsVersion g es p v → Has r (state_after g es).entries → touches p r ≡ true → r.number ≤ (state_after g es).cut → v.gsn < r.number → ⊥
