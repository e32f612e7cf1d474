-- A sync of all logs among the parts of a call of an engine whose pages have slots.
use Rattle.std.specs.Prelude.{◌≡◌, true, false, List}
use Rattle.map_model.specs.Lists.{any}
use Rattle.call_parts.specs.core_state.Events.{Event}
use Rattle.call_parts.specs.core_state.Local.{is_sync}
use Rattle.call_parts.specs.engine_trait.Calls as resident
use Rattle.call_parts.specs.page_calls.declared.slots.Slot.{Slot}
use Rattle.call_parts.specs.Areas.{is_save}
use Rattle.call_parts.specs.Memory.{Memory}
use Rattle.call_parts.specs.Rooms.{ArePaging}

-- these logs and this master, and the slots of the pages
abbrev pub memory_with_slots : resident.Memory → List Slot → Memory
memory_with_slots r slots = record { log = r.log; master = r.master; slots = slots }

-- none of them saves a page, and one is a sync
pub record AreOfSync (es : List Event) : Type 0 where
  pub paging : ArePaging es
  pub unsaved : any is_save es ≡ false
  pub synced : any is_sync es ≡ true
