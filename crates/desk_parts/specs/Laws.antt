-- What calls of the pager and syncs are to the parts of a call of an engine. The stories of a law are parameters, since a law over all is too large.
use Rattle.std.specs.Prelude.{◌≡◌, ℕ, true, false, List, length}
use Rattle.lean_disk.specs.Story.{Story}
use Rattle.call_parts.specs.engine_trait.Calls as resident
use Rattle.call_parts.specs.page_calls.declared.slots.Slot.{Slot}
use Rattle.page_provider.specs.Moves.{Moved}
use Rattle.page_provider.specs.Providers.{Provider}
use Rattle.call_parts.specs.row_words.Moments.{events_of}
use Rattle.call_parts.specs.row_words.Openings.{opening}
use Rattle.call_parts.specs.rows_trait.declared.view.View.{View}
use Rattle.call_parts.specs.rows_trait.Views.{Shape}
use Rattle.session_desks.specs.Syncs.{SyncFails, SyncGoes, SyncMade}
use Rattle.call_parts.specs.Memory.{Memory, with_slots}
use Rattle.call_parts.specs.Parts.{Failed, Part}
use Rattle.call_parts.specs.Rooms.{ArePaging}
use Rattle.desk_parts.specs.Pages.{HasSlots, PagerCalled, PagerServed}
use Rattle.desk_parts.specs.Syncs.{AreOfSync, memory_with_slots}

-- ## Pages

-- Of a call of the pager where nobody else steps, in an engine of so many logs that has the pager's slots in memory.
pub record PageLaws (many most : ℕ) (z : Shape) (v w : View) (k is : Provider) (memory : Memory) (old new : Story) : Type 0 where
  -- its events are a part
  pub part : (c : PagerServed most z v w k is old new) → Part many c.call.moved.events v w memory (with_slots is.slots memory) old new
  -- and behind it the slots in memory are the pager's
  pub slots : Moved most z v k w is → length is.slots ≡ length k.slots → HasSlots (with_slots is.slots memory) is
  -- where a device or a page failed it, by its events so far
  pub failed : (c : PagerCalled most z v w k is old new) → Failed many true false (events_of c.moved.events) v memory old new
  -- these move pages, and no more
  pub paging : (m : Moved most z v k w is) → ArePaging (events_of m.events)

abbrev pub EveryPagePart : (old new : Story) → Type 0
EveryPagePart old new = (many most : ℕ) (z : Shape) (v w : View) (k is : Provider) (memory : Memory) → z.alone ≡ true → HasSlots memory k → PageLaws many most z v w k is memory old new

-- ## Syncs

-- Of a sync up to n, in an engine of so many logs that has these slots in memory.
pub record SyncLaws (many n : ℕ) (v w : View) (was is : resident.Memory) (slots : List Slot) (old new : Story) : Type 0 where
  -- its events are a part
  pub part : (s : SyncGoes many n v w was is old new) → Part many s.events v w (memory_with_slots was slots) (memory_with_slots is slots) old new
  pub are : (s : SyncGoes many n v w was is old new) → AreOfSync (events_of s.events)
  -- where a device failed it, by its flushes so far, and maybe the sync
  pub failed : (s : SyncFails many v was old new) → Failed many false true s.events v (memory_with_slots was slots) old new
  pub paging : (s : SyncFails many v was old new) → ArePaging s.events

abbrev pub EverySyncPart : (old new : Story) → Type 0
EverySyncPart old new = (many n : ℕ) (v w : View) (was is : resident.Memory) (slots : List Slot) → (opening v.given).workers ≡ many → SyncLaws many n v w was is slots old new

-- Behind it the slots in memory are the pager's still.
abbrev pub EverySyncSlots : {D : Type 0} → (story : D → Story) → (old new : D) → Type 0
EverySyncSlots story old new = (many n : ℕ) (v w : View) (was is : resident.Memory) (slots : List Slot) (k : Provider) → SyncMade story many n v w was is old new → HasSlots (memory_with_slots was slots) k → HasSlots (memory_with_slots is slots) k
