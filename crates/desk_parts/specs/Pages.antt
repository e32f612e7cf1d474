-- A call of the pager among the parts of a call of an engine: what has to be known of it, and of what is in memory.
use Rattle.std.specs.Prelude.{◌≡◌, ℕ, false, List, length}
use Rattle.map_model.specs.Lists.{any}
use Rattle.call_parts.specs.core_state.Events as happening
use Rattle.lean_disk.specs.Moments.{Framed, OnlyReads}
use Rattle.lean_disk.specs.Story.{Story}
use Rattle.call_parts.specs.page_calls.Calls.{KeepsWithin}
use Rattle.page_provider.specs.Disks.{Disked}
use Rattle.page_provider.specs.Moves.{Moved}
use Rattle.page_provider.specs.Providers.{Provider}
use Rattle.call_parts.specs.row_words.Moments.{events_of}
use Rattle.call_parts.specs.rows_trait.declared.view.View.{View}
use Rattle.call_parts.specs.rows_trait.Views.{Shape}
use Rattle.call_parts.specs.Areas.{is_save}
use Rattle.call_parts.specs.Memory.{Memory}

-- The slots in memory are the pager's, one of each page; and it saves by the generation of the master that counts.
pub record HasSlots (memory : Memory) (k : Provider) : Type 0 where
  pub slots : memory.slots ≡ k.slots
  pub generation : memory.master.generation ≡ k.generation
  pub count : length memory.slots ≡ memory.master.pages

-- The device was called in the pages' area alone, at every moment.
pub record StaysWithin (old new : Story) : Type 0 where
  pub frame : Framed 1 old new
  pub within : KeepsWithin old new

-- where none of the events saves a page it was only read
abbrev pub ReadsUnlessSaved : List happening.Event → (old new : Story) → Type 0
ReadsUnlessSaved es old new = any is_save es ≡ false → OnlyReads old new

-- A call of the pager: its events, and what it made of the disk.
pub record PagerCalled (most : ℕ) (z : Shape) (v w : View) (k is : Provider) (old new : Story) : Type 0 where
  pub moved : Moved most z v k w is
  pub disk : Disked z.alone k v is w old new
  pub stays : StaysWithin old new

-- It has left the pager whole.
pub record PagerServed (most : ℕ) (z : Shape) (v w : View) (k is : Provider) (old new : Story) : Type 0 where
  pub call : PagerCalled most z v w k is old new
  pub well : is.broken ≡ false
  pub reads : ReadsUnlessSaved (events_of call.moved.events) old new
