-- The master of a run: what stands in its two slots, and what a crash may leave there.
use Rattle.std.specs.Prelude.{◌≡◌, ◌<◌, ◌≤◌, ◌+◌, ◌-◌, ◌*◌, ◌%◌, ◌||◌, ℕ, Bool, true, List, [], ◌∷◌, ◌++◌, length, Some}
use Rattle.map_model.specs.Lists.{Has, keep}
use Rattle.core_disk.specs.core_state.Events.{Event}
use Rattle.core_disk.specs.core_state.Local.{is_sync}
use Rattle.master_store.specs.image_model.Fair.{piece}
use Rattle.lean_disk.specs.Area.{Area, Write}
use Rattle.master_store.specs.disk_slots.declared.master.Master.{Master}
use Rattle.master_store.specs.disk_image.MasterSlots.{master_in}
use Rattle.master_store.specs.disk_image.Masters.{IsOfRun}
use Rattle.core_disk.specs.Versions.{is_cut}
use Rattle.disk_runs.specs.Fair.{IsSlotWrite}

-- the slot of a master
abbrev pub slot_of : Master → ℕ
slot_of m = m.sequence % 2

-- The area of the masters, which had these bytes and writes when the run began; each write since was of one slot. The master stands in its slot
-- and is synced there; what is not synced is the other slot; and whatever was written to a slot, or stood there at first, is no later.
pub record MasterStands (n : Master) (first : List ℕ) (older : List Write) (area : Area) : Type 0 where
  pub since : List Write
  pub writes : area.writes ≡ since ++ older
  pub own : (w : Write) → Has w since → IsSlotWrite w
  pub there : master_in (slot_of n) (piece 1024 (slot_of n) area.bytes) ≡ Some n
  pub end : 1024 * slot_of n + 1024 ≤ area.end
  pub other : (m : Master) → master_in (1 - slot_of n) (piece 1024 (1 - slot_of n) area.bytes) ≡ Some m → m.sequence ≤ n.sequence
  pub late : (range : ℕ × ℕ) → Has range area.unsynced → range ≡ (1024 * (1 - slot_of n), 1024)
  pub old : (k : ℕ) (m : Master) → k < 2 → master_in k (piece 1024 k first) ≡ Some m → m.sequence ≤ n.sequence
  pub new : (k : ℕ) (bytes : List ℕ) (m : Master) → k < 2 → Has (1024 * k, bytes) since → master_in k bytes ≡ Some m → m.sequence ≤ n.sequence

-- the next master of a run: of the same generation, for as many pages, blocks and logs
pub record IsNextOf (n m : Master) : Type 0 where
  pub sequence : m.sequence ≡ n.sequence + 1
  pub generation : m.generation ≡ n.generation
  pub pages : m.pages ≡ n.pages
  pub blocks : m.blocks ≡ n.blocks
  pub logs : length m.heads ≡ length n.heads

-- ## By events

-- a sync or a cut, by which the next master may be written
abbrev pub is_master : Event → Bool
is_master e = is_sync e || is_cut e

-- how many of these events are such
abbrev pub masters : List Event → ℕ
masters es = length (keep is_master es)

-- Behind these events of a run in which n counted, m counts: it is n, or a later one, and each sync and each cut wrote one master at most.
pub record IsNoEarlier (es : List Event) (n m : Master) : Type 0 where
  pub sequence : n.sequence ≤ m.sequence
  pub most : m.sequence ≤ n.sequence + masters es
  pub generation : m.generation ≡ n.generation
  pub pages : m.pages ≡ n.pages
  pub blocks : m.blocks ≡ n.blocks
  pub logs : length m.heads ≡ length n.heads

-- Behind these events n counts in a run that began with m, or on a disk whose master was m, and then the opening wrote one master more, of the next
-- generation.
pub record IsOfRunBy (es : List Event) (m n : Master) : Type 0 where
  pub of_run : IsOfRun m n
  pub most : n.sequence + m.generation ≤ m.sequence + (n.generation + masters es)

-- So it is one after another; and a run that began with a master of an older one, by which it was opened, is of that one.
pub record LineLaws (n m k : Master) : Type 0 where
  pub same : (es : List Event) → IsNoEarlier es n n
  pub next : (e : Event) → is_master e ≡ true → IsNextOf n m → IsNoEarlier (e ∷ []) n m
  pub further : (xs ys : List Event) → IsNoEarlier xs n m → IsNoEarlier ys m k → IsNoEarlier (xs ++ ys) n k
  pub of_run : (es : List Event) → IsNoEarlier es n m → IsOfRunBy es n m
  pub opened : (xs ys : List Event) → IsOfRunBy xs n m → IsNoEarlier ys m k → IsOfRunBy (xs ++ ys) n k

-- of any three masters
abbrev pub EveryMasterLine : Type 0
EveryMasterLine = (n m k : Master) → LineLaws n m k

-- The masters of two parts of a run are those of both, and no run has more than events.
pub record CountLaws (xs ys : List Event) : Type 0 where
  pub more : masters (xs ++ ys) ≡ masters xs + masters ys
  pub few : masters xs ≤ length xs

-- of any events
abbrev pub EveryMasterCount : Type 0
EveryMasterCount = (xs ys : List Event) → CountLaws xs ys
