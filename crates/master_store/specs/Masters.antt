-- The master's area: the masters that a run has written, which of them counts, and what a crash leaves.
use Rattle.std.specs.Prelude.{◌≡◌, ◌⊎◌, ◌*◌, ◌%◌, ℕ, suc, List, [], ◌∷◌, ◌++◌, length, Option, Some, None, codes}
use Rattle.page_store.specs.image_model.Fair.{IsFair}
use Rattle.lean_disk.specs.Area.{Area, Leaves, Write, torn}
use Rattle.page_store.specs.disk_slots.Masters.{IsMaster, master_slot}
use Rattle.page_store.specs.disk_slots.Slots.{IsSealed}
use Rattle.page_store.specs.disk_slots.declared.master.Master.{Master}
use Rattle.page_store.specs.disk_image.MasterSlots.{master_on}

-- a master of one of the slots
abbrev pub IsOfSlot : Master → Type 0
IsOfSlot m = (slot : ℕ) × IsMaster slot m

-- what stood in the area, or these bytes at that place
pub record WritesOnce (at : ℕ) (bytes : List ℕ) (area : Area) (writes : List Write) (image : List ℕ) : Type 0 where
  pub writes_are : (writes ≡ area.writes) ⊎ (writes ≡ (at, bytes) ∷ area.writes)
  pub leaves : Leaves (torn at bytes area) image

-- ## An account

-- The area's bytes when the run began, its writes by then, and the masters written since, all of them synced, the newest first.
pub record Account : Type 0 where
  pub first : List ℕ
  pub older : List Write
  pub masters : List Master

-- one that begins
abbrev pub begun : Area → Account
begun area = record { first = area.bytes; older = area.writes; masters = [] }

-- and one master more
abbrev pub wrote : Master → Account → Account
wrote m x = record x { masters = m ∷ x.masters }

-- each master's write to the slot of its sequence number
abbrev pub writes_of : List Master → List Write
writes_of [] = []
writes_of (m ∷ older) = (1024 * (m.sequence % 2), master_slot m) ∷ writes_of older

-- the newest of the masters counts, or where there is none what counted at first
abbrev pub counted : List ℕ → List Master → Option Master
counted first [] = master_on first
counted first (m ∷ older) = Some m

-- one more than that of the master that counts
abbrev pub next_sequence : Option Master → ℕ
next_sequence None = 0
next_sequence (Some m) = suc m.sequence

-- a master of one of the slots, with the next sequence number
pub record Follows (before : Option Master) (m : Master) : Type 0 where
  pub valid : IsOfSlot m
  pub sequence : m.sequence ≡ next_sequence before

abbrev pub IsNextOf : Account → Master → Type 0
IsNextOf x m = Follows (counted x.first x.masters) m

-- each of the masters follows the one that counted before it
abbrev pub AreInTurn : List ℕ → List Master → Type 0
AreInTurn first [] = Unit {0}
AreInTurn first (m ∷ older) = Follows (counted first older) m × AreInTurn first older

-- The area is as the account says: its writes are those of the masters, it is synced, the newest master counts, and a read gives a
-- fair image.
pub record IsKept (x : Account) (area : Area) : Type 0 where
  pub writes : area.writes ≡ writes_of x.masters ++ x.older
  pub clean : area.unsynced ≡ []
  pub end : area.end ≡ length area.bytes
  pub counts : master_on area.bytes ≡ counted x.first x.masters
  pub turns : AreInTurn x.first x.masters
  pub fair : IsFair 1024 (IsSealed (codes "LEANMAST")) x.first (writes_of x.masters) area.bytes

-- What a crash leaves while a master is written: it is written or not; and in each fair image it counts, or the one that counted before.
pub record LeavesMasters (x : Account) (m : Master) (writes : List Write) (image : List ℕ) : Type 0 where
  pub since : List Write
  pub since_is : (since ≡ writes_of (m ∷ x.masters)) ⊎ (since ≡ writes_of x.masters)
  pub writes_are : writes ≡ since ++ x.older
  pub counts : IsFair 1024 (IsSealed (codes "LEANMAST")) x.first since image →
      (master_on image ≡ Some m) ⊎ (master_on image ≡ counted x.first x.masters)
