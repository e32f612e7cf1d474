-- One log of a run: what its account has in common with the state of the core.
use Rattle.std.specs.Prelude.{◌≡◌, ◌≤◌, ℕ, true, List, [], ◌∷◌}
use Rattle.map_model.specs.Lists.{Has}
use Rattle.master_store.specs.image_model.Entries.{Entry, is_record}
use Rattle.core_disk.specs.core_state.States.{State}
use Rattle.core_disk.specs.core_crash.Crashes.{from_head, log_of}
use Rattle.lean_disk.specs.Area.{Area, Write}
use Rattle.master_store.specs.disk_slots.declared.master.Master.{Master}
use Rattle.master_store.specs.disk_image.Runs.{sealed_in}
use Rattle.master_store.specs.disk_image.Shown.{head_of}
use Rattle.worker_log.specs.Accounts.{Account, records_of}
use Rattle.worker_log.specs.Kept.{IsInRange, IsKept}
use Rattle.worker_log.specs.Logs.{Log}
use Rattle.worker_log.specs.Laws.{entries_onto}

-- it is log w of the master
pub record IsLogOf (n : Master) (w : ℕ) (log : Log) : Type 0 where
  pub generation : log.generation ≡ n.generation
  pub number : log.log ≡ w
  pub blocks : log.blocks ≡ n.blocks
  pub head : log.head ≡ head_of n w

-- The account has the records of the state's log, from its head on; the log is flushed as far as the state's, and not beyond its last
-- record.
pub record Accounts (s : State) (w : ℕ) (x : Account) (log : Log) : Type 0 where
  pub entries : entries_onto w [] (records_of x) ≡ from_head (s.head w) (log_of w s.entries)
  pub flushed : s.flushed w ≤ log.flushed
  pub order : log.flushed ≤ log.last

-- the account began with these bytes and writes, among which no block was of a later generation than the master's
pub record BeganAt (n : Master) (first : List ℕ) (older : List Write) (x : Account) : Type 0 where
  pub first_is : x.first ≡ first
  pub older_is : x.older ≡ older
  pub sealed : (q : ℕ) → Has q (sealed_in n.blocks first) → q ≤ n.generation

-- Log w of the master, in an area that had these bytes and writes when the run began: its account is right of the log and of the area, and has the state's records.
pub record LogStands (s : State) (n : Master) (first : List ℕ) (older : List Write) (w : ℕ) (x : Account) (log : Log) (area : Area) : Type 0 where
  pub is : IsLogOf n w log
  pub ranges : IsInRange log
  pub accounts : Accounts s w x log
  pub began : BeganAt n first older x
  pub kept : IsKept x log area

-- ## Events

-- nothing that a disk shows has changed from s to t
pub record SameDisk (s t : State) : Type 0 where
  pub entries : (w : ℕ) → log_of w t.entries ≡ log_of w s.entries
  pub saved : (p : ℕ) → t.saved p ≡ s.saved p
  pub flushed : (w : ℕ) → t.flushed w ≡ s.flushed w
  pub head : (w : ℕ) → t.head w ≡ s.head w
  pub floor : t.floor ≡ s.floor

-- worker w has entered one record, and no log is flushed further
pub record Records (w : ℕ) (r : Entry) (s t : State) : Type 0 where
  pub entries : t.entries ≡ r ∷ s.entries
  pub kind : is_record r.kind ≡ true
  pub log : r.log ≡ w
  pub saved : (p : ℕ) → t.saved p ≡ s.saved p
  pub flushed : (v : ℕ) → t.flushed v ≡ s.flushed v
  pub head : (v : ℕ) → t.head v ≡ s.head v
  pub floor : t.floor ≡ s.floor

-- log w is flushed up to n, and nothing else has changed that a disk shows
pub record Flushes (w n : ℕ) (s t : State) : Type 0 where
  pub entries : t.entries ≡ s.entries
  pub saved : (p : ℕ) → t.saved p ≡ s.saved p
  pub here : t.flushed w ≡ n
  pub flushed : (v : ℕ) → (v ≡ w → ⊥) → t.flushed v ≡ s.flushed v
  pub head : (v : ℕ) → t.head v ≡ s.head v
  pub floor : t.floor ≡ s.floor
