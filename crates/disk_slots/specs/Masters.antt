-- A master slot: the words of a master, and a seal over them.
use Rattle.std.specs.Prelude.{◌≡◌, ℕ, ◌-◌, ◌%◌, ◌^◌, ◌<◌, ◌≤◌, List, ◌∷◌, ◌++◌, length, slice_index, replicate, codes}
use Rattle.disk_slots.specs.declared.master.Master.{Master}
use Rattle.disk_slots.specs.Slots.{slot_of}

-- the format's number, the numbers of a master, the heads of its logs, then zeros up to 126 words
abbrev pub master_words : Master → List ℕ
master_words m = 1 ∷ m.sequence ∷ m.generation ∷ m.floor ∷ m.pages ∷ m.blocks ∷ length m.heads ∷ (m.heads ++ replicate (119 - length m.heads) 0)

-- the bytes of a master's slot
unfoldable pub master_slot : Master → List ℕ
master_slot m = slot_of (codes "LEANMAST") (master_words m)

-- the masters of slot n
pub record IsMaster (n : ℕ) (m : Master) : Type 0 where
  pub pages : (16 ≤ m.pages) × (m.pages ≤ 65536)
  pub blocks : (64 ≤ m.blocks) × (m.blocks ≤ 4096)
  pub logs : (1 ≤ length m.heads) × (length m.heads ≤ 16)
  pub parity : m.sequence % 2 ≡ n
  pub sequence : m.sequence < 2 ^ 63
  pub generation : m.generation < 2 ^ 63
  pub floor : m.floor < 2 ^ 64
  pub heads : (k : ℕ) → k < length m.heads → slice_index m.heads k < 2 ^ 63

-- the bytes are slot n with this master
pub record IsMasterSlot (n : ℕ) (bytes : List ℕ) (m : Master) : Type 0 where
  pub holds : IsMaster n m
  pub spelled : bytes ≡ master_slot m
