-- Words of private functions: how far a scan has come.
use Rattle.std.specs.Prelude.{◌≡◌, ◌⊎◌, ◌≤◌, ◌<◌, ◌-◌, ◌+◌, ◌++◌, ℕ, suc, List, ◌∷◌, map, length, Some, None}
use Rattle.map_model.specs.Lists.{Has}
use Rattle.disk_image.specs.image_model.Images.{IsFalling, gathered}
use Rattle.disk_image.specs.log_record.declared.record.Record.{Record}
use Rattle.disk_image.specs.log_block.Block.{Belongs}
use Rattle.log_index.specs.Items.{Item, items_of, newest_first}
use Rattle.disk_image.specs.disk_slots.declared.master.Master.{Master}
use Rattle.disk_image.specs.Blocks.{block_in}
use Rattle.disk_image.specs.Runs.{Block, Logged, run_in, logged_onto, entries_in, AreReadable}
use Rattle.disk_image.specs.Shown.{Areas, head_of, run_of, logged_in, image_by}
use Rattle.disk_image.specs.Breaks.{StandsAt}
use Rattle.recovery_scan.specs.Records.{entry_of, logged_of, entries_of}

-- records with the places of their blocks, the newest first
abbrev pub logged : List Item → List Logged
logged items = map logged_of (newest_first items)

-- ## Numbers that rise

-- two neighbours among items
pub record Neighbours (items : List Item) : Type 0 where
  pub older : List Item
  pub one : Item
  pub other : Item
  pub newer : List Item
  pub splits : items ≡ older ++ one ∷ other ∷ newer

-- the number at the place is above the one before it
abbrev pub IsAbove : ℕ → List Item → Type 0
IsAbove i items = (n : Neighbours items) → suc (length n.older) ≡ i → n.one.said.gsn < n.other.said.gsn

-- so are all from one place up to another, but for the first of the log, which begins at start
abbrev pub NoneIsLate : (start from to : ℕ) → List Item → Type 0
NoneIsLate start from to items = (n : Neighbours items) → start ≤ length n.older → from ≤ suc (length n.older) → suc (length n.older) < to → n.one.said.gsn < n.other.said.gsn

-- one of them is not
pub record IsLate (start from : ℕ) (items : List Item) : Type 0 where
  pub at : Neighbours items
  pub begins : start ≤ length at.older
  pub added : from ≤ suc (length at.older)
  pub late : at.other.said.gsn ≤ at.one.said.gsn

-- ## Blocks

-- the records of the block were added, and their numbers rise
pub record BlockAdded (start generation w number place : ℕ) (bytes : List ℕ) (old new : List Item) : Type 0 where
  pub belongs : Belongs generation w number bytes
  pub records : List Record
  pub is : block_in generation w number bytes ≡ Some records
  pub added : new ≡ old ++ items_of w place records
  pub rising : NoneIsLate start (length old) (length new) new

-- it belongs there, and has no records, or one whose number is late
pub record IsBadBlock (start generation w number place : ℕ) (bytes : List ℕ) (old : List Item) : Type 0 where
  pub belongs : Belongs generation w number bytes
  pub bad : (block_in generation w number bytes ≡ None) ⊎ ((records : List Record) × (block_in generation w number bytes ≡ Some records) × IsLate start (length old) (old ++ items_of w place records))

-- ## Logs

-- records of log w were added, of which this holds
pub record Joined (w : ℕ) (old new : List Item) (P : List Item → Type 0) : Type 0 where
  pub added : List Item
  pub is : new ≡ old ++ added
  pub of_log : (x : Item) → Has x added → x.log ≡ w
  pub holds : P added

-- the run from a block on
abbrev pub rest_of : Master → ℕ → List ℕ → ℕ → List Block
rest_of m w bytes count = run_in m.generation w m.blocks bytes (m.blocks - count) (head_of m w + count)

-- so many blocks of log w were read
pub record IsGoing (m : Master) (w : ℕ) (bytes : List ℕ) (count : ℕ) (found : List Item) : Type 0 where
  pub records : logged_in m w bytes ≡ logged_onto m.generation w m.blocks (logged found) (rest_of m w bytes count)
  pub readable : AreReadable m.generation w (rest_of m w bytes count) → AreReadable m.generation w (run_of m w bytes)
  pub has : (b : Block) → Has b (rest_of m w bytes count) → Has b (run_of m w bytes)
  pub falling : IsFalling (entries_in (logged found))

-- these are the records of log w, whose blocks are all readable, and whose numbers rise
pub record IsScan (m : Master) (w : ℕ) (area : Areas) (found : List Item) : Type 0 where
  pub readable : AreReadable m.generation w (run_of m w (area (suc w)))
  pub records : logged found ≡ logged_in m w (area (suc w))
  pub rising : IsFalling (entries_in (logged_in m w (area (suc w))))

-- these are the records of logs 1 to n, one log behind the other
pub record IsGathered (m : Master) (area : Areas) (n : ℕ) (items : List Item) : Type 0 where
  pub readable : (w : ℕ) → 0 < w → w ≤ n → AreReadable m.generation w (run_of m w (area (suc w)))
  pub rising : (w : ℕ) → 0 < w → w ≤ n → IsFalling ((image_by m area).log w)
  pub records : entries_of items ≡ gathered (image_by m area).log n
  pub stands : (x : Item) → Has x items → StandsAt m area x.log x.place (entry_of x)
