-- Words of private functions.
use Rattle.std.specs.Prelude.{◌≡◌, ◌<◌, ◌≤◌, ◌^◌, ◌⊎◌, ◌-◌, ℕ, suc, Bool, true, false, ◌&&◌, not, List, [], length, take, slice_index_or, if◌then◌else◌}
use Rattle.std.specs.Ordering.{nat_cmp}
use Rattle.std.specs.BTreeSet.{BTreeSet, contains}
use Rattle.map_model.specs.Lists.{Has, any}
use Rattle.page_model.specs.Page.{Page}
use Rattle.page_model.specs.Nodes.{Node, holds}
use Rattle.page_model.specs.Tree.{entry}
use Rattle.page_model.specs.Check.{page_ok}
use Rattle.page_model.specs.Redo.{is_some}
use Rattle.page_model.specs.Records.{no_record}
use Rattle.disk_image.specs.image_model.Entries as model
use Rattle.disk_image.specs.image_model.Entries.{Kind, Entry, is_write, touches}
use Rattle.disk_image.specs.image_model.Ends as ends
use Rattle.disk_image.specs.image_model.Redo.{redo, stands, passes, all_pass}
use Rattle.disk_image.specs.image_model.Undo.{set_in, undo_node}
use Rattle.disk_image.specs.Formats.{format_of}
use Rattle.node_tree.specs.Nodes.{nodes_of}
use Rattle.log_index.specs.Items.{Item}
use Rattle.record_redo.specs.Pages.{pages_of}
use Rattle.recovery_scan.specs.Records.{entry_of, entries_of}

-- ## Numbers of logs

-- the number in a row, which has that of log 1 first
abbrev pub number_in : List ℕ → ℕ → ℕ
number_in row w = slice_index_or row (w - 1) 0

-- the row has the greatest number of each log
pub record AreGreatest (z : List Entry) (row : List ℕ) : Type 0 where
  pub at : (w : ℕ) → 0 < w → w ≤ length row → number_in row w ≡ ends.greatest w z

-- the greatest of the floor and the numbers of records
pub record IsTop (floor : ℕ) (z : List Entry) (n : ℕ) : Type 0 where
  pub low : floor ≤ n
  pub each : (r : Entry) → Has r z → r.number ≤ n
  pub met : (n ≡ floor) ⊎ ((r : Entry) × Has r z × (n ≡ r.number))

-- ## Transactions

-- some record of the transaction
abbrev pub of_txn : (log txn : ℕ) → Entry
of_txn w t = record { kind = Kind.Change; log = w; txn = t; number = 0; key = 0; before = 0; after = 0; need = 0; refs = []; record_of = no_record }

-- the set of the log, of sets of which that of log 1 is the first, has the transaction
abbrev pub has_txn : List (BTreeSet ℕ) → (log txn : ℕ) → Bool
has_txn sets w t = contains nat_cmp (slice_index_or sets (w - 1) (record { keys = [] })) t

-- so many sets, and none has a transaction
pub record HasNone (logs : ℕ) (sets : List (BTreeSet ℕ)) : Type 0 where
  pub count : length sets ≡ logs
  pub none : (w t : ℕ) → has_txn sets w t ≡ false

-- the sets have the transactions that are ended
pub record AreEnded (logs far : ℕ) (z : List Entry) (sets : List (BTreeSet ℕ)) : Type 0 where
  pub at : (w t : ℕ) → 0 < w → w ≤ logs → has_txn sets w t ≡ ends.ended far z (of_txn w t)

-- ## Marks

-- a record names the page
abbrev pub is_named : List Entry → ℕ → Bool
is_named z p = any (λ r. touches p r) z

-- a record's key is one that the page, a leaf, may hold
abbrev pub is_leaf_of : List Entry → (ℕ → Node) → ℕ → Bool
is_leaf_of z node p = any (λ r. holds (node p) r.key) z

-- ## Redo

-- each record's mark says whether it counted
pub record AreMarks (page : ℕ → model.Contents) (items : List Item) (counted : List Bool) (upto : ℕ) : Type 0 where
  pub at : (k : ℕ) (x : Item) → k < upto → x ≡ slice_index_or items k x → slice_index_or counted k false ≡ stands (redo page (entries_of (take k items))).page (entry_of x)

-- the first records are redone
pub record IsRedone (before after : List Page) (items : List Item) (counted : List Bool) (upto : ℕ) : Type 0 where
  pub pages : pages_of after ≡ (redo (pages_of before) (entries_of (take upto items))).page
  pub pass : all_pass (format_of (length before)) (pages_of before) (entries_of (take upto items)) ≡ true
  pub marks : AreMarks (pages_of before) items counted upto

-- the record in the block at the place of the area is the first that does not pass
pub record FailsAt (before : List Page) (items : List Item) (a place : ℕ) : Type 0 where
  pub k : ℕ
  pub x : Item
  pub within : k < length items
  pub is : x ≡ slice_index_or items k x
  pub area_is : a ≡ suc x.log
  pub place_is : x.place ≡ place
  pub pass : all_pass (format_of (length before)) (pages_of before) (entries_of (take k items)) ≡ true
  pub fails : passes (format_of (length before)) (redo (pages_of before) (entries_of (take k items))).page (entry_of x) ≡ false

-- ## Undo

-- a write that counted, of a transaction that is not ended
abbrev pub lost_by : List (BTreeSet ℕ) → Bool → Item → Bool
lost_by ended counts x = is_write (entry_of x).kind && (counts && not (has_txn ended x.log x.said.txn))

-- each page stands at its number
pub record SameNumbers (before after : List Page) : Type 0 where
  pub at : (p : ℕ) → (pages_of after p).gsn ≡ (pages_of before p).gsn

-- these are the lost
pub record TellsLost (lost : Entry → Bool) (items : List Item) (counted : List Bool) (ended : List (BTreeSet ℕ)) : Type 0 where
  pub at : (k : ℕ) (x : Item) → k < length items → x ≡ slice_index_or items k x → lost (entry_of x) ≡ lost_by ended (slice_index_or counted k false) x

-- the words of the lost are ones of leaves
pub record AreWords (items : List Item) (counted : List Bool) : Type 0 where
  pub at : (k : ℕ) (x : Item) → k < length items → x ≡ slice_index_or items k x → slice_index_or counted k false ≡ true → (entry_of x).before ≤ 2 ^ 63

-- the key has an entry
abbrev pub has : List Page → ℕ → Bool
has pages k = is_some (entry (length pages) (nodes_of pages) k)

-- the page with the record's word set back, if that is to be
abbrev pub set_back : Bool → ℕ → ℕ → (ℕ → model.Contents) → ℕ → model.Contents
set_back lost key word page p = record (page p) { node = if lost then set_in key word (page p).node else (page p).node }

-- the last records are undone, and those before them are not
pub record IsUndone (start now : List Page) (items : List Item) (counted : List Bool) (ended : List (BTreeSet ℕ)) (left : ℕ) : Type 0 where
  pub pages : (lost : Entry → Bool) → TellsLost lost items counted ended → (p : ℕ) →
      record (pages_of now p) { node = undo_node lost (entries_of (take left items)) (pages_of now p).node } ≡ record (pages_of start p) { node = undo_node lost (entries_of items) (pages_of start p).node }
  pub has_each : (k : ℕ) (x : Item) → left ≤ k → k < length items → x ≡ slice_index_or items k x → lost_by ended (slice_index_or counted k false) x ≡ true → has start (entry_of x).key ≡ true

-- the record in the block at the place of the area is lost, and its key has no entry
pub record LacksAt (start : List Page) (items : List Item) (counted : List Bool) (ended : List (BTreeSet ℕ)) (a place : ℕ) : Type 0 where
  pub k : ℕ
  pub x : Item
  pub within : k < length items
  pub is : x ≡ slice_index_or items k x
  pub area_is : a ≡ suc x.log
  pub place_is : x.place ≡ place
  pub is_lost : lost_by ended (slice_index_or counted k false) x ≡ true
  pub none : has start (entry_of x).key ≡ false

-- ## The tree and the base number

-- the page breaks the tree
pub record BreaksAt (pages : List Page) (page : ℕ) : Type 0 where
  pub within : page < length pages
  pub fails : page_ok (format_of (length pages)) (nodes_of pages) page ≡ false

-- the greatest of a number and the numbers of pages
pub record IsAtop (top : ℕ) (pages : List Page) (n : ℕ) : Type 0 where
  pub low : top ≤ n
  pub each : (p : ℕ) → p < length pages → (pages_of pages p).gsn ≤ n
  pub met : (n ≡ top) ⊎ ((p : ℕ) × (p < length pages) × (n ≡ (pages_of pages p).gsn))
