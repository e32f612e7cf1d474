-- An image, the rules that it may break, and the map and the transactions that it stands for.
use Rattle.std.specs.Prelude.{◌≡◌, ◌<◌, ◌≤◌, ℕ, zero, suc, Bool, true, false, List, [], ◌∷◌, ◌++◌, Option, Some, None}
use Rattle.map_model.specs.Lists.{Has, in_order}
use Rattle.map_model.specs.Maps.{Map}
use Rattle.map_model.specs.Journals.{Name}
use Rattle.page_model.specs.Nodes.{Format, free}
use Rattle.page_model.specs.Tree.{IsTree, entry, value_of}
use Rattle.page_model.specs.Redo.{is_some}
use Rattle.image_model.specs.Entries.{Entry, Contents, earlier}
use Rattle.image_model.specs.Ends.{reach, winners, losers}
use Rattle.image_model.specs.Redo.{Redone, redo, all_pass}
use Rattle.image_model.specs.Undo.{is_lost, undo, undo_node, nodes_of, values}

-- An image of the disk: its master's floor, the records of each log's longest run, the newest first, and the base of each
-- page, where it has one. Logs are 1 to `logs`.
pub record Image : Type 0 where
  pub format : Format
  pub logs : ℕ
  pub floor : ℕ
  pub log : ℕ → List Entry
  pub base : ℕ → Option Contents

-- the logs 1 to n, one behind another
abbrev pub gathered : (ℕ → List Entry) → ℕ → List Entry
gathered log zero = []
gathered log (suc n) = log (suc n) ++ gathered log n

abbrev pub found : Image → List Entry
found i = gathered i.log i.logs

-- by number, then by log, the last first
abbrev pub sorted : Image → List Entry
sorted i = in_order earlier (found i)

abbrev pub has_base : Option Contents → Bool
has_base (Some v) = true
has_base None = false

abbrev pub page_or : Option Contents → Contents
page_or (Some v) = v
page_or None = record { gsn = 0; last = 0; node = free }

abbrev pub bases : Image → ℕ → Contents
bases i p = page_or (i.base p)

abbrev pub redone : Image → Redone
redone i = redo (bases i) (sorted i)

abbrev pub lost : Image → Entry → Bool
lost i = is_lost i.logs i.floor (found i) (redone i)

-- each key's word after redo and undo; an absent key has a tombstone's
abbrev pub recovered : Image → ℕ → ℕ
recovered i = undo (lost i) (sorted i) (values i.format (redone i))

abbrev pub map_of : Image → Map
map_of i k = value_of i.format (Some (recovered i k))

abbrev pub won_by : Image → List Name
won_by i = winners (reach i.logs i.floor (found i)) (found i)

abbrev pub lost_by : Image → List Name
lost_by i = losers (reach i.logs i.floor (found i)) (found i)

-- each page after redo and undo, with the number and the log that redo left
abbrev pub recovered_page : Image → ℕ → Contents
recovered_page i p = record ((redone i).page p) { node = undo_node (lost i) (sorted i) ((redone i).page p).node }

-- ## Rules

-- numbers rise strictly in a log: the newest is above those behind it
abbrev pub IsFalling : List Entry → Type 0
IsFalling [] = Unit {0}
IsFalling (r ∷ z) = IsFalling z × ((x : Entry) → Has x z → x.number < r.number)

-- the key has an entry in the pages that redo leaves
abbrev pub has_entry : Image → ℕ → Bool
has_entry i k = is_some (entry i.format.pages (nodes_of (redone i)) k)

-- No rule is broken: each page has a base, numbers rise in each log, each record names pages that there are and can be
-- done if it counts, the pages that redo leaves are a tree, and each key that is put back has an entry.
pub record IsSound (i : Image) : Type 0 where
  pub whole : (p : ℕ) → p < i.format.pages → has_base (i.base p) ≡ true
  pub rising : (w : ℕ) → 0 < w → w ≤ i.logs → IsFalling (i.log w)
  pub done : all_pass i.format (bases i) (sorted i) ≡ true
  pub tree : IsTree i.format (nodes_of (redone i))
  pub entries : (r : Entry) → Has r (sorted i) → lost i r ≡ true → has_entry i r.key ≡ true

-- The image stands for a map and its winners.
pub record StandsFor (i : Image) (m : Map) (w : List Name) : Type 0 where
  pub sound : IsSound i
  pub map : (k : ℕ) → m k ≡ map_of i k
  pub won : w ≡ won_by i
