-- The records of logs in memory, as the entries of the model for which they stand.
use Rattle.std.specs.Prelude.{List, map}
use Rattle.disk_image.specs.image_model.Entries.{Entry}
use Rattle.log_index.specs.Items.{Item, newest_first}
use Rattle.disk_image.specs.Records as records
use Rattle.disk_image.specs.Runs.{Logged}

-- the entry for which an item stands
abbrev pub entry_of : Item → Entry
entry_of x = records.entry_of x.log x.said

-- with the place of its block
abbrev pub logged_of : Item → Logged
logged_of x = record { place = x.place; entry = entry_of x }

-- the entries of items in turn, the newest first
abbrev pub entries_of : List Item → List Entry
entries_of items = map entry_of (newest_first items)
