-- Entries in memory, and the leaf's pairs.
use Rattle.std.specs.Prelude.{List, map}
use Rattle.page_model.specs.Pairs.{Pair}
use Rattle.mem_journal.specs.declared.entries.Entry.{Entry}

abbrev pub pair_of : Entry → Pair
pair_of x = record { key = x.key; word = x.word }

abbrev pub pairs_of : List Entry → List Pair
pairs_of xs = map pair_of xs
