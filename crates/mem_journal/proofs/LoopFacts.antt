-- What the loops keep.
use Rattle.std.proofs.Common.{◌≡◌, ℕ, Bool, true, false, List, ◌++◌}
use Rattle.page_model.specs.Pairs as pairs
use Rattle.mem_journal.specs.declared.entries.Entry.{Entry}
use Rattle.mem_journal.specs.Entries.{pairs_of}

-- the entries so far, with those of the rest, are all
abbrev pub HasMade : List Entry → List pairs.Pair → List pairs.Pair → Type 0
HasMade so_far rest whole = pairs_of so_far ++ rest ≡ whole

-- the rest, with the entry put in where that is not done
abbrev pub put_in : Bool → ℕ → ℕ → List pairs.Pair → List pairs.Pair
put_in true k w xs = xs
put_in false k w xs = pairs.put k w xs
