use Rattle.std.proofs.Common.{nat_eq}
use Rattle.rows_trait.specs.Inside.{row_cells, tried}
use Rattle.rows_trait.specs.Plain.{sizes}
use Rattle.rows_trait.proofs.plain.PlainRowsRows.try_latch.Given as goal

abbrev pub ghosts-taken : goal.ghosts-taken
ghosts-taken g a = let r = a.rows.now in record { which = tried a.seat.now.view a.row a.version a.found (row_cells (sizes r.frames r.locks r.workers) r.words.items a.row) (g.E.Names.names a.event.now a.found) (nat_eq a.found a.version) }
