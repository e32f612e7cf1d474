use Rattle.rows_trait.specs.Views.{first_plain}
use Rattle.row_opening.specs.Rooted.{rooted_of}
use Rattle.row_opening.proofs.open_root.Given as goal

abbrev pub ghosts-seat_of : goal.ghosts-seat_of
ghosts-seat_of g a = let r = a.rows.now in record { which = first_plain (rooted_of g.F.Faith.faithful r.frames r.locks r.workers a.base a.pages.now) }
