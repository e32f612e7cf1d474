use Rattle.std.proofs.Common.{[], ◌∷◌}
use Rattle.rows_trait.specs.Inside.{after, look_at}
use Rattle.rows_trait.proofs.plain.PlainRowsRows.load_latch.Given as goal

abbrev pub ghosts-turned : goal.ghosts-turned
ghosts-turned g a = let v = a.seat.now.view in record { which = after v [] (g.E.Names.names a.event.now a.found) (look_at a.row a.found v [] (g.E.Names.names a.event.now a.found) ∷ v.steps) v.held }
