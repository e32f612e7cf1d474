use Rattle.std.proofs.Common.{[], ◌∷◌}
use Rattle.rows_trait.specs.declared.view.Act.TheVariants.{Turn}
use Rattle.rows_trait.specs.Inside.{after}
use Rattle.rows_trait.proofs.plain.PlainRowsRows.tick.Given as goal

abbrev pub ghosts-turned : goal.ghosts-turned
ghosts-turned g a = let v = a.seat.now.view in record { which = after v [] (g.E.Names.names a.event.now a.found) (Turn a.row a.word a.found ∷ v.steps) v.held }
