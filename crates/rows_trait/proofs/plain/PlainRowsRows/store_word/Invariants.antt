use Rattle.std.proofs.Common.{[], ◌∷◌}
use Rattle.rows_trait.specs.declared.view.Act.TheVariants.{Store}
use Rattle.rows_trait.specs.Inside.{after}
use Rattle.rows_trait.specs.Views.{write}
use Rattle.rows_trait.proofs.plain.PlainRowsRows.store_word.Given as goal

abbrev pub ghosts-turned : goal.ghosts-turned
ghosts-turned a = let v = a.seat.now.view in record { which = after v [] [] (Store a.row a.word a.found ∷ v.steps) (write v.held a.row a.word a.found) }
