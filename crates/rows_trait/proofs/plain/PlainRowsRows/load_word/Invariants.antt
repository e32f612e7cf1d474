use Rattle.std.proofs.Common.{[], ◌∷◌}
use Rattle.rows_trait.specs.declared.view.Act.TheVariants.{Load}
use Rattle.rows_trait.specs.Inside.{after}
use Rattle.rows_trait.proofs.plain.PlainRowsRows.load_word.Given as goal

abbrev pub ghosts-turned : goal.ghosts-turned
ghosts-turned a = let v = a.seat.now.view in record { which = after v [] [] (Load a.row a.word a.found ∷ v.steps) v.held }
