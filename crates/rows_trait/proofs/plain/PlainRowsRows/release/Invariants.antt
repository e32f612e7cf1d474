use Rattle.std.proofs.Common.{◌+◌, [], ◌∷◌, cond}
use Rattle.row_words.specs.declared.event.Event.TheVariants.{Miss}
use Rattle.rows_trait.specs.declared.view.Act.TheVariants.{Set}
use Rattle.rows_trait.specs.Inside.{after}
use Rattle.rows_trait.specs.Views.{held_at, without}
use Rattle.rows_trait.proofs.plain.PlainRowsRows.release.Given as goal

abbrev pub ghosts-turned : goal.ghosts-turned
ghosts-turned a = let v = a.seat.now.view in record { which = after v [] (cond (held_at v.held a.row).done [] (Miss v.actor ∷ [])) (Set a.row ((held_at v.held a.row).version + 2) ∷ v.steps) (without v.held a.row) }
