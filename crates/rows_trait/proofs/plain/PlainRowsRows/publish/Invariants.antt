use Rattle.std.proofs.Common.{◌+◌, [], ◌∷◌, ◌++◌}
use Rattle.rows_trait.specs.declared.view.Act.TheVariants.{Set}
use Rattle.rows_trait.specs.Inside.{after, first_of}
use Rattle.rows_trait.specs.Views.{after_all, held_at, without, settle}
use Rattle.rows_trait.proofs.plain.PlainRowsRows.publish.Given as goal

abbrev pub ghosts-turned : goal.ghosts-turned
ghosts-turned g a = let v = a.seat.now.view in record { which = let es = g.E.Names.names a.event.now 0 in after v [] es (Set a.row ((held_at v.held a.row).version + 2) ∷ v.steps) (settle v.given (after_all v.given (v.seen ++ [])) (without v.held a.row) (first_of es)) }
