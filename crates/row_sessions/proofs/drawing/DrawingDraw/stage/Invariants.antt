use Rattle.std.proofs.Common.{◌∷◌}
use Rattle.row_sessions.proofs.drawing.DrawingDraw.stage.Given as goal

abbrev pub ghosts-one_more : goal.ghosts-one_more
ghosts-one_more a = record { which = a.entry.now ∷ a.before.now.list }
