use Rattle.std.proofs.Common.{◌∷◌}
use Rattle.session_state.proofs.work.WorkDraw.stage.Given as goal

abbrev pub ghosts-one_more : goal.ghosts-one_more
ghosts-one_more g a = record { which = a.entry.now ∷ a.before.now.list }
