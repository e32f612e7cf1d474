use Rattle.std.proofs.Common.{◌∙◌}
use Rattle.row_saver.proofs.saver.RowSaverSaver.frames.Goals as goal

pub returns-clause-fits : goal.returns-clause-fits
returns-clause-fits g c = λ o opens. opens.frames ∙ c.requires.ready.1.seated.sized.given
