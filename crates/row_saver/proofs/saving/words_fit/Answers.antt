use Rattle.row_saver.proofs.saving.words_fit.Goals as goal

pub returns : goal.returns
returns c = record { word = c.fits-words }
