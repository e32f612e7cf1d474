use Rattle.page_provider.proofs.looking.words_fit.Goals as goal

pub returns : goal.returns
returns c = record { word = c.fits-words }
