use Rattle.held_rows.proofs.Storing.{wrote_one}
use Rattle.held_rows.proofs.words.set_word.Goals as goal

pub returns-clause-wrote : goal.returns-clause-wrote
returns-clause-wrote g c = wrote_one c.requires.held.0 c.set.ensures.step
