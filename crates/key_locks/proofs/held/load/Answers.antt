use Rattle.key_locks.proofs.Holding.{five_loads, latch_held, latch_said}
use Rattle.key_locks.proofs.held.load.Goals as goal

pub returns-clause-stayed : goal.returns-clause-stayed
returns-clause-stayed g c = (five_loads c.requires.held c.load_word-readers.ensures.step c.load_word-readers.ensures.shape c.load_word-holder.ensures.step c.load_word-holder.ensures.shape c.load_word-number.ensures.step c.load_word-number.ensures.shape c.load_word-log.ensures.step c.load_word-log.ensures.shape c.load_word-ends.ensures.step).loads.stayed

pub returns-clause-held : goal.returns-clause-held
returns-clause-held g c = latch_held c.requires.held (five_loads c.requires.held c.load_word-readers.ensures.step c.load_word-readers.ensures.shape c.load_word-holder.ensures.step c.load_word-holder.ensures.shape c.load_word-number.ensures.step c.load_word-number.ensures.shape c.load_word-log.ensures.step c.load_word-log.ensures.shape c.load_word-ends.ensures.step)

pub returns-clause-said : goal.returns-clause-said
returns-clause-said g c = latch_said c.requires.at c.requires.held (five_loads c.requires.held c.load_word-readers.ensures.step c.load_word-readers.ensures.shape c.load_word-holder.ensures.step c.load_word-holder.ensures.shape c.load_word-number.ensures.step c.load_word-number.ensures.shape c.load_word-log.ensures.step c.load_word-log.ensures.shape c.load_word-ends.ensures.step) c.load_word-ends.ensures.step
