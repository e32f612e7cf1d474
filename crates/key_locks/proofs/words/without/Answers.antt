use Rattle.key_locks.proofs.Masks.{mask_without}
use Rattle.key_locks.proofs.words.without.Goals as goal

pub returns : goal.returns
returns c n l lt e = mask_without n c.args.worker c.args.readers l lt c.requires e
