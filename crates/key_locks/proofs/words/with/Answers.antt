use Rattle.key_locks.proofs.Masks.{mask_with}
use Rattle.key_locks.proofs.words.with.Goals as goal

pub returns : goal.returns
returns c n l lt is e = mask_with n c.args.worker c.args.readers l lt c.requires is e
