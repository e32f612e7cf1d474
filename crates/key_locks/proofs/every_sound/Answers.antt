use Rattle.key_locks.proofs.Soundness as laws
use Rattle.key_locks.proofs.every_sound.Goals as goal

pub returns : goal.returns
returns c = laws.every_sound
