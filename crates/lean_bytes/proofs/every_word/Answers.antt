use Rattle.lean_bytes.proofs.NumberLemmas.{every_word}
use Rattle.lean_bytes.proofs.every_word.Goals as goal

pub returns : goal.returns
returns c = every_word
