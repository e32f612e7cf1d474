use Rattle.lean_bytes.specs.Numbers.{number_bytes, words_bytes}
use Rattle.lean_bytes.proofs.numbers.put_words.Goals as goal

pub returns : goal.returns
unfolding number_bytes words_bytes
returns c = c.write_u64_into.ensures
