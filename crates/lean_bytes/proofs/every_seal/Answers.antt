use Rattle.lean_bytes.proofs.SealLemmas.{length-seal_of}
use Rattle.lean_bytes.proofs.every_seal.Goals as goal

pub returns : goal.returns
returns c = length-seal_of
