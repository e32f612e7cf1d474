-- Seals have sixteen bytes.
use Rattle.std.proofs.Common.{◌≡◌, ℕ, ◌++◌, List, length, arith}
use Rattle.std.proofs.lemmas.List.{length-take-le}
use Rattle.sha2.specs.Sha256.{sha256}
use Rattle.sha2.proofs.Facts256.{length-sha256}
use Rattle.lean_bytes.specs.Seals.{seal_of}

pub length-seal_of : (tag bytes : List ℕ) → length (seal_of tag bytes) ≡ 16
unfolding seal_of
length-seal_of tag bytes = length-take-le 16 (sha256 (tag ++ bytes)) (let l = length-sha256 (tag ++ bytes) in omega arith)
