use Rattle.std.proofs.Common.{◌≡◌, ◌==◌, not, drop}
use Rattle.map_model.specs.Lists.{any}
use Rattle.plain_core.proofs.needs.has_other.Given as goal

abbrev pub invariant-loop-reader : goal.invariant-loop-reader
invariant-loop-reader l = any (λ v. not (v == l.worker)) l.readers ≡ any (λ v. not (v == l.worker)) (drop l.reader-index l.readers)
