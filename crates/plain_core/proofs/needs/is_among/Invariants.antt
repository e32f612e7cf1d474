use Rattle.std.proofs.Common.{◌≡◌, ◌==◌, drop}
use Rattle.map_model.specs.Lists.{any}
use Rattle.plain_core.proofs.needs.is_among.Given as goal

abbrev pub invariant-loop-reader : goal.invariant-loop-reader
invariant-loop-reader l = any (λ v. v == l.worker) l.readers ≡ any (λ v. v == l.worker) (drop l.reader-index l.readers)
