use Rattle.std.proofs.Common.{◌≡◌, ◌++◌, ◌==◌, not, drop}
use Rattle.map_model.specs.Lists.{keep}
use Rattle.plain_core.proofs.effects.others.Given as goal

abbrev pub invariant-loop-reader : goal.invariant-loop-reader
invariant-loop-reader l = l.others.items ++ keep (λ r. not (r == l.worker)) (drop l.reader-index l.readers) ≡ keep (λ r. not (r == l.worker)) l.readers
