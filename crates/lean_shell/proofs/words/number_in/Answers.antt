use Rattle.std.proofs.Common.{◌≡◌, arith}
use Rattle.lean_shell.proofs.NumberLemmas.{same_number}
use Rattle.lean_shell.proofs.words.number_in.Goals as goal

pub returns-then-n-from-clause-none : goal.returns-then-n-from-clause-none
returns-then-n-from-clause-none c = λ n other.
    let same : c.in_ok-n.n ≡ n = same_number c.args.word.now c.in_ok-n.n n c.args.from c.args.to (c.in_ok-n.ensures).fits (omega (arith, c.ranges.to.fits)) (c.in_ok-n.ensures).some other in
    omega (arith, same, other.least, c.if-n-from.true)

pub returns-then-n-to-clause-none : goal.returns-then-n-to-clause-none
returns-then-n-to-clause-none c = λ n other.
    let same : c.in_ok-n.n ≡ n = same_number c.args.word.now c.in_ok-n.n n c.args.from c.args.to (c.in_ok-n.ensures).fits (omega (arith, c.ranges.to.fits)) (c.in_ok-n.ensures).some other in
    omega (arith, same, other.most, c.if-n-to.true)
