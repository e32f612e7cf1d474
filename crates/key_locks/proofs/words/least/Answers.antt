use Rattle.std.proofs.Common.{◌≡◌, ◌<◌, ◌≤◌, ℕ, ◌∙◌, true, sym, subst, arith}
use Rattle.lean_proto.specs.core_state.Needs.{is_reader}
use Rattle.key_locks.proofs.Masks.{no_reader, least_reader}
use Rattle.key_locks.proofs.words.least.Goals as goal

pub returns-then-readers-eq0 : goal.returns-then-readers-eq0
returns-then-readers-eq0 c n l lt are e = no_reader n l are (sym e ∙ c.if-readers-eq0.true)

pub returns-else-readers-eq0 : goal.returns-else-readers-eq0
returns-else-readers-eq0 c n l lt are e =
    let ne = c.if-readers-eq0.false in
    let some : 0 < c.args.readers = omega arith in
    subst (λ (b : ℕ). (is_reader b l ≡ true) × ((u : ℕ) → is_reader u l ≡ true → b ≤ u)) (sym c.from.ensures) (least_reader n c.args.readers l lt are e some)
