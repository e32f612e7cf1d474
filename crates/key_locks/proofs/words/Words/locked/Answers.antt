use Rattle.std.proofs.Common.{◌≡◌, ◌∙◌, ℕ, sym, subst, [], ◌∷◌}
use Rattle.lean_proto.specs.core_state.Steps as core
use Rattle.lean_proto.specs.row_words.Words.{lock_words}
use Rattle.key_locks.specs.declared.mode.Mode.{Mode}
use Rattle.key_locks.specs.Rows.{core_mode}
use Rattle.key_locks.proofs.Sayings.{holder_is, not_held, locked_alone}
use Rattle.key_locks.proofs.words.Words.locked.Goals as goal

pub returns-in-Alone : goal.returns-in-Alone
returns-in-Alone c n o lt w s =
    let x = c.args.self.now in
    let off = not_held o.holder x.holder c.args.worker (holder_is n o x s) (λ e. c.if-self-word.false (e ∙ sym c.from-word.ensures)) in
    subst (λ (y : ℕ × Mode). (0 ∷ y.0 ∷ x.number ∷ x.log ∷ x.ends ∷ []) ≡ lock_words n (core.locked o c.args.worker (core_mode y.1))) (λ i. (sym c.from-word.ensures i, sym c.in-Alone.is i)) (locked_alone n o x c.args.worker off s)
