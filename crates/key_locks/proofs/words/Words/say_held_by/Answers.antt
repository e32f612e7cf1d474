use Rattle.std.proofs.Common.{◌≡◌, ◌∙◌, ◌==◌, ◌||◌, Bool, true, false, cond, refl, sym, ap}
use Rattle.std.specs.Int.{bit_at}
use Rattle.lean_proto.specs.core_state.Needs.{is_reader}
use Rattle.key_locks.proofs.Masks.{bit_in}
use Rattle.key_locks.proofs.Sayings.{readers_is, holder_is, not_held}
use Rattle.key_locks.proofs.words.Words.say_held_by.Goals as goal

bit_says : (b : Bool) → (cond b 1 0 == 1) ≡ b
bit_says true = refl
bit_says false = refl

pub returns-else-self-from : goal.returns-else-self-from
returns-else-self-from c n o w s =
    let x = c.args.self.now in
    let bit = ap (λ m. bit_at m c.args.worker) (readers_is n o x s) ∙ bit_in n o.readers c.args.worker w.one w.among in
    let off = not_held o.holder x.holder c.args.worker (holder_is n o x s) (λ e. c.if-self-from.false (e ∙ sym c.from.ensures)) in
    ap (λ y. y == 1) bit ∙ (bit_says (is_reader c.args.worker o.readers) ∙ ap (λ b. b || is_reader c.args.worker o.readers) (sym off))
