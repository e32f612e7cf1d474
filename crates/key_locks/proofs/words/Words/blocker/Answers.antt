use Rattle.std.proofs.Common.{◌≡◌, sym, subst, MatchOption, true}
use Rattle.lean_proto.specs.core_state.Needs.{may_hold}
use Rattle.key_locks.specs.declared.mode.Mode.{Mode}
use Rattle.key_locks.specs.Rows.{IsBlocking, core_mode}
use Rattle.key_locks.specs.Inside.{others}
use Rattle.key_locks.proofs.Sayings.{readers_is, holder_is, none_holds, may_share, first_of, others_are}
use Rattle.key_locks.proofs.words.Words.blocker.Goals as goal

pub returns-in-Shared : goal.returns-in-Shared
returns-in-Shared c n o lt w is s =
    let none = none_holds n o c.args.self.now.holder is (holder_is n o c.args.self.now s) c.if-self-ne0.false in
    subst (λ (m : Mode). may_hold o c.args.worker (core_mode m) ≡ true) (sym c.in-Shared.is) (may_share o c.args.worker none)

pub returns-in-Alone : goal.returns-in-Alone
returns-in-Alone c n o lt w is s =
    let x = c.args.self.now in
    let none = none_holds n o x.holder is (holder_is n o x s) c.if-self-ne0.false in
    let without = c.without.ensures n o.readers lt (readers_is n o x s) in
    let least = c.least.ensures n (others c.args.worker o.readers) lt (others_are n o c.args.worker is) without in
    subst (λ (m : Mode). MatchOption c.least.result (may_hold o c.args.worker (core_mode m) ≡ true) (λ b. IsBlocking o c.args.worker (core_mode m) b)) (sym c.in-Alone.is) (first_of n o c.args.worker c.least.result none least)
