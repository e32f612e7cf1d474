use Rattle.std.proofs.Common.{rules, subst, sym, IfSome, IfNone, ◌≡◌, ℕ, ◌<◌, ◌^◌, Option}
use Rattle.std.specs.Fmt.{decimal}
use Rattle.lean_shell.specs.Words.{IsPlain}
use Rattle.lean_shell.proofs.NumberLemmas.{parsed, not_parsed, not_plain}
use Rattle.lean_shell.proofs.words.number.Goals as goal

pub returns-then-not-is_plain-clause-none : goal.returns-then-not-is_plain-clause-none
returns-then-not-is_plain-clause-none c =
    not_plain c.args.word.now (λ plain. search (rules, plain))

pub returns-clause-some : goal.returns-clause-some
returns-clause-some c =
    let plain : IsPlain c.args.word.now = search rules in
    subst (λ (o : Option ℕ). IfSome o (λ n. c.args.word.now ≡ decimal n)) (sym c.ok.ensures.value) (parsed c.args.word.now c.parse.result plain c.parse.ensures.value.0)

pub returns-clause-none : goal.returns-clause-none
returns-clause-none c =
    subst (λ (o : Option ℕ). IfNone o ((n : ℕ) → n < 2 ^ 64 → c.args.word.now ≡ decimal n → ⊥)) (sym c.ok.ensures.value) (not_parsed c.args.word.now c.parse.result c.parse.ensures.value.0)
