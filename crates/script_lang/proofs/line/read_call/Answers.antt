use Rattle.std.proofs.Common.{◌∷◌, List, ℕ, codes, sym, refl, ap, ◌∙◌, length, length-append, arith}
use Rattle.script_lang.proofs.LineLemmas.{begins_so, no_numbers, no_lone_verb}
use Rattle.script_lang.proofs.line.read_call.Goals as goal

pub returns-then-words-lt4 : goal.returns-then-words-lt4
returns-then-words-lt4 c =
    let ws : List ℕ = c.args.words.now in
    sym (no_numbers ws (λ more e. omega (arith, ap length e, length-append (codes "get ") more)) (λ more e. omega (arith, ap length e, length-append (codes "put ") more))
    (λ more e. omega (arith, ap length e, length-append (codes "del ") more)) (λ more e. omega (arith, ap length e, length-append (codes "scan ") more))
    ∙ no_lone_verb ws (λ e. omega (arith, ap length e)) (λ e. omega (arith, ap length e)) (λ e. omega (arith, ap length e)))

pub returns : goal.returns
returns c =
    let ws : List ℕ = c.args.words.now in
    let front : List ℕ = c.split_at.result.0.now in
    c.read_lone_verb.ensures
    ∙ sym (no_numbers ws (begins_so (codes "get ") front ws refl c.split_at.ensures.front (sym c.is_verb.ensures ∙ c.if-is_verb.false))
    (begins_so (codes "put ") front ws refl c.split_at.ensures.front (sym c.is_verb-2.ensures ∙ c.if-is_verb-2.false))
    (begins_so (codes "del ") front ws refl c.split_at.ensures.front (sym c.is_verb-3.ensures ∙ c.if-is_verb-3.false))
    (λ more e. begins_so (codes "scan") front ws refl c.split_at.ensures.front (sym c.is_verb-4.ensures ∙ c.if-is_verb-4.false) (32 ∷ more) e))
