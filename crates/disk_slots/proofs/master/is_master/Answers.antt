use Rattle.std.proofs.Common.{◌≡◌, ◌+◌, ◌-◌, get_or, sym, ◌∙◌, true≢false, arith}
use Rattle.disk_slots.specs.Inside.{IsWithin}
use Rattle.disk_slots.proofs.MasterLemmas.{heads-from, heads-to, rest-from, rest-to}
use Rattle.disk_slots.proofs.master.is_master.Goals as goal

pub returns-then-not-are_numbers : goal.returns-then-not-are_numbers
returns-then-not-are_numbers c =
    let ws = c.args.words.now in
    let w = get_or ws 6 0 in
    let limits : IsWithin ws = c.is_within.ensures.0 c.if-not-is_within.false in
    let few = limits.logs.1 in
    let e : 7 + w - 7 ≡ w = omega arith in
    ((λ never. absurd (cc)), (λ s. absurd (true≢false (sym (c.are_numbers.ensures.1 (heads-to ws (7 + w - 7) w c.told-words few e s.heads)) ∙ c.if-not-are_numbers.true))))

pub returns : goal.returns
returns c =
    let ws = c.args.words.now in
    let w = get_or ws 6 0 in
    let limits : IsWithin ws = c.is_within.ensures.0 c.if-not-is_within.false in
    let few = limits.logs.1 in
    let e : 7 + w - 7 ≡ w = omega arith in
    let z : 126 - (7 + w) + (7 + w) ≡ 126 = omega arith in
    let q = c.if-words.false in
    let g = c.if-words-2.false in (
      (λ h. record {
        limits = limits;
        parity = c.if-words-from.false ∙ c.from.ensures;
        sequence = omega arith;
        generation = omega arith;
        heads = heads-from ws (7 + w - 7) w c.told-words few e (c.are_numbers.ensures.0 c.if-not-are_numbers.false);
        rest = rest-from ws (126 - (7 + w)) (7 + w) c.told-words z (c.is_zero.ensures.0 h);
      }),
      (λ s. c.is_zero.ensures.1 (rest-to ws (126 - (7 + w)) (7 + w) c.told-words z s.rest)),
    )
