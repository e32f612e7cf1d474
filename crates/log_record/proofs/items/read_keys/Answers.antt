use Rattle.std.proofs.Common.{◌≡◌, ◌+◌, ◌*◌, ℕ, length, ap, sym, subst, ◌∙◌, arith}
use Rattle.std.specs.Prelude.{replicate}
use Rattle.log_record.specs.Inside.{KeysStand}
use Rattle.log_record.proofs.ItemLemmas.{places, keys_stand, no_keys_short}
use Rattle.log_record.proofs.items.read_keys.Goals as goal

pub returns-then-rest-number-clause-cause : goal.returns-then-rest-number-clause-cause
returns-then-rest-number-clause-cause c ps rest f e = no_keys_short c.args.bytes.now c.split_byte-count.result.1.now rest c.split_byte-count.result.0 ps c.split_byte-count.ensures.prefix f e c.if-rest-number.true

pub returns-clause-answer : goal.returns-clause-answer
returns-clause-answer c =
    let count = c.split_byte-count.result.0 in
    let old = c.args.into.now.keys in
    let all : length old ≡ 60 = omega arith in
    let p = places count old c.fill_keys.new.keys c.clear_keys.new.keys all c.if-number-gt-MOST.false c.fill_keys.auto.keys in
    subst (λ zs. KeysStand c.args.bytes.now (record { count = count; keys = zs }) (1 + 8 * count)) (sym p.is)
    (keys_stand c.args.bytes.now c.split_byte-count.result.1.now count c.fill_keys.new.keys c.clear_keys.new.keys c.split_byte-count.ensures.prefix p.some c.if-number-gt-MOST.false
    (c.clear_keys.ensures ∙ ap (λ (m : ℕ). replicate m 0) p.others) c.fill_keys.ensures)
