use Rattle.std.proofs.Common.{◌≡◌, ◌<◌, ◌≤◌, ◌+◌, ◌-◌, true, false, ℕ, List, length, drop, refl, arith}
use Rattle.log_block.specs.Block.{Spells}
use Rattle.log_block.proofs.BlockLemmas.{parts_of, zeros_are, spells_belongs, parts_join, assembled}
use Rattle.log_block.proofs.block.open_block.Goals as goal

pub returns-then-not-belongs-clause-every : goal.returns-then-not-belongs-clause-every
returns-then-not-belongs-clause-every c count payload is =
    let t : c.belongs.result ≡ true = c.belongs.ensures.1 (spells_belongs c.args.generation c.args.log c.args.block count c.args.bytes.now payload (omega arith) (omega arith) (omega arith) is) in
    let f : c.belongs.result ≡ false = c.if-not-belongs.true in
    cc

too_long : (c : goal.Then-header-gt-PAYLOAD) (count : ℕ) (payload : List ℕ) → Spells c.args.generation c.args.log c.args.block c.args.bytes.now count payload → ⊥
too_long c count payload is =
    let h = c.split_header.result.0 in
    let e = c.split_header.ensures in
    let p = parts_of c.args.generation c.args.log c.args.block h.size h.count h.generation h.log h.block count c.args.bytes.now c.split_header.result.1.now payload
    (omega arith) (omega arith) (omega arith) e.generation e.log e.block e.size e.count e.prefix is in
    let size : h.size ≡ length payload = p.size in
    let room : length payload ≤ 2000 = is.room in
    let over : 2000 < h.size = c.if-header-gt-PAYLOAD.true in
    omega arith

pub returns-then-header-gt-PAYLOAD-clause-every : goal.returns-then-header-gt-PAYLOAD-clause-every
returns-then-header-gt-PAYLOAD-clause-every c count payload is = absurd (too_long c count payload is)

pub returns-then-header-gt-PAYLOAD-clause-cause_malformed : goal.returns-then-header-gt-PAYLOAD-clause-cause_malformed
returns-then-header-gt-PAYLOAD-clause-cause_malformed c same = (c.belongs.ensures.0 c.if-not-belongs.false, too_long c)

not_zeros : (c : goal.Then-not-is_zero) (count : ℕ) (payload : List ℕ) → Spells c.args.generation c.args.log c.args.block c.args.bytes.now count payload → ⊥
not_zeros c count payload is =
    let h = c.split_header.result.0 in
    let e = c.split_header.ensures in
    let rest : List ℕ = c.split_header.result.1.now in
    let p = parts_of c.args.generation c.args.log c.args.block h.size h.count h.generation h.log h.block count c.args.bytes.now rest payload
    (omega arith) (omega arith) (omega arith) e.generation e.log e.block e.size e.count e.prefix is in
    let whole : length c.args.bytes.now ≡ 2048 = (c.belongs.ensures.0 c.if-not-belongs.false).sealed.whole in
    let long : length rest + 32 ≡ length c.args.bytes.now = e.rest in
    let z = zeros_are payload count h.size h.count (length rest - 16) rest c.split_at.result.0.now c.split_at-2.result.1.now is.room (omega arith) p c.split_at.ensures.front c.split_at-2.ensures.back in
    let t : c.is_zero.result ≡ true = c.is_zero.ensures.1 z in
    let f : c.is_zero.result ≡ false = c.if-not-is_zero.true in
    cc

pub returns-then-not-is_zero-clause-every : goal.returns-then-not-is_zero-clause-every
returns-then-not-is_zero-clause-every c count payload is = absurd (not_zeros c count payload is)

pub returns-then-not-is_zero-clause-cause_malformed : goal.returns-then-not-is_zero-clause-cause_malformed
returns-then-not-is_zero-clause-cause_malformed c same = (c.belongs.ensures.0 c.if-not-belongs.false, not_zeros c)

pub returns-clause-answer : goal.returns-clause-answer
returns-clause-answer c =
    let h = c.split_header.result.0 in
    let e = c.split_header.ensures in
    let rest : List ℕ = c.split_header.result.1.now in
    let room : List ℕ = c.split_at.result.0.now in
    let payload : List ℕ = c.split_at-2.result.0.now in
    let zeros : List ℕ = c.split_at-2.result.1.now in
    let is = c.belongs.ensures.0 c.if-not-belongs.false in
    let whole : length c.args.bytes.now ≡ 2048 = is.sealed.whole in
    let long : length rest + 32 ≡ length c.args.bytes.now = e.rest in
    let room_size : length room ≡ length rest - 16 = c.split_at.ensures.front_len in
    let most : h.size ≤ 2000 = c.if-header-gt-PAYLOAD.false in
    assembled c.args.generation c.args.log c.args.block h.size h.count h.generation h.log h.block c.args.bytes.now rest room (drop (length rest - 16) rest) payload zeros
    e.count e.generation e.log e.block e.prefix long (parts_join (length rest - 16) rest room (drop (length rest - 16) rest) c.split_at.ensures.front refl)
    (omega arith) (parts_join h.size room payload zeros c.split_at-2.ensures.front c.split_at-2.ensures.back) c.split_at-2.ensures.front_len most
    (c.is_zero.ensures.0 c.if-not-is_zero.false) is
