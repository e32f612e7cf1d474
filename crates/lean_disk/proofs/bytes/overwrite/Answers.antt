use Rattle.std.proofs.Common.{vec_len, ◌≡◌, ◌∙◌, ℕ, ◌+◌, ◌-◌, ◌++◌, max, length, take, drop, replicate, ap, arith, length-append, length-drop}
use Rattle.std.proofs.lemmas.List.{take_at, length-take, length-replicate}
use Rattle.lean_disk.proofs.ByteLemmas.{put_in_place}
use Rattle.lean_disk.proofs.bytes.overwrite.Goals as goal

pub returns-clause-after : goal.returns-clause-after
returns-clause-after c =
    let size = c.max-size.result in
    let old = c.args.list.now.items in
    let full = c.deref_mut.result.now in
    let size_is : size ≡ max (length old) (c.args.at + length c.args.bytes.now) = omega arith in
    let same : vec_len c.args.list.now ≡ length old = omega arith in
    let filled : full ≡ take size old ++ replicate (size - length old) 0 = c.deref_mut.ensures.value ∙ c.in_ok-resize.ensures.items ∙ ap (λ (n : ℕ). take size old ++ replicate (size - n) 0) same in
    let len_is : c.resize.new.self.len ≡ size = omega (arith, c.in_ok-resize.ensures.len) in
    let full_len : length full ≡ size = omega (arith, size_is, ap length filled, length-append {A = ℕ}, length-take {A = ℕ}, length-replicate {A = ℕ}) in
    let whole : length c.place.new.into ≡ c.resize.new.self.len = omega (arith, size_is, len_is, full_len, ap length c.place.ensures, length-append {A = ℕ}, length-take {A = ℕ}, length-drop {A = ℕ}) in
    take_at c.place.new.into (drop (length c.place.new.into) c.resize.new.self.items) c.resize.new.self.len whole
    ∙ put_in_place c.args.at size c.args.bytes.now old full c.place.new.into size_is filled c.place.ensures
