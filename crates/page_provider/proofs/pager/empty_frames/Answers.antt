use Rattle.std.proofs.Common.{◌≡◌, ◌++◌, ◌∷◌, [], ap, inl, inr, refl, ◌∙◌, arith, length, length-append, subst, suc, ◌-◌, ◌+◌, sym}
use Rattle.page_provider.specs.Fresh.{down_to_one}
use Rattle.page_provider.proofs.Beginning.{down_all, down_more}
use Rattle.page_provider.proofs.pager.empty_frames.Goals as goal

pub loop-i-init : goal.loop-i-init
loop-i-init c =
    let made = c.in_ok-empty.ensures in
    record {
      rest = let e : suc c.args.frames - 1 ≡ c.args.frames = omega arith in sym (ap (λ ys. ys ++ down_to_one (suc c.args.frames - 1)) made.items ∙ ap down_to_one e);
      count = let n : length c.in_ok-empty.empty.items ≡ 0 = ap length made.items in omega arith;
      top = inr refl;
      room = let k = made.capacity in omega arith;
    }

pub push_reserved-requires : goal.push_reserved-requires
push_reserved-requires c = let i = c.loop-i.invariant in let n = i.count in let r = i.room in let lt = c.loop-i-test.true in omega arith

pub loop-i-preserved : goal.loop-i-preserved
loop-i-preserved c =
    let inv = c.loop-i.invariant in
    let lt = c.loop-i-test.true in
    let more = c.push_reserved.ensures in
    record {
      rest = subst (λ ys. down_to_one c.args.frames ≡ ys ++ down_to_one (suc c.args.frames - (c.loop-i.i + 1))) (sym more.items) (down_more c.args.frames c.loop-i.i c.loop-i.empty.items lt inv.rest);
      count = ap (λ ys. length ys + 1) more.items ∙ (let a = length-append c.loop-i.empty.items ((c.args.frames - c.loop-i.i) ∷ []) in let n = inv.count in omega arith);
      top = inl (omega arith);
      room = let r = inv.room in let k = more.capacity in omega arith;
    }

pub returns-clause-items : goal.returns-clause-items
returns-clause-items c =
    let inv = c.loop-i.invariant in
    down_all c.args.frames c.loop-i.i c.loop-i.empty.items (let t = c.loop-i-test.false in omega arith) inv.top inv.rest
