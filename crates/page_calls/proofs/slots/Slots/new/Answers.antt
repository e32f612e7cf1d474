use Rattle.std.proofs.Common.{◌≡◌, ◌∷◌, ◌++◌, [], length, ap, ◌∙◌, arith, length-append}
use Rattle.page_calls.proofs.Knowing.{opened_all, opened_first, opened_more}
use Rattle.page_calls.proofs.slots.Slots.new.Goals as goal

pub loop-page-preserved : goal.loop-page-preserved
loop-page-preserved c =
    let inv = c.loop-page.invariant in
    let firm = c.args.firm.now in
    let n = c.loop-page.page in
    let lt = c.loop-page-test.true in
    let more = c.push_reserved.ensures in
    record {
      items = more.items ∙ (ap (λ ys. ys ++ c.opened.result ∷ []) inv.items ∙ (ap (λ y. opened_first n firm ++ y ∷ []) c.opened.ensures ∙ opened_more n firm (omega arith)));
      count = ap length more.items ∙ (length-append c.loop-page.slots.items (c.opened.result ∷ []) ∙ (let k = inv.count in omega arith));
      room = let r = inv.room in let k = more.capacity in omega arith;
    }

pub returns : goal.returns
returns c =
    let inv = c.loop-page.invariant in
    let firm = c.args.firm.now in
    let top = c.loop-page-test.false in
    let most = c.loop-page.auto.page-end in
    let all : c.loop-page.page ≡ length firm = omega arith in
    inv.items ∙ (ap (λ k. opened_first k firm) all ∙ opened_all firm)
