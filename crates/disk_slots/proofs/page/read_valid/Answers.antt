use Rattle.std.proofs.Common.{Err, ap, arith}
use Rattle.page_model.specs.Page.{Page}
use Rattle.disk_slots.proofs.PageLemmas.{refused}
use Rattle.disk_slots.proofs.LawLemmas.{page-one}
use Rattle.disk_slots.proofs.page.read_valid.Goals as goal

pub returns-in_default-clause-cause : goal.returns-in_default-clause-cause
returns-in_default-clause-cause c = λ p v. refused c.args.page c.args.pages c.args.bytes.now p c.in_default.field-0 (λ e. c.in_default.ensures.cause_no_seal (ap Err e)) (λ e. c.in_default.ensures.cause_malformed (ap Err e)) v.slot

pub returns-then-generation-clause-cause : goal.returns-then-generation-clause-cause
returns-then-generation-clause-cause c = λ p v.
    let e = page-one c.args.page c.args.pages c.args.page c.args.pages c.args.bytes.now p c.in-Ok.node v.slot c.in-Ok.ensures.answer in
    let g = ap (λ (x : Page). x.generation) e in
    let s = v.saved in
    let t = c.if-generation.true in
    let r = c.generation.ensures in
    omega arith
